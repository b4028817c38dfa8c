use Rattle.vmachine.proofs.StandLemmas.{first_stands, width_stands, mark_stands, after_stands, rank_stands, rank_own, same_stands, one_stands, only_stands, own_stands, runs_there, runs_here, all_stand}
use Rattle.vmachine.proofs.law.machine_law.Goals as goal

pub returns : goal.returns
returns c = record {
  first = first_stands;
  width = width_stands;
  mark = mark_stands;
  after = after_stands;
  rank = rank_stands;
  same = same_stands;
  one = one_stands;
  only = only_stands;
  own = own_stands;
  own_rank = rank_own;
  runs = runs_there;
  runs_back = runs_here;
  stands = all_stand;
}
