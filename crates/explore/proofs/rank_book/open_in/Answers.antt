use Rattle.explore.proofs.RankBookLemmas.{opens_new, opens_known}
use Rattle.explore.proofs.rank_book.open_in.Goals as goal
use Rattle.explore.proofs.rank_book.open_in.Goals.{in-Ok-New, in-Ok-Known, in-Err}

pub returns : goal.returns
returns g c = record {
  ok = elim c.match-meet.branch [
    | in-Ok-New w ↦ rw w.result-is (opens_new g.S.PartialEq.eq g.met.S.Eq.laws c.args.of_rank.now c.args.entry _ c.meet.new.self (rw w.in-Ok-New.field-0-is at w.in-Ok-New.ensures.ok))
    | in-Ok-Known w ↦ rw w.result-is (opens_known g.S.PartialEq.eq c.args.of_rank.now c.args.entry _ c.meet.new.self (rw w.in-Ok-Known.field-0-is at w.in-Ok-Known.ensures.ok))
    | in-Err w ↦ rw w.result-is tt
  ];
}
