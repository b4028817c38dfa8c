use Rattle.std.proofs.Common.{length, rules}
use Rattle.std.proofs.lemmas.List.Sorted.{IsNonDecreasingBy-from_sort_by_key, IsPermutation-map}
use Rattle.std.proofs.lemmas.Result.{on_ok_weaker}
use Rattle.explore.specs.Ranked.{pairs_of}
use Rattle.explore.specs.declared.rank_marks.FoundMark.{FoundMark}
use Rattle.vmachine.specs.declared.machine_state.MachineState.{MachineState}
use Rattle.race_groups.proofs.SumLemmas.{cuts_moved, fewest_first, sums_moved}
use Rattle.race_groups.proofs.ends.put_ends.Goals as goal

pub returns-clause-sums : goal.returns-clause-sums
returns-clause-sums c =
    let sorted = c.sort_by_key.new.self.items in
    on_ok_weaker c.put_in_turn.result
    (sums_moved c.args.machine.now (pairs_of c.args.ends.items) (pairs_of sorted) (pairs_of c.args.kept.now.items)
    (pairs_of c.put_in_turn.new.kept.items)
    (IsPermutation-map (λ (f : FoundMark MachineState). (f.state, f.log)) c.args.ends.items sorted c.in_ok-sort_by_key.ensures.permutation))
    c.put_in_turn.ensures.sums

pub returns-clause-sums_cuts : goal.returns-clause-sums_cuts
returns-clause-sums_cuts c =
    let sorted = c.sort_by_key.new.self.items in
    on_ok_weaker c.put_in_turn.result
    (cuts_moved c.args.machine.now (pairs_of c.args.ends.items) (pairs_of sorted) (pairs_of c.args.kept.now.items)
    (pairs_of c.put_in_turn.new.kept.items) (pairs_of c.args.cuts.now.items) (pairs_of c.put_in_turn.new.cuts.items)
    (IsPermutation-map (λ (f : FoundMark MachineState). (f.state, f.log)) c.args.ends.items sorted c.in_ok-sort_by_key.ensures.permutation))
    c.put_in_turn.ensures.sums_cuts

pub returns-clause-fewest : goal.returns-clause-fewest
returns-clause-fewest c =
    let sorted = c.sort_by_key.new.self.items in
    on_ok_weaker c.put_in_turn.result
    (fewest_first c.args.ends.items sorted (pairs_of c.args.kept.now.items) (pairs_of c.put_in_turn.new.kept.items)
    c.in_ok-sort_by_key.ensures.permutation
    (IsNonDecreasingBy-from_sort_by_key (λ (f : FoundMark MachineState). length f.log) sorted
    c.in_ok-sort_by_key.ensures.sorted (λ a r q k. search rules)))
    c.put_in_turn.ensures.first
