use Rattle.std.proofs.Common.{List, rules, sym, subst}
use Rattle.std.specs.List.Sorted.{IsPermutation}
use Rattle.std.proofs.lemmas.List.Sorted.{IsNonDecreasingBy-from_sort_by_key}
use Rattle.std.proofs.lemmas.Result.{IfOk-weaker}
use Rattle.racebook.specs.declared.slot_state.SlotState.{SlotState}
use Rattle.racebook.specs.Inner.{AreAllLineRaces, AreInTime, HavePrinted, printing_among}
use Rattle.racebook.proofs.FoundLemmas.{in_time}
use Rattle.racebook.proofs.PrintingLemmas.{have_printed, lines_in_all}
use Rattle.racebook.proofs.book.line_races_in.Goals as goal

pub line_races_among-requires-clause-printed : goal.line_races_among-requires-clause-printed
line_races_among-requires-clause-printed c =
    let moved : IsPermutation (printing_among c.args.slot_states.now) c.sort_by_key.new.self.items =
    subst (λ (xs : List SlotState). IsPermutation xs c.sort_by_key.new.self.items) c.in_ok-printing.ensures c.in_ok-sort_by_key.ensures.permutation in
    subst (λ (xs : List SlotState). HavePrinted xs) (sym c.deref.ensures.value) (have_printed c.args.slot_states.now c.sort_by_key.new.self.items moved)

pub line_races_among-requires-clause-order : goal.line_races_among-requires-clause-order
line_races_among-requires-clause-order c =
    subst (λ (xs : List SlotState). AreInTime xs) (sym c.deref.ensures.value)
    (in_time c.sort_by_key.new.self.items (IsNonDecreasingBy-from_sort_by_key (λ (g : SlotState). g.time) c.sort_by_key.new.self.items c.in_ok-sort_by_key.ensures.sorted (λ a r q k. search rules)))

pub returns : goal.returns
returns c =
    let moved : IsPermutation (printing_among c.args.slot_states.now) c.sort_by_key.new.self.items =
    subst (λ (xs : List SlotState). IsPermutation xs c.sort_by_key.new.self.items) c.in_ok-printing.ensures c.in_ok-sort_by_key.ensures.permutation in
    IfOk-weaker c.line_races_among.result (λ races. AreAllLineRaces c.deref.result.now races.items) (λ races. AreAllLineRaces c.args.slot_states.now races.items)
    (λ races book. lines_in_all c.args.slot_states.now c.sort_by_key.new.self.items races.items moved
    (subst (λ (xs : List SlotState). AreAllLineRaces xs races.items) c.deref.ensures.value book)) c.line_races_among.ensures
