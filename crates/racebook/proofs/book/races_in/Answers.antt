use Rattle.std.proofs.Common.{List, rules, sym, subst}
use Rattle.std.proofs.lemmas.List.Sorted.{IsNonDecreasingBy-from_sort_by_key}
use Rattle.std.proofs.lemmas.Result.{IfOk-weaker}
use Rattle.racebook.specs.declared.slot_state.SlotState.{SlotState}
use Rattle.racebook.specs.Inner.{AreAllRaces, AreInTime, AreWide}
use Rattle.racebook.proofs.FoundLemmas.{in_time}
use Rattle.racebook.proofs.PrintingLemmas.{races_moved, wide_moved}
use Rattle.racebook.proofs.book.races_in.Goals as goal

pub races_among-requires-clause-wide : goal.races_among-requires-clause-wide
races_among-requires-clause-wide c =
    subst (λ (xs : List SlotState). AreWide c.args.count xs) (sym c.deref.ensures.value)
    (wide_moved c.args.count c.args.slot_states.items c.sort_by_key.new.self.items c.in_ok-sort_by_key.ensures.permutation c.requires)

pub races_among-requires-clause-order : goal.races_among-requires-clause-order
races_among-requires-clause-order c =
    subst (λ (xs : List SlotState). AreInTime xs) (sym c.deref.ensures.value)
    (in_time c.sort_by_key.new.self.items (IsNonDecreasingBy-from_sort_by_key (λ (g : SlotState). g.time) c.sort_by_key.new.self.items c.in_ok-sort_by_key.ensures.sorted (λ a r q k. search rules)))

pub returns : goal.returns
returns c =
    IfOk-weaker c.races_among.result (λ races. AreAllRaces c.deref.result.now races.items) (λ races. AreAllRaces c.args.slot_states.items races.items)
    (λ races book. races_moved c.args.slot_states.items c.sort_by_key.new.self.items races.items c.in_ok-sort_by_key.ensures.permutation
    (subst (λ (xs : List SlotState). AreAllRaces xs races.items) c.deref.ensures.value book)) c.races_among.ensures
