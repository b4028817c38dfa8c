use Rattle.std.proofs.Common.{◌≡◌, ◌≢◌, Bool, true, false, not, length, slice_get, Some, refl, sym, ◌∙◌, ap, arith, inl, inr}
use Rattle.std.proofs.lemmas.Bool.{cases_lt}
use Rattle.std.proofs.lemmas.Option.{slice_get_read, slice_get_within, same_Some}
use Rattle.sched_core.specs.Bags.{lines_same}
use Rattle.sched_core.specs.BagLaws.{lines_tell}
use Rattle.racebook.specs.LineRaces.{Texts}
use Rattle.racebook.specs.Inner.{lines_in}
use Rattle.racebook.proofs.RaceLemmas.{two_differ, all_same}
use Rattle.racebook.proofs.lines.differ_in_lines.Goals as goal

apart : (v w : Texts) → true ≡ not (lines_same v w) → v ≢ w
apart v w e same = let h : lines_same v w ≡ true = (lines_tell v w).1 same in let g : not (lines_same v w) ≡ false = ap not h in cc

not_not : (b : Bool) → false ≡ not b → b ≡ true
not_not true e = refl
not_not false e = absurd (cc)

together : (v w : Texts) → false ≡ not (lines_same v w) → v ≡ w
together v w e = (lines_tell v w).0 (not_not (lines_same v w) e)

pub returns-then-ne : goal.returns-then-ne
returns-then-ne c =
    let slot = c.args.slot.now in
    let i = c.loop-slot_state.slot_state-index in
    let lt = c.loop-slot_state-test.true in
    let at : slice_get slot i ≡ Some c.slot_state-item.result = slice_get_read slot (length slot) i c.slot_state-item.result refl (omega arith) c.slot_state-item.is in
    let first : slice_get slot 0 ≡ Some c.index-slot-0.result = slice_get_read slot (length slot) 0 c.index-slot-0.result refl (omega arith) c.index-slot-0.is in
    let differ = apart c.lines_at.result.now c.lines_at-first.result.now (sym c.if-ne.true ∙ c.ne.ensures) in
    two_differ lines_in slot i 0 c.slot_state-item.result c.index-slot-0.result at first
    (λ same. differ (c.lines_at.ensures ∙ same ∙ sym c.lines_at-first.ensures))

pub loop-slot_state-preserved : goal.loop-slot_state-preserved
loop-slot_state-preserved c = λ k g lt there. elim (cases_lt k c.loop-slot_state.slot_state-index) [
  | inl before ↦ c.loop-slot_state.invariant k g before there
  | inr from ↦
      let slot = c.args.slot.now in
      let i = c.loop-slot_state.slot_state-index in
      let in_slot = c.loop-slot_state-test.true in
      let at : slice_get slot i ≡ Some c.slot_state-item.result = slice_get_read slot (length slot) i c.slot_state-item.result refl (omega arith) c.slot_state-item.is in
      let here : k ≡ i = omega arith in
      let is : g ≡ c.slot_state-item.result = same_Some g c.slot_state-item.result (sym there ∙ ap (slice_get slot) here ∙ at) in
      ap lines_in is ∙ sym c.lines_at.ensures ∙ together c.lines_at.result.now c.lines_at-first.result.now (sym c.if-ne.false ∙ c.ne.ensures)
]

pub returns : goal.returns
returns c = all_same lines_in c.args.slot.now c.lines_at-first.result.now (λ k g at.
    c.loop-slot_state.invariant k g (let lt = slice_get_within c.args.slot.now k g at in omega (arith, c.loop-slot_state-test.false)) at)
