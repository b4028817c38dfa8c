use Rattle.std.proofs.Common.{◌≡◌, ◌≢◌, Bool, true, false, not, length, slice_get, Some, refl, sym, ◌∙◌, ap, arith, inl, inr}
use Rattle.std.proofs.lemmas.Bool.{cases_lt}
use Rattle.std.proofs.lemmas.Option.{slice_get_read, slice_get_within, same_Some}
use Rattle.vbits.specs.Vectors.{Vector, vector_same}
use Rattle.vbits.specs.Equal.{vectors_tell}
use Rattle.racebook.specs.Inner.{value_in}
use Rattle.racebook.proofs.RaceLemmas.{two_differ, all_same}
use Rattle.racebook.proofs.values.differ.Goals as goal

apart : (v w : Vector) → true ≡ not (vector_same v w) → v ≢ w
apart v w e same = let h : vector_same v w ≡ true = (vectors_tell v w).1 same in let g : not (vector_same v w) ≡ false = ap not h in cc

not_not : (b : Bool) → false ≡ not b → b ≡ true
not_not true e = refl
not_not false e = absurd (cc)

together : (v w : Vector) → false ≡ not (vector_same v w) → v ≡ w
together v w e = (vectors_tell v w).0 (not_not (vector_same v w) e)

pub returns-then-ne : goal.returns-then-ne
returns-then-ne c =
    let slot = c.args.slot.now in
    let i = c.loop-slot_state.slot_state-index in
    let lt = c.loop-slot_state-test.true in
    let at : slice_get slot i ≡ Some c.slot_state-item.result = slice_get_read slot (length slot) i c.slot_state-item.result refl (omega arith) c.slot_state-item.is in
    let first : slice_get slot 0 ≡ Some c.index-slot-0.result = slice_get_read slot (length slot) 0 c.index-slot-0.result refl (omega arith) c.index-slot-0.is in
    let differ = apart c.value_at.result c.value_at-first.result (sym c.if-ne.true ∙ c.ne.ensures) in
    two_differ (value_in c.args.variable) slot i 0 c.slot_state-item.result c.index-slot-0.result at first
    (λ same. differ (c.value_at.ensures ∙ same ∙ sym c.value_at-first.ensures))

pub loop-slot_state-preserved : goal.loop-slot_state-preserved
loop-slot_state-preserved c = λ k g lt there. elim (cases_lt k c.loop-slot_state.slot_state-index) [
  | inl before ↦ c.loop-slot_state.invariant k g before there
  | inr from ↦
      let slot = c.args.slot.now in
      let i = c.loop-slot_state.slot_state-index in
      let in_slot = c.loop-slot_state-test.true in
      let at : slice_get slot i ≡ Some c.slot_state-item.result = slice_get_read slot (length slot) i c.slot_state-item.result refl (omega arith) c.slot_state-item.is in
      let here : k ≡ i = omega arith in
      let is : g ≡ c.slot_state-item.result = same_Some g c.slot_state-item.result (sym there ∙ ap (slice_get slot) here ∙ at) in
      ap (value_in c.args.variable) is ∙ sym c.value_at.ensures ∙ together c.value_at.result c.value_at-first.result (sym c.if-ne.false ∙ c.ne.ensures)
]

pub returns : goal.returns
returns c = all_same (value_in c.args.variable) c.args.slot.now c.value_at-first.result (λ k g at.
    c.loop-slot_state.invariant k g (let lt = slice_get_within c.args.slot.now k g at in omega (arith, c.loop-slot_state-test.false)) at)
