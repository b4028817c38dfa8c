-- Items that are put behind others, where memory gets short on the way.
use Rattle.std.proofs.Common.{◌≡◌, ℕ, ◌+◌, ◌-◌, ◌<◌, ◌≤◌, nat_le, Bool, true, false, List, ◌++◌, length, take, refl, sym, ap, subst, ◌∙◌, arith}
use Rattle.std.proofs.lemmas.Bool.Decides.{nat_tests}
use Rattle.std.proofs.lemmas.List.{append_assoc, take_all, take-append-le}
use Rattle.std.proofs.Math.Seq.{take-append_seam, take-append-add}
use Rattle.std.specs.Prelude.{Result, Ok, Err, OnErr}
use Rattle.vdesign.specs.Design.{Design}
use Rattle.vmodel.specs.declared.history.Item.{Item}
use Rattle.vmodel.specs.Step.{Transition, items_of, slot_end_of, HasFront}
use Rattle.vmodel.specs.Touched.{front_items}
use Rattle.vmodel.proofs.TouchedLemmas.{front_and_end}

-- what holds anyway holds of a refusal
pub when_refused : {P T E : Type 0} → P → (r : Result T E) → OnErr r P
when_refused p (Ok x) = tt
when_refused p (Err e) = p

-- what is there and what is left are what was to be there
pub came_before : (coming old now left : List Item) → length old ≤ length now → now ++ left ≡ old ++ coming → HasFront old coming now
came_before coming old now left le is =
    let n = length now - length old in
    let all : length now ≡ length old + n = omega (arith, le) in (
      n,
      sym (take-append_seam now left)
          ∙ ap (take (length now)) is
          ∙ ap (λ (k : ℕ). take k (old ++ coming)) all
          ∙ take-append-add old coming n,
    )

-- all first ones, and some behind them
pub came_behind : (first more old middle now : List Item) → HasFront middle more now → middle ≡ old ++ first → HasFront old (first ++ more) now
came_behind first more old middle now front is = (
  length first + front.0,
  front.1
      ∙ ap (λ xs. xs ++ take front.0 more) is
      ∙ append_assoc old first (take front.0 more)
      ∙ ap (λ xs. old ++ xs) (sym (take-append-add first more front.0)),
)

-- some of the first ones alone
came_first : (first more old now : List Item) → HasFront old first now → HasFront old (first ++ more) now
came_first first more old now front = by (nat_le front.0 (length first)) refl
  where
    by : (few : Bool) → nat_le front.0 (length first) ≡ few → HasFront old (first ++ more) now
    by true is =
        let le : front.0 ≤ length first = grind (arith, nat_tests) in
        (front.0, front.1 ∙ ap (λ xs. old ++ xs) (sym (take-append-le front.0 first more le)))
    by false is =
        let lt : length first < front.0 = grind (arith, nat_tests) in (
          length first,
          front.1 ∙ ap (λ xs. old ++ xs) (take_all front.0 first (omega (arith, lt)) ∙ sym (take-append_seam first more)),
        )

-- what comes before the end of the slot, or some of it
module _ (transition : Transition) (design : Design) (now old : List Item) where
  pub front_comes : HasFront old (front_items design transition) now → HasFront old (items_of design transition) now
  front_comes front =
      subst (λ items. HasFront old items now) (sym (front_and_end design transition))
      (came_first (front_items design transition) (slot_end_of transition.state) old now front)

  pub whole_front_comes : now ≡ old ++ front_items design transition → HasFront old (items_of design transition) now
  whole_front_comes is =
      let front = front_items design transition in
      front_comes (length front, is ∙ ap (λ xs. old ++ xs) (sym (take_all (length front) front (omega arith))))
