-- Items that are put behind others, where memory gets short on the way.
use Rattle.std.proofs.Common.{◌≡◌, ℕ, zero, suc, ◌+◌, ◌≤◌, min, List, [], ◌∷◌, ◌++◌, length, take, refl, sym, ap, subst, ◌∙◌, arith}
use Rattle.std.proofs.lemmas.List.{append_assoc, append-nil, take_at, take_all}
use Rattle.std.specs.Prelude.{Result, Ok, Err, OnErr}
use Rattle.vdesign.specs.Design.{Design}
use Rattle.vmodel.specs.declared.history.Item.{Item}
use Rattle.vmodel.specs.Step.{Transition, items_of, slot_end_of, HasFront}
use Rattle.vmodel.specs.Touched.{front_items}
use Rattle.vmodel.proofs.TouchedLemmas.{front_and_end}

-- what holds anyway holds of a refusal
pub on_err : {T E P : Type 0} (r : Result T E) → P → OnErr r P
on_err (Ok x) p = tt
on_err (Err e) p = p

-- what is there and what is left are what was to be there
pub some_came : (old coming now left : List Item) → now ++ left ≡ old ++ coming → length old ≤ length now → HasFront old coming now
some_came [] coming now left is le = (length now, sym (take_at now left (length now) refl) ∙ ap (take (length now)) is)
some_came (x ∷ old) coming [] left is le = absurd (omega (arith, le))
some_came (x ∷ old) coming (y ∷ now) left is le =
    let head : y ≡ x = cc in
    let tail : now ++ left ≡ old ++ coming = cc in
    let rest = some_came old coming now left tail (omega (arith, le)) in
    (rest.0, λ i. head i ∷ rest.1 i)

-- all of them
all_came : (old coming now : List Item) → now ≡ old ++ coming → HasFront old coming now
all_came old coming now is = (length coming, is ∙ ap (λ xs. old ++ xs) (sym (take_all (length coming) coming (omega arith))))

taken_before : (n : ℕ) (first more : List Item) → take n first ≡ take (min n (length first)) (first ++ more)
taken_before zero first more = let none : min zero (length first) ≡ zero = omega arith in ap (λ k. take k (first ++ more)) (sym none)
taken_before (suc n) [] more = let none : min (suc n) zero ≡ zero = omega arith in ap (λ k. take k more) (sym none)
taken_before (suc n) (x ∷ first) more =
    let one : suc (min n (length first)) ≡ min (suc n) (suc (length first)) = omega arith in
    ap (λ xs. x ∷ xs) (taken_before n first more) ∙ ap (λ k. take k (x ∷ first ++ more)) one

-- of the first ones alone
before_more : (old first more now : List Item) → HasFront old first now → HasFront old (first ++ more) now
before_more old first more now front = (min front.0 (length first), front.1 ∙ ap (λ xs. old ++ xs) (taken_before front.0 first more))

taken_behind : (first more : List Item) (n : ℕ) → first ++ take n more ≡ take (length first + n) (first ++ more)
taken_behind [] more n = let none : n ≡ zero + n = omega arith in ap (λ k. take k more) none
taken_behind (x ∷ first) more n =
    let one : suc (length first + n) ≡ suc (length first) + n = omega arith in
    ap (λ xs. x ∷ xs) (taken_behind first more n) ∙ ap (λ k. take k (x ∷ first ++ more)) one

-- all first ones, and some behind them
pub behind_first : (old first more middle now : List Item) → middle ≡ old ++ first → HasFront middle more now → HasFront old (first ++ more) now
behind_first old first more middle now is front = (
  length first + front.0,
  front.1
      ∙ ap (λ xs. xs ++ take front.0 more) is
      ∙ append_assoc old first (take front.0 more)
      ∙ ap (λ xs. old ++ xs) (taken_behind first more front.0),
)

-- nothing came
pub none_came : (old coming now : List Item) → now ≡ old → HasFront old coming now
none_came old coming now is = (0, is ∙ sym (append-nil old))

-- what comes before the end of the slot, or some of it
module _ (design : Design) (transition : Transition) (old now : List Item) where
  pub front_came : HasFront old (front_items design transition) now → HasFront old (items_of design transition) now
  front_came front =
      subst (λ items. HasFront old items now) (sym (front_and_end design transition))
      (before_more old (front_items design transition) (slot_end_of transition.state) now front)

  pub whole_front_came : now ≡ old ++ front_items design transition → HasFront old (items_of design transition) now
  whole_front_came is = front_came (all_came old (front_items design transition) now is)
