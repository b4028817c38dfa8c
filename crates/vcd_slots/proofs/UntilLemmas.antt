-- The items up to the end of a time.
use Rattle.std.proofs.Common.{◌≡◌, ℕ, ◌≤◌, Bool, true, if◌then◌else◌, List, [], ◌∷◌, ◌++◌, Some, None, refl, ap, ◌∙◌, arith}
use Rattle.std.proofs.lemmas.Bool.{le-leb, le-ltb, lt-ltb}
use Rattle.std.proofs.lemmas.Option.{same_Some}
use Rattle.vcd_read.specs.Commands.{Item, at, value, off, on}
use Rattle.vcd_slots.specs.Slots.{DoNotFall, before_later, is_begun, items_until, last_time}
use Rattle.vcd_slots.specs.Laws.{IsNext}

-- times that don't fall end with the greatest
not_above : (before now : ℕ) (items : List Item) → DoNotFall (Some before) items → last_time (Some before) items ≡ Some now → before ≤ now
not_above before now [] order last = let same : before ≡ now = same_Some before now last in omega arith
not_above before now (at time ∷ items) order last =
    let first : before ≤ time = order.0 in let more : time ≤ now = not_above time now items order.1 last in omega arith
not_above before now (value code digits ∷ items) order last = not_above before now items order last
not_above before now (off ∷ items) order last = not_above before now items order last
not_above before now (on ∷ items) order last = not_above before now items order last

-- items whose times don't fall, and the last of which has come at this one
begun_by : (now last : ℕ) (items rest : List Item) → last ≤ now → DoNotFall None items → last_time None items ≡ Some last → is_begun now (items ++ rest) ≡ true
begun_by now last [] rest le order is = absurd cc
begun_by now last (at time ∷ items) rest le order is = let low : time ≤ last = not_above time last items order.1 is in le-leb time now (omega arith)
begun_by now last (value code digits ∷ items) rest le order is = begun_by now last items rest le order is
begun_by now last (off ∷ items) rest le order is = begun_by now last items rest le order is
begun_by now last (on ∷ items) rest le order is = begun_by now last items rest le order is

nothing_until : (now : ℕ) (rest : List Item) → IsNext now rest → before_later now rest ≡ []
nothing_until now [] next = refl
nothing_until now (at time ∷ rest) next = ap (λ (b : Bool). if b then [] else at time ∷ before_later now rest) (lt-ltb now time next)
nothing_until now (value code digits ∷ rest) next = absurd next
nothing_until now (off ∷ rest) next = absurd next
nothing_until now (on ∷ rest) next = absurd next

module _ (now last : ℕ) (rest : List Item) (le : last ≤ now) (next : IsNext now rest) where
  kept_until : (time : ℕ) (items : List Item) → time ≤ last → before_later now (items ++ rest) ≡ items →
      before_later now (at time ∷ items ++ rest) ≡ at time ∷ items
  kept_until time items low more =
      ap (λ (b : Bool). if b then [] else at time ∷ before_later now (items ++ rest)) (le-ltb now time (omega arith))
      ∙ ap (λ (list : List Item). at time ∷ list) more

  some_until : (before : ℕ) (items : List Item) → DoNotFall (Some before) items → last_time (Some before) items ≡ Some last →
      before_later now (items ++ rest) ≡ items
  some_until before [] order is = nothing_until now rest next
  some_until before (at time ∷ items) order is = kept_until time items (not_above time last items order.1 is) (some_until time items order.1 is)
  some_until before (value code digits ∷ items) order is = ap (λ (list : List Item). value code digits ∷ list) (some_until before items order is)
  some_until before (off ∷ items) order is = ap (λ (list : List Item). off ∷ list) (some_until before items order is)
  some_until before (on ∷ items) order is = ap (λ (list : List Item). on ∷ list) (some_until before items order is)

  all_until : (items : List Item) → DoNotFall None items → last_time None items ≡ Some last → before_later now (items ++ rest) ≡ items
  all_until [] order is = absurd cc
  all_until (at time ∷ items) order is = kept_until time items (not_above time last items order.1 is) (some_until time items order.1 is)
  all_until (value code digits ∷ items) order is = ap (λ (list : List Item). value code digits ∷ list) (all_until items order is)
  all_until (off ∷ items) order is = ap (λ (list : List Item). off ∷ list) (all_until items order is)
  all_until (on ∷ items) order is = ap (λ (list : List Item). on ∷ list) (all_until items order is)

  pub items_by : (items : List Item) → DoNotFall None items → last_time None items ≡ Some last → items_until now (items ++ rest) ≡ items
  items_by items order is =
      ap (λ (b : Bool). if b then before_later now (items ++ rest) else []) (begun_by now last items rest le order is) ∙ all_until items order is

pub until_now_is : (now : ℕ) (items rest : List Item) → DoNotFall None items → last_time None items ≡ Some now → IsNext now rest →
    items_until now (items ++ rest) ≡ items
until_now_is now items rest order is next = items_by now now rest (omega arith) next items order is
