-- *product rule*: The lines of a slot (IEEE 1364-2005, 11.3, 17.1.1, 17.1.2; docs/SCHEDULING.md, "Lines of a slot"), as what a run has
-- given to its history shows them.
use Rattle.std.specs.Prelude.{◌≡◌, ◌⊎◌, ℕ, suc, if◌then◌else◌, nat_eq, List, [], ◌∷◌, ◌++◌, Some}
use Rattle.std.specs.Cmp.Lexicographic.{pointwise}
use Rattle.sched_core.specs.Bags.{lines_of}
use Rattle.vbits.specs.Vectors.{Vector}
use Rattle.vmodel.specs.declared.history.Item.{Item}
use Rattle.vmodel.specs.declared.history.Item.TheVariants.{SlotEnd, Dump, Line, Monitor}
use Rattle.vmodel.specs.State.{State}
use Rattle.vmodel.specs.Step.{slot_end_of}

-- how often a line stands among these
abbrev pub times_in : List ℕ → List (List ℕ) → ℕ
times_in line [] = 0
times_in line (one ∷ more) = if pointwise nat_eq line one then suc (times_in line more) else times_in line more

-- all that these items print, by `$display`, `$write` or `$strobe`, in this order
abbrev pub printed_in : List Item → List ℕ
printed_in [] = []
printed_in (Line text ∷ items) = text ++ printed_in items
printed_in (SlotEnd time values ∷ items) = printed_in items
printed_in (Dump command ∷ items) = printed_in items
printed_in (Monitor place ∷ items) = printed_in items

-- none of these items ends a slot
abbrev pub AreWithin : List Item → Type 0
AreWithin [] = Unit {0}
AreWithin (SlotEnd time values ∷ items) = ⊥
AreWithin (Dump command ∷ items) = AreWithin items
AreWithin (Line text ∷ items) = AreWithin items
AreWithin (Monitor place ∷ items) = AreWithin items

-- the last of these items ends a slot
abbrev pub EndsSlot : List Item → Type 0
EndsSlot items = (front : List Item) × (time : ℕ) × (values : List Vector) × (items ≡ front ++ SlotEnd time values ∷ [])

-- what a run has given: the items of earlier slots, then those of this slot so far, then its end, where the state is one (11.4)
pub record IsSlot (s : State) (items before slot : List Item) : Type 0 where
  pub whole : items ≡ before ++ slot ++ slot_end_of s
  pub within : AreWithin slot
  pub begins : (before ≡ []) ⊎ EndsSlot before

-- the bag has each line as often as it stands in what the slot has printed, cut at its line feeds
pub record HasSlotLines (s : State) (items : List Item) : Type 0 where
  pub before : List Item
  pub slot : List Item
  pub slot_is : IsSlot s items before slot
  pub bag : List (List ℕ)
  pub printed : s.printed ≡ Some bag
  pub times : (line : List ℕ) → times_in line bag ≡ times_in line (lines_of (printed_in slot))
