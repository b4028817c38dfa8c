-- *internal*: Which variables a run may have changed since the end of a slot, and what of its items comes before such an end.
use Rattle.std.specs.Prelude.{◌≡◌, ℕ, ◌==◌, Bool, true, false, if◌then◌else◌, not, is_some, ◌&&◌, ◌||◌, List, [], ◌∷◌, ◌++◌, map, length, slice_get, Option, Some, None}
use Rattle.vbits.specs.Vectors.{Vector}
use Rattle.vdesign.specs.Design.{Design}
use Rattle.vmodel.specs.declared.history.Item.{Item}
use Rattle.vmodel.specs.declared.history.Item.TheVariants.{SlotEnd, Dump, Line, Monitor}
use Rattle.vmodel.specs.declared.part.Part.{Part}
use Rattle.vmodel.specs.Inner.{variable_of}
use Rattle.vmodel.specs.State.{State}
use Rattle.vmodel.specs.Step.{Transition, shown_items, strobe_items}

-- ---- which variables

-- whether a number stands in a list
abbrev pub is_in : ℕ → List ℕ → Bool
is_in n [] = false
is_in n (m ∷ ms) = (n == m) || is_in n ms

-- the values are those of before but for the variables of a list; without a list they may be any
abbrev pub ChangesOnly : Option (List ℕ) → List Vector → List Vector → Type 0
ChangesOnly None old new = Unit {0}
ChangesOnly (Some list) old new = (length new ≡ length old) × ((n : ℕ) → is_in n list ≡ false → slice_get new n ≡ slice_get old n)

-- the same, if some were kept
abbrev pub ChangesOnlySince : Option (List ℕ) → Option (List Vector) → List Vector → Type 0
ChangesOnlySince touched None new = Unit {0}
ChangesOnlySince touched (Some old) new = ChangesOnly touched old new

-- values that take over the value of a variable: where they may have differed there and at others, they may at the others alone
abbrev pub TakesOver : ℕ → List Vector → List Vector → List Vector → Type 0
TakesOver n old values new = (more : List ℕ) → ChangesOnly (Some (n ∷ more)) old values → ChangesOnly (Some more) new values

-- these may have changed too
abbrev pub TouchesToo : List ℕ → Option (List ℕ) → Option (List ℕ) → Type 0
TouchesToo more None new = new ≡ None
TouchesToo more (Some old) None = Unit {0}
TouchesToo more (Some old) (Some new) = (n : ℕ) → is_in n new ≡ false → (is_in n old ≡ false) × (is_in n more ≡ false)

-- the variables of parts
abbrev pub variables_of : List Part → List ℕ
variables_of parts = map variable_of parts

-- what is kept, if anything is, are these
abbrev pub IsKeptAs : List Vector → Option (List Vector) → Type 0
IsKeptAs values None = Unit {0}
IsKeptAs values (Some kept) = kept ≡ values

-- ---- the ends of slots

abbrev pub ends_slot : Item → Bool
ends_slot (SlotEnd time values) = true
ends_slot (Dump command) = false
ends_slot (Line text) = false
ends_slot (Monitor place) = false

-- none of these ends a slot
abbrev pub HasNoSlotEnd : List Item → Type 0
HasNoSlotEnd [] = Unit {0}
HasNoSlotEnd (item ∷ more) = (ends_slot item ≡ false) × HasNoSlotEnd more

-- a slot has ended, and the run goes on
abbrev pub is_slot_end : State → Bool
is_slot_end s = not (is_some s.cause) && (length s.queue.active == 0 && length s.queue.activated == 0)

-- its end
abbrev pub end_item : State → Item
end_item s = SlotEnd s.queue.time s.values

-- its end where it is due
abbrev pub end_due : Bool → State → List Item
end_due due s = if due then end_item s ∷ [] else []

-- what a step gives before the end of the slot: what it showed at once, and where the slot ends the lines of the monitor events
abbrev pub front_items : Design → Transition → List Item
front_items design t = shown_items design t.state t.effect.shown ++ (if is_slot_end t.state then strobe_items design t.state t.monitors else [])
