-- *internal*: How the program keeps what the definitions see as lists: words for the contracts of parts within.
use Rattle.std.specs.Prelude.{◌==◌, ℕ, zero, suc, ◌+◌, if◌then◌else◌, nat_lt, List, [], ◌∷◌, Option, Some, None}
use Rattle.vmodel.specs.declared.part.Part.{Part}
use Rattle.vmodel.specs.declared.part.Part.TheVariants.{Whole, Bits}
use Rattle.vbits.specs.Vectors.{Vector}
use Rattle.vmodel.specs.Parts.{with_bits}
use Rattle.vmodel.specs.declared.part.Kept.{Kept}
use Rattle.vmodel.specs.declared.part.Kept.TheVariants.{One, Many}
use Rattle.vmodel.specs.declared.frame.Frame.{Frame}
use Rattle.vmodel.specs.Queue.{Later, Queue}
use Rattle.vmodel.specs.Step.{place_of}
use Rattle.vmodel.specs.declared.choice.Choice.{Choice}
use Rattle.vmodel.specs.Holding.{with_one_held}

-- ---- parts

-- one is kept by itself, others in a list that is shared
abbrev pub listed_parts : Option Part → Option (List Part) → List Part
listed_parts (Some part) many = part ∷ []
listed_parts None None = []
listed_parts None (Some list) = list

abbrev pub variable_of : Part → ℕ
variable_of (Whole variable value) = variable
variable_of (Bits variable low value) = variable

-- what a part makes of its variable's value
abbrev pub value_over : Part → Vector → Vector
value_over (Whole variable value) old = value
value_over (Bits variable low value) old = with_bits old low value

-- and of another variable's: nothing
abbrev pub over_one : Part → ℕ → Vector → Vector
over_one part n old = if variable_of part == n then value_over part old else old

-- what the parts make of a variable's value, from left to right
abbrev pub over_all : List Part → ℕ → Vector → Vector
over_all [] n old = old
over_all (part ∷ parts) n old = over_all parts n (over_one part n old)

abbrev pub kept_parts : Kept → List Part
kept_parts (One part) = part ∷ []
kept_parts (Many list) = list.now

-- ---- the future

-- how many future times are below this one
abbrev pub place_of_time : ℕ → List (ℕ × Later) → ℕ
place_of_time t [] = zero
place_of_time t (e ∷ es) = if nat_lt e.0 t then suc (place_of_time t es) else zero

-- the time after a delay, within the limit
abbrev pub time_after : ℕ → Queue → Option ℕ
time_after d q = if nat_lt q.until (q.time + d) then None else Some (q.time + d)

-- there is an entry, and the fact holds of it
abbrev pub SomeIs : (ℕ × Later → Type 0) → Option (ℕ × Later) → Type 0
SomeIs P None = ⊥
SomeIs P (Some e) = P e

-- there is no entry of which the fact holds
abbrev pub NoneIs : (ℕ × Later → Type 0) → Option (ℕ × Later) → Type 0
NoneIs P None = Unit {0}
NoneIs P (Some e) = ¬ P e

-- ---- what is held back, and what is printed

-- held back with this choice, if there is one
abbrev pub with_some_held : Option Choice → List ℕ → List ℕ
with_some_held None held = held
with_some_held (Some c) held = with_one_held c held

-- ---- what a process comes to

-- the place that the first of the frames names, if there is one
abbrev pub first_place : List Frame → Option ℕ
first_place [] = None
first_place (frame ∷ after) = Some (place_of frame)
