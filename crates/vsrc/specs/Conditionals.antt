-- *trusted*: Conditional parts of a text (IEEE 1364-2005, 19.4).
use Rattle.std.specs.Prelude.{ℕ, Bool, true, false, if◌then◌else◌, nat_le, List, [], ◌∷◌, length, Result, Ok, Err}
use Rattle.vsrc.specs.declared.refusal.Refusal.{Refusal}
use Rattle.vsrc.specs.declared.refusal.Why.TheVariants.{Directive, Limit}
use Rattle.vsrc.specs.declared.conditionals.Part.{Part}
use Rattle.vsrc.specs.declared.conditionals.Part.TheVariants.{Read, Sought, Past}
use Rattle.vsrc.specs.declared.conditionals.Open.{Open}
use Rattle.vsrc.specs.Macros.{refused_at}

-- the most conditionals that may be open
abbrev pub open_limit : ℕ
open_limit = 32

-- what stands here is read where the innermost conditional that is open has its part read, or none is open
abbrev pub is_taken : Part → Bool
is_taken Read = true
is_taken Sought = false
is_taken Past = false

abbrev pub is_read : List Open → Bool
is_read [] = true
is_read (inner ∷ opens) = is_taken inner.part

-- The first part is read where its condition holds, and else one of the parts behind it is sought; no part of a
-- conditional in a part that is skipped is read.
abbrev pub first_part : Bool → Bool → Part
first_part false holds = Past
first_part true true = Read
first_part true false = Sought

-- behind a part: once one was read the others are skipped, and else the next is read where its condition holds
abbrev pub next_part : Part → Bool → Part
next_part Read holds = Past
next_part Sought true = Read
next_part Sought false = Sought
next_part Past holds = Past

-- `ifdef and `ifndef open a conditional, innermost first in the list
abbrev pub open_part : Bool → ℕ → List Open → Result (List Open) Refusal
open_part holds at opens =
    if nat_le open_limit (length opens) then Err (refused_at at Limit)
    else Ok (record { at = at; part = first_part (is_read opens) holds; last = false } ∷ opens)

-- `elsif and `else begin its next part; no part follows that of `else
abbrev pub begin_part : Bool → Bool → ℕ → List Open → Result (List Open) Refusal
begin_part holds last at [] = Err (refused_at at Directive)
begin_part holds last at (inner ∷ opens) =
    if inner.last then Err (refused_at at Directive)
    else Ok (record { at = inner.at; part = next_part inner.part holds; last = last } ∷ opens)

-- `endif closes it
abbrev pub close_part : ℕ → List Open → Result (List Open) Refusal
close_part at [] = Err (refused_at at Directive)
close_part at (inner ∷ opens) = Ok opens
