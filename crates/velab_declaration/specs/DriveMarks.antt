-- *internal*: The bits that are driven, kept as marks: of each variable a letter a bit, x where it is driven and z where it isn't.
use Rattle.std.specs.Prelude.{◌≡◌, ℕ, ◌+◌, Bool, true, false, not, if◌then◌else◌, List, [], ◌∷◌, ◌++◌, map, slice_get, Option, None, Some}
use Rattle.vbits.specs.declared.bit4.Bit4.{Bit4}
use Rattle.vbits.specs.declared.bit4.Bit4.TheVariants.{X, Z}
use Rattle.vbits.specs.Vectors.{Vector}
use Rattle.vdesign.specs.Design.{Variable}
use Rattle.vdesign.specs.declared.action.Action.{Action}
use Rattle.vvalue.specs.Value.{Environment}
use Rattle.velab_expr.specs.declared.fault.ElabFault.{ElabFault}
use Rattle.velab_declaration.specs.Drives.{Place, is_driven, places_from, drives_again, drivers_fault, driven_by_all, with_start_values}

abbrev pub mark_letter : List Place → Place → Bit4
mark_letter driven place = if is_driven driven place then X else Z

abbrev pub mark_of : List Place → ℕ → ℕ → Vector
mark_of driven n size = record { letters = map (mark_letter driven) (places_from n 0 size); signed = false }

-- those of the variables from number n on
abbrev pub marks_from : List Place → ℕ → List Variable → List Vector
marks_from driven n [] = []
marks_from driven n (v ∷ more) = mark_of driven n v.length ∷ marks_from driven (n + 1) more

abbrev pub AreMarks : List Place → List Variable → List Vector → Type 0
AreMarks driven variables marks = marks ≡ marks_from driven 0 variables

-- with one bit more, if it isn't driven
abbrev pub with_mark : List Place → ℕ → ℕ → ℕ → Option Vector
with_mark driven n size bit = if is_driven driven (n, bit) then None else Some (mark_of (driven ++ (n, bit) ∷ []) n size)

abbrev pub length_if : Option Variable → ℕ
length_if None = 0
length_if (Some v) = v.length

abbrev pub size_in : List Variable → ℕ → ℕ
size_in variables n = length_if (slice_get variables n)

-- whether these bits were all free, and then their marks
pub record Marks (driven places : List Place) (variables : List Variable) (free : Bool) (marks : List Vector) : Type 0 where
  pub told : free ≡ not (drives_again driven places)
  pub are : free ≡ true → AreMarks (driven ++ places) variables marks

-- the first action that drives a bit again, or else the marks of what all drive
pub record Tells (driven : List Place) (now : Environment) (variables : List Variable) (actions : List Action) (words : List (Option ℕ))
    (fault : Option ElabFault) (marks : List Vector) : Type 0 where
  pub told : fault ≡ drivers_fault now driven actions words
  pub are : fault ≡ None → AreMarks (driven ++ driven_by_all now actions) variables marks

-- what the variables from number n on are at first
abbrev pub starts_from : List Place → ℕ → List Variable → List Vector
starts_from driven n variables = map (λ v. v.start) (with_start_values driven n variables)
