-- *trusted*: What a `$dumpvars` selects (IEEE 1364-2005, 12.5, 18.1.2).
use Rattle.std.specs.Prelude.{ℕ, List, [], ◌∷◌, ◌++◌, map, Option, None, Some, Result, Ok}
use Rattle.std.specs.List.{flat_map}
use Rattle.vbits.specs.Numbers.{number}
use Rattle.vwords.specs.Words.{Text}
use Rattle.vast.specs.NumberedWords.{Word}
use Rattle.vast.specs.NumberedStatements.{SelectionTree}
use Rattle.vdesign.specs.declared.dump.Chosen.{Chosen}
use Rattle.velab_expr.specs.Literals.{constant_of}
use Rattle.velab_expr.specs.Answers.{◌>>=◌, value_or_fault, value_or}
use Rattle.velab_expr.specs.Scopes.{Scope}
use Rattle.velab_expr.specs.declared.fault.ElabFault.{ElabFault}
use Rattle.velab_expr.specs.declared.fault.Rule.TheVariants.{Kind}

-- the number of levels, read unsigned, where it is known
abbrev pub levels_in : Word → Option ℕ
levels_in digits = number (constant_of digits.letters).value.letters

-- the names of a path, joined by dots
abbrev pub dotted_path : List Word → Text
dotted_path [] = []
dotted_path (name ∷ more) = name.letters ++ flat_map (λ one. 46 ∷ one.letters) more

abbrev pub chosen_of : ℕ → Text → Chosen
chosen_of levels path = record { path = path; levels = levels }

-- with a number alone the top is meant (own); a path begins at the top (own)
abbrev pub chosen_by : Text → ℕ → List (List Word) → List Chosen
chosen_by top levels [] = chosen_of levels top ∷ []
chosen_by top levels (path ∷ more) = map (λ names. chosen_of levels (dotted_path names)) (path ∷ more)

-- without a number everything is; the number has no unknown bit
abbrev pub lower_selection : Scope → Option SelectionTree → Result (List Chosen) ElabFault
lower_selection scope None = Ok []
lower_selection scope (Some selection) =
    value_or_fault (levels_in selection.levels) Kind (Some selection.levels) >>= λ levels. Ok (chosen_by scope.top levels selection.paths)

-- the selection, for those who know that there is one
abbrev pub selection_of : Scope → Option SelectionTree → List Chosen
selection_of scope selection = value_or [] (lower_selection scope selection)
