-- *product rule*: How a report tells values (docs/FORMATS.md, "Reports").
use Rattle.std.specs.Prelude.{ℕ, List, [], ◌∷◌, ◌++◌}
use Rattle.vbits.specs.Vectors.{Vector}
use Rattle.value_text.specs.ValueText.{binary}

-- the values after one, each after a space
abbrev pub more_values : List Vector → List ℕ
more_values [] = []
more_values (v ∷ vs) = 32 ∷ (binary v ++ more_values vs)

-- the values of all variables
abbrev pub values_line : List Vector → List ℕ
values_line [] = []
values_line (v ∷ vs) = binary v ++ more_values vs
