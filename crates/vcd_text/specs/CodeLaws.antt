-- *internal*: What codes are (docs/FORMATS.md, "Dumps"): numerals in bijective base 94, the lowest digit first.
use Rattle.std.specs.Prelude.{◌≡◌, ℕ, ◌+◌, ◌-◌, ◌*◌, ◌≤◌, List, [], ◌∷◌, All}

-- printable characters but the space (18.2.1): `!` is 1 and `~` is 94
abbrev pub IsDigit : ℕ → Type 0
IsDigit c = (33 ≤ c) × (c ≤ 126)

-- `!` is 1, `~` 94, `!!` 95, `"!` 96
abbrev pub number_of : List ℕ → ℕ
number_of [] = 0
number_of (c ∷ cs) = (c - 32) + 94 * number_of cs

-- the numeral of variable n
abbrev pub IsNumeral : ℕ → List ℕ → Type 0
IsNumeral n text = All IsDigit text × (number_of text ≡ n + 1)
