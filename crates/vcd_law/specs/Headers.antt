-- *internal*: The header of a dump is read back.
use Rattle.std.specs.Prelude.{◌≡◌, ℕ, suc, ◌+◌, ◌-◌, ◌<◌, ◌≤◌, ◌^◌, ◌==◌, length, Bool, if◌then◌else◌, List, [], ◌∷◌, ◌++◌, Option, Some, None, take, drop, ⊤}
use Rattle.std.specs.List.{after_last}
use Rattle.vdesign.specs.declared.expression.Bounds.{Bounds}
use Rattle.vdesign.specs.Design.{Variable, Scope, Design}
use Rattle.vcd_read.specs.Words.{Text, words_of}
use Rattle.vcd_read.specs.Declarations.{name_of, Declares}
use Rattle.vcd_read.specs.Declarations as declarations
use Rattle.vcd_text.specs.DumpText.{code, header, identifier}

-- no letter is a blank
abbrev pub Plain : Text → Type 0
Plain [] = ⊤
Plain (c ∷ cs) = (33 ≤ c) × Plain cs

-- some letters, none of which is a blank
abbrev pub IsWord : Text → Type 0
IsWord [] = ⊥
IsWord (c ∷ cs) = Plain (c ∷ cs)

-- ---- names

-- a variable's own name, without those of its scopes
abbrev pub own_name : Variable → Text
own_name v = after_last (λ c. c == 46) v.name

abbrev pub AreSmall : Option Bounds → Type 0
AreSmall None = ⊤
AreSmall (Some bounds) = (bounds.left < 2 ^ 64) × (bounds.right < 2 ^ 64)

-- a variable of a scope whose names begin so
pub record IsNamed (prefix : Text) (v : Variable) : Type 0 where
  pub name : v.name ≡ prefix ++ own_name v
  pub word : IsWord (identifier (own_name v))
  pub whole : name_of (identifier (own_name v)) ≡ own_name v
  pub length : v.length < 2 ^ 64
  pub bounds : AreSmall v.bounds

abbrev pub AreNamed : Text → List Variable → Type 0
AreNamed prefix [] = ⊤
AreNamed prefix (v ∷ vs) = IsNamed prefix v × AreNamed prefix vs

-- what names begin with in the innermost of scopes
abbrev pub inmost : List Text → Text
inmost [] = []
inmost (prefix ∷ prefixes) = prefix

abbrev pub inner : List Text → Text → Text
inner prefixes name = inmost prefixes ++ (name ++ 46 ∷ [])

-- those of the scopes round one of this depth
abbrev pub round_it : List Text → Scope → List Text
round_it prefixes s = drop (length prefixes - s.depth) prefixes

-- scopes stand depth first, each with its variables behind those before, where such are open
abbrev pub AreNested : List Text → List Scope → List Variable → Type 0
AreNested prefixes [] variables = ⊤
AreNested prefixes (s ∷ scopes) variables =
    (s.depth ≤ length prefixes) × IsWord s.name × AreNamed (inner (round_it prefixes s) s.name) (take s.variables variables)
    × AreNested (inner (round_it prefixes s) s.name ∷ round_it prefixes s) scopes (drop s.variables variables)

-- ---- what is declared

abbrev pub variable_seen : ℕ → Variable → declarations.Variable
variable_seen n v = record { name = v.name; width = v.length; code = code n }

abbrev pub all_seen : ℕ → List Variable → List declarations.Variable
all_seen n [] = []
all_seen n (v ∷ vs) = variable_seen n v ∷ all_seen (suc n) vs

-- the variables of the scopes that are marked, the first of which has number n
abbrev pub seen_in : ℕ → List Bool → List Scope → List Variable → List declarations.Variable
seen_in n marks [] variables = []
seen_in n [] (s ∷ scopes) variables = []
seen_in n (mark ∷ marks) (s ∷ scopes) variables =
    (if mark then all_seen n (take s.variables variables) else []) ++ seen_in (n + s.variables) marks scopes (drop s.variables variables)

-- What is written before the body declares the precision as the unit of times, and the variables of the scopes that are marked: its words end
-- where the body's begin.
abbrev pub header_read : Type 0
header_read = (design : Design) (marks : List Bool) → AreNested [] design.scopes design.variables →
    (words : List Text) × ((rest : List ℕ) → words_of (header design marks ++ rest) ≡ words ++ words_of rest)
    × Declares None [] [] words (Some design.scale.precision) (seen_in 0 marks design.scopes design.variables)
