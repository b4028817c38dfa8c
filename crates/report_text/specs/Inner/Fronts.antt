-- *internal*: What stands at the front of a text, and how it is told from what follows.
use Rattle.std.specs.Prelude.{◌≡◌, ℕ, ◌<◌, ◌^◌, ◌==◌, Bool, true, not, List, ◌∷◌, ◌++◌, Option, MatchOption, decimal}
use Rattle.std.specs.Borrow.{Bor}
use Rattle.std.specs.List.{list_all}

-- the byte stands nowhere in the text
abbrev pub lacks : ℕ → List ℕ → Bool
lacks byte = list_all (λ c. not (c == byte))

-- the text is cut in two at the first such byte
abbrev pub IsCut : ℕ → List ℕ → List ℕ → List ℕ → Type 0
IsCut byte text left right = (lacks byte left ≡ true) × (text ≡ left ++ byte ∷ right)

-- each rest of which this holds is what was answered
abbrev pub EachRest : (List ℕ → Type 0) → Option (Bor (List ℕ)) → Type 0
EachRest Is result = (rest : List ℕ) → Is rest → MatchOption result ⊥ (λ r. r.now ≡ rest)

-- the two sides of the first such byte are what was answered
abbrev pub EachSides : ℕ → List ℕ → Option (Bor (List ℕ) × Bor (List ℕ)) → Type 0
EachSides byte text result = (left right : List ℕ) → IsCut byte text left right → MatchOption result ⊥ (λ p. (p.0.now ≡ left) × (p.1.now ≡ right))
