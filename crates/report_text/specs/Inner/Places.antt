-- *internal*: Where a reader stands in a text.
use Rattle.std.specs.Prelude.{◌≡◌, ℕ, ◌<◌, ◌^◌, Bool, true, List, ◌∷◌, ◌++◌, decimal, length}
use Rattle.report_text.specs.Inner.Fronts.{IsCut}

-- what is left to be read, and whether all that was asked for stood in front of it
pub record Place : Type 0 where
  pub ok : Bool
  pub rest : List ℕ

-- if the reader isn't lost here, then it wasn't there, and the fact holds of what was left there and what is left here
abbrev pub Took : Place → Place → (List ℕ → List ℕ → Type 0) → Type 0
Took old new P = new.ok ≡ true → (old.ok ≡ true) × P old.rest new.rest

-- the reader isn't lost, and this is left
abbrev pub Stands : Place → List ℕ → Type 0
Stands place rest = (place.ok ≡ true) × (place.rest ≡ rest)

-- this stood there, in this way
abbrev pub HasTaken : {A : Type 0} → Place → Place → (List ℕ → A → List ℕ → Type 0) → A → Type 0
HasTaken old new Stood x = Took old new (λ text rest. Stood text x rest)

-- where the reader wasn't lost, whatever stood there in this way is what was taken
abbrev pub TakesEach : {A : Type 0} → Place → Place → (List ℕ → A → List ℕ → Type 0) → A → Type 0
TakesEach {A} old new Stood x = (y : A) (rest : List ℕ) → old.ok ≡ true → Stood old.rest y rest → (x ≡ y) × Stands new rest

-- the decimal of a number of 64 bits, then the byte
abbrev pub IsNumberFront : ℕ → List ℕ → ℕ → List ℕ → Type 0
IsNumberFront byte text n rest = (n < 2 ^ 64) × (text ≡ decimal n ++ byte ∷ rest)

-- where the reader wasn't lost, the fact holds of the two sides of the first such byte of what stood there
abbrev pub EachCut : ℕ → Place → (List ℕ → List ℕ → Type 0) → Type 0
EachCut byte old P = (left right : List ℕ) → old.ok ≡ true → IsCut byte old.rest left right → P left right

-- where the reader wasn't lost, the fact holds of so many bytes that stood there, and of the rest
abbrev pub EachBytes : ℕ → Place → (List ℕ → List ℕ → Type 0) → Type 0
EachBytes count old P = (bytes rest : List ℕ) → old.ok ≡ true → count ≡ length bytes → old.rest ≡ bytes ++ rest → P bytes rest

-- what passes the test stood there, spelled so before the rest
abbrev pub HasSpelled : {A : Type 0} → Place → Place → (A → Type 0) → (A → List ℕ → List ℕ) → A → Type 0
HasSpelled old new Is spelled x = Took old new (λ text rest. Is x × (text ≡ spelled x rest))

-- where the reader wasn't lost, whatever passes the test and stood there, spelled so, is what was taken
abbrev pub TakesSpelled : {A : Type 0} → Place → Place → (A → Type 0) → (A → List ℕ → List ℕ) → A → Type 0
TakesSpelled {A} old new Is spelled x = (y : A) (rest : List ℕ) → old.ok ≡ true → Is y → old.rest ≡ spelled y rest → (x ≡ y) × Stands new rest

-- where the reader wasn't lost and these bytes stood there, it stands behind them
abbrev pub PassesEach : Place → Place → List ℕ → Type 0
PassesEach old new bytes = (rest : List ℕ) → old.ok ≡ true → old.rest ≡ bytes ++ rest → Stands new rest

-- the text is so many bytes, and then the rest
abbrev pub AreBytes : ℕ → List ℕ → List ℕ → List ℕ → Type 0
AreBytes count text bytes rest = (count ≡ length bytes) × (text ≡ bytes ++ rest)
