-- *internal*: Lists whose things meet a fact one by one and two by two.
use Rattle.std.specs.Prelude.{◌≡◌, ℕ, List, ◌++◌, Vec, Result, OnOk}
use Rattle.report_text.specs.WellFormed.{Each, EachTwo}

-- the first fact holds of each thing, the second of each two, the earlier one first
abbrev pub Listed : {A : Type 0} → (A → Type 0) → (A → A → Type 0) → List A → Type 0
Listed P Q xs = Each P xs × EachTwo Q xs

-- where nothing was refused, these bytes were put behind those that there were
abbrev pub PutsBytes : {A T E : Type 0} → Vec ℕ A → Vec ℕ A → Result T E → List ℕ → Type 0
PutsBytes old new result bytes = OnOk result (new.items ≡ old.items ++ bytes)
