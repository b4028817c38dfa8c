-- *internal*: What a write changes, and a queue with other active processes: words for the contracts of parts within.
use Rattle.std.specs.Prelude.{◌≡◌, ◌≢◌, ℕ, List, Option, Some, None}
use Rattle.vbits.specs.Vectors.{Vector}
use Rattle.vmodel.specs.declared.values.Change.{Change}
use Rattle.vmodel.specs.Queue.{Queue}
use Rattle.vmodel.specs.Parts.{value_in}

-- the values differ in one variable, and so
pub record Differ (change : Change) (before after : List Vector) : Type 0 where
  pub old : value_in before change.variable ≡ change.old
  pub new : value_in after change.variable ≡ change.new
  pub others : (n : ℕ) → n ≢ change.variable → value_in before n ≡ value_in after n

abbrev pub IsChange : Option Change → List Vector → List Vector → Type 0
IsChange None before after = before ≡ after
IsChange (Some change) before after = Differ change before after

abbrev pub with_active : List ℕ → Queue → Queue
with_active active q = record q { active = active }
