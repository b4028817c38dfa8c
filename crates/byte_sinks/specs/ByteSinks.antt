-- *internal*: What takes texts, one after another.
use Rattle.std.specs.Prelude.{ℕ, List, [], ◌++◌, take}
use Rattle.basis.specs.declared.memory.OrMemory.{OrMemory}
use Rattle.basis.specs.declared.memory.OrMemory.TheVariants.{Fault, Memory}

-- what taking a text and failing in one may make of a byte sink
pub record IsByteSink {O F : Type 0} (takes : O → List ℕ → O → Type 0) (fails : O → List ℕ → F → O → Type 0) : Type 0 where
  -- to take nothing changes nothing
  pub none : (s : O) → takes s [] s
  -- to take a text and then more is to take them joined
  pub joins : (s t u : O) (xs ys : List ℕ) → takes s xs t → takes t ys u → takes s (xs ++ ys) u
  -- the same where taking more fails
  pub fails_later : (s t u : O) (xs ys : List ℕ) (fault : F) → takes s xs t → fails t ys fault u → fails s (xs ++ ys) fault u
  -- and where more wasn't come to
  pub fails_before : (s u : O) (xs ys : List ℕ) (fault : F) → fails s xs fault u → fails s (xs ++ ys) fault u

-- the byte sink failed somewhere in the text, or memory was refused behind a front of it that was taken
abbrev pub Stopped : {O F : Type 0} → (O → List ℕ → O → Type 0) → (O → List ℕ → F → O → Type 0) → O → List ℕ → OrMemory F → O → Type 0
Stopped takes fails old text (Fault fault) new = fails old text fault new
Stopped takes fails old text (Memory m) new = (n : ℕ) × takes old (take n text) new
