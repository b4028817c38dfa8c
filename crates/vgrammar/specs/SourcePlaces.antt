-- *product rule*: What is read as a text, and where words stop to begin one (docs/LANGUAGE.md, "Grammar" and "Depth"). What reading gives
-- is a law.
use Rattle.std.specs.Prelude.{◌≡◌, ℕ, suc, ◌≤◌, List, [], ◌∷◌, ◌++◌}
use Rattle.vwords.specs.Words.{Text}
use Rattle.vast.specs.Modules.{SourceTree, DerivesWithin}
use Rattle.vexpr_parse.specs.declared.stop.Stop.{Stop}
use Rattle.vexpr_parse.specs.declared.stop.Stop.TheVariants.{NoTree, TooDeep}
use Rattle.vexpr_parse.specs.Readers.{got, stop, front}
use Rattle.vgrammar.specs.Modules.{source}

-- the words begin a text
abbrev pub BeginsOne : ℕ → List Text → Type 0
BeginsOne levels words = (after : List Text) × (tree : SourceTree) × DerivesWithin levels (words ++ after) tree

-- with the word that stands first here behind them, or with their end where none does, they begin no text
abbrev pub BeginsNone : ℕ → List Text → List Text → Type 0
BeginsNone levels before left = (other : List Text) (tree : SourceTree) → front other ≡ front left →
    DerivesWithin levels (before ++ other) tree → ⊥

-- The words before the place begin a text, and with the word at it they begin none. The text's end counts as a word.
pub record IsPlace (levels : ℕ) (words left : List Text) : Type 0 where
  pub before : List Text
  pub whole : words ≡ before ++ left
  pub viable : BeginsOne levels before
  pub refused : BeginsNone levels before left

-- however many levels there are, the word at the place is refused
pub record IsRefused (levels : ℕ) (words left : List Text) : Type 0 where
  pub before : List Text
  pub whole : words ≡ before ++ left
  pub none : (more : ℕ) → levels ≤ more → BeginsNone more before left

-- with more levels, the word at the place goes on to a text: three more are enough
pub record IsDeeper (levels : ℕ) (words left : List Text) : Type 0 where
  pub before : List Text
  pub word : Text
  pub behind : List Text
  pub at : left ≡ word ∷ behind
  pub whole : words ≡ before ++ left
  pub viable : BeginsOne (suc (suc (suc levels))) (before ++ word ∷ [])

-- ---- what reading gives

-- what is read is the tree of all the words
abbrev pub ReadsSoundly : Type 0
ReadsSoundly = (below : ℕ) (words : List Text) (tree : SourceTree) (left : List Text) → source (suc below) words ≡ got tree left →
    (left ≡ []) × DerivesWithin (suc below) words tree

-- the tree of words is read
abbrev pub ReadsCompletely : Type 0
ReadsCompletely = (below : ℕ) (words : List Text) (tree : SourceTree) → DerivesWithin (suc below) words tree →
    source (suc below) words ≡ got tree []

-- words are those of one tree at most, however many levels it has
abbrev pub IsOnly : Type 0
IsOnly = (levels others : ℕ) (words : List Text) (tree other : SourceTree) → DerivesWithin levels words tree →
    DerivesWithin others words other → tree ≡ other

-- a word is refused at the place of the words, and for good or for want of levels alone
abbrev pub StopsAtPlace : Type 0
StopsAtPlace = (below : ℕ) (words left : List Text) (why : Stop) → source (suc below) words ≡ stop why left →
    IsPlace (suc below) words left

abbrev pub StopsForGood : Type 0
StopsForGood = (below : ℕ) (words left : List Text) → source (suc below) words ≡ stop NoTree left →
    IsRefused (suc below) words left

abbrev pub StopsTooDeep : Type 0
StopsTooDeep = (below : ℕ) (words left : List Text) → source (suc below) words ≡ stop TooDeep left →
    IsDeeper (suc below) words left
