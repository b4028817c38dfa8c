-- *internal*: What is read as a statement, and where words stop to be one (docs/LANGUAGE.md, "Grammar" and "Depth").
use Rattle.std.specs.Prelude.{◌≡◌, ℕ, suc, ◌≤◌, nat_le, true, List, [], ◌∷◌, ◌++◌}
use Rattle.vwords.specs.Words.{Text}
use Rattle.vast.specs.Statements.{StatementTree, spell_statement, statement_depth, fits_statement}
use Rattle.vexpr_parse.specs.declared.stop.Stop.{Stop}
use Rattle.vexpr_parse.specs.declared.stop.Stop.TheVariants.{NoTree, TooDeep}
use Rattle.vexpr_parse.specs.Readers.{got, stop, front}
use Rattle.vgrammar.specs.Statements.{statement, ends_tree}

-- the words are those of the tree, which stands as the grammar lets it and has so many levels at most
pub record IsStatement (levels : ℕ) (tree : StatementTree) (words : List Text) : Type 0 where
  pub spelled : spell_statement tree ≡ words
  pub fitting : fits_statement tree ≡ true
  pub within : nat_le (statement_depth tree) levels ≡ true

-- the words begin a statement
abbrev pub BeginsOne : ℕ → List Text → Type 0
BeginsOne levels words = (after : List Text) × (tree : StatementTree) × IsStatement levels tree (words ++ after)

-- with the word that stands first here behind them, or with their end where none does, they begin no statement
abbrev pub BeginsNone : ℕ → List Text → List Text → Type 0
BeginsNone levels before left = (other : List Text) (tree : StatementTree) → front other ≡ front left →
    IsStatement levels tree (before ++ other) → ⊥

-- The words before the place begin a statement, and with the word at it they begin none. The text's end counts as a word.
pub record IsPlace (levels : ℕ) (words left : List Text) : Type 0 where
  pub before : List Text
  pub whole : words ≡ before ++ left
  pub viable : BeginsOne levels before
  pub refused : BeginsNone levels before left

-- however many levels there are, the word at the place is refused
pub record IsRefused (levels : ℕ) (words left : List Text) : Type 0 where
  pub before : List Text
  pub whole : words ≡ before ++ left
  pub none : (more : ℕ) → levels ≤ more → BeginsNone more before left

-- with more levels, the word at the place goes on to a statement: three more are enough
pub record IsDeeper (levels : ℕ) (words left : List Text) : Type 0 where
  pub before : List Text
  pub word : Text
  pub behind : List Text
  pub at : left ≡ word ∷ behind
  pub whole : words ≡ before ++ left
  pub viable : BeginsOne (suc (suc (suc levels))) (before ++ word ∷ [])

-- ---- what reading gives

-- what is read is a statement, at the front of the words, and it has ended
abbrev pub ReadsSoundly : Type 0
ReadsSoundly = (levels : ℕ) (words : List Text) (tree : StatementTree) (left : List Text) → statement levels words
    ≡ got tree left →
    (before : List Text) × (words ≡ before ++ left) × IsStatement levels tree before × (ends_tree tree (front left) ≡ true)

-- a statement is read, where what follows ends it
abbrev pub ReadsCompletely : Type 0
ReadsCompletely = (levels : ℕ) (tree : StatementTree) (before left : List Text) → IsStatement levels tree before →
    ends_tree tree (front left) ≡ true → statement levels (before ++ left) ≡ got tree left

-- words are those of one tree at most
abbrev pub IsOnly : Type 0
IsOnly = (levels : ℕ) (words : List Text) (tree other : StatementTree) → IsStatement levels tree words →
    IsStatement levels other words →
    tree ≡ other

-- a word is refused at the place of the words, and for good or for want of levels alone
abbrev pub StopsAtPlace : Type 0
StopsAtPlace = (below : ℕ) (words left : List Text) (why : Stop) → statement (suc below) words ≡ stop why left →
    IsPlace (suc below) words left

abbrev pub StopsForGood : Type 0
StopsForGood = (below : ℕ) (words left : List Text) → statement (suc below) words ≡ stop NoTree left →
    IsRefused (suc below) words left

abbrev pub StopsTooDeep : Type 0
StopsTooDeep = (below : ℕ) (words left : List Text) → statement (suc below) words ≡ stop TooDeep left →
    IsDeeper (suc below) words left
