-- *internal*: Where words stop to be an expression (docs/LANGUAGE.md, "Grammar" and "Depth").
use Rattle.std.specs.Prelude.{◌≡◌, ℕ, suc, ◌<◌, ◌≤◌, nat_le, true, List, [], ◌∷◌, ◌++◌, length}
use Rattle.vwords.specs.Words.{Text}
use Rattle.vast.specs.Expressions.{ExpressionTree, unary_rank}
use Rattle.vexpr_parse.specs.declared.stop.Stop.{Stop}
use Rattle.vexpr_parse.specs.declared.stop.Stop.TheVariants.{NoTree, TooDeep}
use Rattle.vexpr_parse.specs.Readers.{got, stop, front}
use Rattle.vexpr_parse.specs.Words.{ends}
use Rattle.vexpr_parse.specs.Reading.{expression}
use Rattle.vexpr_parse.specs.Found.{IsExpression}

-- the words begin an expression
abbrev pub BeginsOne : ℕ → ℕ → List Text → Type 0
BeginsOne levels least words = (after : List Text) × (tree : ExpressionTree) × IsExpression levels least tree (words ++ after)

-- with the word that stands first here behind them, or with their end where none does, they begin no expression
abbrev pub BeginsNone : ℕ → ℕ → List Text → List Text → Type 0
BeginsNone levels least before left = (other : List Text) (tree : ExpressionTree) → front other ≡ front left →
    IsExpression levels least tree (before ++ other) → ⊥

-- The words before the place begin an expression, and with the word at it they begin none. The text's end counts as a word.
pub record IsPlace (levels least : ℕ) (words left : List Text) : Type 0 where
  pub before : List Text
  pub whole : words ≡ before ++ left
  pub viable : BeginsOne levels least before
  pub refused : BeginsNone levels least before left

-- however many levels there are, the word at the place is refused
pub record IsRefused (levels least : ℕ) (words left : List Text) : Type 0 where
  pub before : List Text
  pub whole : words ≡ before ++ left
  pub none : (more : ℕ) → levels ≤ more → BeginsNone more least before left

-- with one level more, the word at the place goes on to an expression
pub record IsDeeper (levels least : ℕ) (words left : List Text) : Type 0 where
  pub before : List Text
  pub word : Text
  pub behind : List Text
  pub at : left ≡ word ∷ behind
  pub whole : words ≡ before ++ left
  pub viable : BeginsOne (suc levels) least (before ++ word ∷ [])

-- The words before what is left are an expression, this tree is the only one that has them, and no more of the words are one.
pub record IsFound (levels : ℕ) (words left : List Text) (tree : ExpressionTree) : Type 0 where
  pub before : List Text
  pub whole : words ≡ before ++ left
  pub is : IsExpression levels 0 tree before
  pub only : (other : ExpressionTree) → IsExpression levels 0 other before → tree ≡ other
  pub longest : (more after : List Text) (other : ExpressionTree) → left ≡ more ++ after → 0 < length more →
      IsExpression levels 0 other (before ++ more) → ⊥

-- The word at the place is refused: for good, or only for want of a level.
abbrev pub IsStopped : ℕ → List Text → List Text → Stop → Type 0
IsStopped levels words left NoTree = IsPlace levels 0 words left × IsRefused levels 0 words left
IsStopped levels words left TooDeep = IsPlace levels 0 words left × IsDeeper levels 0 words left

-- What reading gives. Levels are one or more here, and ranks at most that of a primary.

-- what is read is an expression, at the front of the words
abbrev pub ReadsSoundly : Type 0
ReadsSoundly = (levels least : ℕ) → nat_le least unary_rank ≡ true → (words : List Text) (tree : ExpressionTree) (left : List Text) →
    expression levels least words ≡ got tree left →
    (before : List Text) × (words ≡ before ++ left) × IsExpression levels least tree before

-- an expression is read, where what follows ends it
abbrev pub ReadsCompletely : Type 0
ReadsCompletely = (levels least : ℕ) (tree : ExpressionTree) (before left : List Text) → IsExpression levels least tree before →
    ends least (front left) ≡ true →
    expression levels least (before ++ left) ≡ got tree left

-- no more of the words than were read are an expression
abbrev pub ReadsLongest : Type 0
ReadsLongest = (levels least : ℕ) (words : List Text) (tree : ExpressionTree) (left : List Text) →
    expression levels least words ≡ got tree left →
    (before more after : List Text) (other : ExpressionTree) → words ≡ before ++ left → left ≡ more ++ after → 0 < length more →
    IsExpression levels least other (before ++ more) → ⊥

-- words are those of one tree at most
abbrev pub IsOnly : Type 0
IsOnly = (levels : ℕ) (words : List Text) (tree other : ExpressionTree) → IsExpression levels 0 tree words →
    IsExpression levels 0 other words → tree ≡ other

-- a word is refused at the place of the words, and for good or for want of levels alone
abbrev pub StopsAtPlace : Type 0
StopsAtPlace = (below least : ℕ) → nat_le least unary_rank ≡ true → (words left : List Text) (why : Stop) →
    expression (suc below) least words ≡ stop why left → IsPlace (suc below) least words left

abbrev pub StopsForGood : Type 0
StopsForGood = (below least : ℕ) (words left : List Text) → expression (suc below) least words ≡ stop NoTree left →
    IsRefused (suc below) least words left

abbrev pub StopsTooDeep : Type 0
StopsTooDeep = (below least : ℕ) → nat_le least unary_rank ≡ true → (words left : List Text) →
    expression (suc below) least words ≡ stop TooDeep left → IsDeeper (suc below) least words left
