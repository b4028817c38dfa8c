-- *internal*: What the cursor passes, and which trees are made of those that were read.
use Rattle.std.specs.Prelude.{◌≡◌, ℕ, ◌+◌, ◌<◌, ◌≤◌, ◌^◌, max, nat_le, true, false, if◌then◌else◌, List, [], ◌∷◌, ◌++◌, drop, take, map, Option, Some, None, Result, Ok, Err, IfOk}
use Rattle.std.specs.Borrow.{MutBor}
use Rattle.std.specs.List.{flat_map}
use Rattle.vast.specs.TokenTexts.{token_text, leaves_from}
use Rattle.vast.specs.Leaves.{leaves_of}
use Rattle.vast.specs.declared.token.Token.{Token}
use Rattle.vwords.specs.declared.operators.BinaryOperator.{BinaryOperator}
use Rattle.vwords.specs.Words.{Text, is_leaf}
use Rattle.vast.specs.Expressions.{ExpressionTree, conditional, concatenation, replication, depth, greatest_depth, rank}
use Rattle.vast.specs.ExpressionTrees.{tree_of, trees_of}
use Rattle.vlex.specs.Tokenized.{Tokenized}
use Rattle.basis.specs.declared.memory.OrMemory.{OrMemory}
use Rattle.basis.specs.Reasons.{Because}
use Rattle.vexpr_parse.specs.declared.cursor.Cursor.{Cursor}
use Rattle.vexpr_parse.specs.declared.cursor.Word.{Word}
use Rattle.vexpr_parse.specs.declared.found.Found.{Found}
use Rattle.vexpr_parse.specs.declared.found.Parts.{Parts}
use Rattle.vexpr_parse.specs.declared.stop.Stop.{Stop}
use Rattle.vexpr_parse.specs.declared.stop.Stop.TheVariants.{NoTree, TooDeep}
use Rattle.vexpr_parse.specs.Readers.{Answer, got, stop, front, is_front}
use Rattle.vexpr_parse.specs.Words.{binary_of}
use Rattle.vexpr_parse.specs.Reading.{expression}
use Rattle.vexpr_parse.specs.Texts.{words_of}

-- the words that are left behind a place
unfoldable pub ahead : Tokenized → Cursor → List Text
ahead tokens cursor = drop cursor.at (words_of tokens)

-- this word stands first, and its token has its letters
abbrev pub Heads : Tokenized → Cursor → Word → Type 0
Heads tokens cursor word =
    (ahead tokens cursor ≡ word.text.now ∷ drop 1 (ahead tokens cursor)) × (token_text (words_of tokens) word.token ≡ word.text.now)

-- the tokens that trees keep of the words left behind a place, of the word at it, and of a word
unfoldable pub leaves_ahead : Tokenized → Cursor → List Token
leaves_ahead tokens cursor = leaves_from cursor.at (drop cursor.at (words_of tokens))

unfoldable pub leaf_here : Tokenized → Cursor → List Token
leaf_here tokens cursor = leaves_from cursor.at (take 1 (drop cursor.at (words_of tokens)))

abbrev pub leaf_of : Word → List Token
leaf_of word = if is_leaf word.text.now then word.token ∷ [] else []

-- what was read keeps the tokens of the words that were passed, with these before them, and with none
abbrev pub KeepsBehind : {T : Type 0} → List Token → (T → List Token) → Tokenized → Cursor → Cursor → T → Type 0
KeepsBehind before leaves tokens old new value = before ++ leaves_ahead tokens old ≡ leaves value ++ leaves_ahead tokens new

abbrev pub Keeps : {T : Type 0} → (T → List Token) → Tokenized → Cursor → Cursor → T → Type 0
Keeps leaves tokens old new value = leaves_ahead tokens old ≡ leaves value ++ leaves_ahead tokens new

abbrev pub found_leaves : Found → List Token
found_leaves found = leaves_of found.tree

abbrev pub parts_leaves : Parts → List Token
parts_leaves parts = flat_map leaves_of parts.trees.items

-- each call keeps the tokens that it passes
abbrev pub KeepsEach : Tokenized → (MutBor Cursor → ℕ → Result Found (OrMemory Stop) → MutBor Cursor → Type 0) → Type 0
KeepsEach tokens call =
    (old new : MutBor Cursor) (least : ℕ) (result : Result Found (OrMemory Stop)) → call old least result new →
    IfOk result (Keeps found_leaves tokens old.now new.now)

-- this very word is passed, or the words are left as they were
abbrev pub Passes : {T : Type 0} → Text → List Text → List Text → Result T (OrMemory Stop) → Type 0
Passes text words left (Ok u) = words ≡ text ∷ left
Passes text words left (Err e) = Because (λ why. (why ≡ NoTree) × (left ≡ words) × (is_front text (front words) ≡ false)) e

-- a word is passed where there is room for so many levels
abbrev pub Enters : {T : Type 0} → ℕ → ℕ → List Text → List Text → Result T (OrMemory Stop) → Type 0
Enters below levels words left (Ok u) = (left ≡ drop 1 words) × (nat_le levels below ≡ true)
Enters below levels words left (Err e) = Because (λ why. (why ≡ TooDeep) × (left ≡ words) × (nat_le levels below ≡ false)) e

-- the same, from one place of the tokens to another
abbrev pub PassesAt : {T : Type 0} → Tokenized → Text → Cursor → Cursor → Result T (OrMemory Stop) → Type 0
PassesAt tokens text old new = Passes text (ahead tokens old) (ahead tokens new)

abbrev pub EntersAt : {T : Type 0} → Tokenized → ℕ → ℕ → Cursor → Cursor → Result T (OrMemory Stop) → Type 0
EntersAt tokens below levels old new = Enters below levels (ahead tokens old) (ahead tokens new)

-- the binary operator that stands first, if it is of this rank at least
abbrev pub operator_of_rank : ℕ → Option BinaryOperator → Option BinaryOperator
operator_of_rank least None = None
operator_of_rank least (Some operator) = if nat_le least (rank operator) then Some operator else None

abbrev pub joining : ℕ → Option Text → Option BinaryOperator
joining least None = None
joining least (Some word) = operator_of_rank least (binary_of word)

-- the trees of what was found
abbrev pub tree_in : List Text → Found → ExpressionTree
tree_in words found = tree_of words found.tree

-- a depth to which one more can be added
abbrev pub IsShallow : ℕ → Type 0
IsShallow deep = deep < 2 ^ 63

-- the tree that was made, and the depth that is told with it: round another tree, two, or three
abbrev pub IsMade : List Text → ExpressionTree → ℕ → Found → Type 0
IsMade words tree deep found = (tree_of words found.tree ≡ tree) × (found.depth ≡ deep)

abbrev pub IsRound : List Text → (ExpressionTree → ExpressionTree) → Found → Found → Type 0
IsRound words make inner = IsMade words (make (tree_in words inner)) (1 + inner.depth)

abbrev pub IsRoundBoth : List Text → (ExpressionTree → ExpressionTree → ExpressionTree) → Found → Found → Found → Type 0
IsRoundBoth words make left right = IsMade words (make (tree_in words left) (tree_in words right)) (1 + max left.depth right.depth)

abbrev pub IsChosen : List Text → Found → Found → Found → Found → Type 0
IsChosen words condition one other =
    IsMade words (conditional (tree_in words condition) (tree_in words one) (tree_in words other))
    (1 + max condition.depth (max one.depth other.depth))

-- round the parts of a concatenation, or a count and the parts of a replication
abbrev pub IsJoined : List Text → Parts → Found → Type 0
IsJoined words parts = IsMade words (concatenation (trees_of words parts.trees.items)) (1 + parts.depth)

abbrev pub IsRepeated : List Text → Found → Parts → Found → Type 0
IsRepeated words count parts =
    IsMade words (replication (tree_in words count) (trees_of words parts.trees.items)) (1 + max count.depth parts.depth)

-- What the readers of the program answer

-- a stop is that of the definition, with the words from the refused one on left; want of memory says nothing
abbrev pub Stops : {A : Type 0} → Answer A → List Text → OrMemory Stop → Type 0
Stops answer left e = Because (λ why. answer ≡ stop why left) e

-- the depth that is told is that of the tree, and no more than the levels
abbrev pub IsMeasured : List Text → ℕ → Found → Type 0
IsMeasured words levels found = (found.depth ≡ depth (tree_in words found)) × (found.depth ≤ levels)

-- what the definition reads is found, with its depth, and what is behind it is left; or it stops there
abbrev pub Finds : List Text → ℕ → Answer ExpressionTree → List Text → Result Found (OrMemory Stop) → Type 0
Finds words levels answer left (Ok found) = (answer ≡ got (tree_in words found) left) × IsMeasured words levels found
Finds words levels answer left (Err e) = Stops answer left e

-- the parts of a concatenation, with the greatest of their depths
abbrev pub IsMeasuredAll : List Text → ℕ → Parts → Type 0
IsMeasuredAll words levels parts = (parts.depth ≡ greatest_depth (trees_of words parts.trees.items)) × (parts.depth ≤ levels)

abbrev pub FindsParts : List Text → ℕ → Answer (List ExpressionTree) → List Text → Result Parts (OrMemory Stop) → Type 0
FindsParts words levels answer left (Ok parts) =
    (answer ≡ got (map (tree_of words) parts.trees.items) left) × IsMeasuredAll words levels parts
FindsParts words levels answer left (Err e) = Stops answer left e

-- each call reads as the definition does with so many levels
abbrev pub Reads : Tokenized → ℕ → (MutBor Cursor → ℕ → Result Found (OrMemory Stop) → MutBor Cursor → Type 0) → Type 0
Reads tokens levels call =
    (old new : MutBor Cursor) (least : ℕ) (result : Result Found (OrMemory Stop)) → call old least result new →
    Finds (words_of tokens) levels (expression levels least (ahead tokens old.now)) (ahead tokens new.now) result
