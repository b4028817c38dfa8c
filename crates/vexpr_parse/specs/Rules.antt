-- *internal*: What the program's functions read, each by the definition of its rule, with so many levels below.
use Rattle.std.specs.Prelude.{ℕ, ◌+◌, Bool, List, [], ◌∷◌, Result, codes}
use Rattle.basis.specs.declared.memory.OrMemory.{OrMemory}
use Rattle.vast.specs.TokenTexts.{token_text}
use Rattle.vast.specs.Expressions.{ExpressionTree, parentheses, conversion}
use Rattle.vast.specs.declared.token.Token.{Token}
use Rattle.vlex.specs.Tokenized.{Tokenized}
use Rattle.vwords.specs.declared.operators.UnaryOperator.{UnaryOperator}
use Rattle.vexpr_parse.specs.declared.beginning.Round.{Round}
use Rattle.vexpr_parse.specs.declared.beginning.Round.TheVariants as round
use Rattle.vexpr_parse.specs.declared.cursor.Cursor.{Cursor}
use Rattle.vexpr_parse.specs.declared.found.Found.{Found}
use Rattle.vexpr_parse.specs.declared.found.Parts.{Parts}
use Rattle.vexpr_parse.specs.declared.stop.Stop.{Stop}
use Rattle.vexpr_parse.specs.Readers.{Reader, is_front, past, turns}
use Rattle.vexpr_parse.specs.Words.{is_joined}
use Rattle.vexpr_parse.specs.Reading.{rest_of_parentheses, rest_of_select, rest_of_name, round_by, primary, one_more, rest_of_concatenation, rest_of_replication, braces, operator, branches, question, expression_by, expression}
use Rattle.vexpr_parse.specs.Texts.{words_of}
use Rattle.vexpr_parse.specs.Places.{IsFound, IsStopped}
use Rattle.vexpr_parse.specs.Answers.{Finds, FindsParts, IsMeasured, ahead, tree_in}

-- from one place of the tokens to another: with so many levels, with one level more, and parts
abbrev pub FindsFrom : Tokenized → ℕ → Reader ExpressionTree → Cursor → Cursor → Result Found (OrMemory Stop) → Type 0
FindsFrom tokens levels read old new = Finds (words_of tokens) levels (read (ahead tokens old)) (ahead tokens new)

abbrev pub FindsAt : Tokenized → ℕ → Reader ExpressionTree → Cursor → Cursor → Result Found (OrMemory Stop) → Type 0
FindsAt tokens below = FindsFrom tokens (1 + below)

abbrev pub FindsPartsAt : Tokenized → ℕ → Reader (List ExpressionTree) → Cursor → Cursor → Result Parts (OrMemory Stop) → Type 0
FindsPartsAt tokens levels read old new = FindsParts (words_of tokens) levels (read (ahead tokens old)) (ahead tokens new)

-- what was found and where reading stopped, by the words that were left before and after
abbrev pub IsFoundAt : Tokenized → ℕ → Cursor → Cursor → Found → Type 0
IsFoundAt tokens levels old new found = IsFound levels (ahead tokens old) (ahead tokens new) (tree_in (words_of tokens) found)

abbrev pub IsStoppedAt : Tokenized → ℕ → Cursor → Cursor → Stop → Type 0
IsStoppedAt tokens levels old new = IsStopped levels (ahead tokens old) (ahead tokens new)

-- the depth of what was found among these tokens
abbrev pub IsMeasuredIn : Tokenized → ℕ → Found → Type 0
IsMeasuredIn tokens = IsMeasured (words_of tokens)

-- behind ( , behind $signed or $unsigned, behind an operator
abbrev pub enclosed_at : ℕ → Reader ExpressionTree
enclosed_at below = rest_of_parentheses (expression below) parentheses

abbrev pub converted_at : ℕ → Bool → Reader ExpressionTree
converted_at below signed = past (codes "(") (rest_of_parentheses (expression below) (conversion signed))

abbrev pub operand_at : ℕ → UnaryOperator → Reader ExpressionTree
operand_at below operator = round_by (expression below) (round.Operator operator)

-- behind a word that begins a tree round another
abbrev pub round_at : ℕ → Round → Reader ExpressionTree
round_at below kind = round_by (expression below) kind

-- behind name [ , and behind a name
abbrev pub index_at : Tokenized → ℕ → Token → Reader ExpressionTree
index_at tokens below name = rest_of_select (expression below) (token_text (words_of tokens) name)

abbrev pub named_at : Tokenized → ℕ → Token → Reader ExpressionTree
named_at tokens below name = rest_of_name below (expression below) (token_text (words_of tokens) name)

abbrev pub primary_at : ℕ → Reader ExpressionTree
primary_at below = primary below (expression below)

-- behind the first part, behind the first of a concatenation, behind the count of a replication, and behind {
abbrev pub parts_at : Tokenized → ℕ → Found → Reader (List ExpressionTree)
parts_at tokens below one = turns (one_more (expression below)) (is_front (codes ",")) (tree_in (words_of tokens) one ∷ [])

abbrev pub joined_at : Tokenized → ℕ → Found → Reader ExpressionTree
joined_at tokens below one = rest_of_concatenation (expression below) (tree_in (words_of tokens) one)

abbrev pub repeated_at : Tokenized → ℕ → Found → Reader ExpressionTree
repeated_at tokens below count = rest_of_replication (expression below) (tree_in (words_of tokens) count)

abbrev pub braces_at : ℕ → Reader ExpressionTree
braces_at below = braces (expression below)

-- behind a left side: an operator, all operators, and a conditional; and behind ?
abbrev pub operator_at : Tokenized → ℕ → ℕ → Found → Reader ExpressionTree
operator_at tokens below least left = operator below (expression below) least (tree_in (words_of tokens) left)

abbrev pub operators_at : Tokenized → ℕ → ℕ → Found → Reader ExpressionTree
operators_at tokens below least left = turns (operator below (expression below) least) (is_joined least) (tree_in (words_of tokens) left)

abbrev pub question_at : Tokenized → ℕ → ℕ → Found → Reader ExpressionTree
question_at tokens below least left = question below (expression below) least (tree_in (words_of tokens) left)

abbrev pub branches_at : Tokenized → ℕ → Found → Reader ExpressionTree
branches_at tokens below condition = branches (expression below) (tree_in (words_of tokens) condition)

abbrev pub expression_at : ℕ → ℕ → Reader ExpressionTree
expression_at below = expression_by below (expression below)

-- what is found by each of these rules, from one place of the tokens to another
abbrev pub FindsJoined : Tokenized → ℕ → Found → Cursor → Cursor → Result Found (OrMemory Stop) → Type 0
FindsJoined tokens below one = FindsAt tokens below (joined_at tokens below one)

abbrev pub FindsRepeated : Tokenized → ℕ → Found → Cursor → Cursor → Result Found (OrMemory Stop) → Type 0
FindsRepeated tokens below count = FindsAt tokens below (repeated_at tokens below count)

abbrev pub FindsIndex : Tokenized → ℕ → Token → Cursor → Cursor → Result Found (OrMemory Stop) → Type 0
FindsIndex tokens below name = FindsAt tokens below (index_at tokens below name)

abbrev pub FindsNamed : Tokenized → ℕ → Token → Cursor → Cursor → Result Found (OrMemory Stop) → Type 0
FindsNamed tokens below name = FindsAt tokens below (named_at tokens below name)

abbrev pub FindsTurn : Tokenized → ℕ → ℕ → Found → Cursor → Cursor → Result Found (OrMemory Stop) → Type 0
FindsTurn tokens below least left = FindsAt tokens below (operator_at tokens below least left)

abbrev pub FindsTurns : Tokenized → ℕ → ℕ → Found → Cursor → Cursor → Result Found (OrMemory Stop) → Type 0
FindsTurns tokens below least left = FindsAt tokens below (operators_at tokens below least left)

abbrev pub FindsQuestion : Tokenized → ℕ → ℕ → Found → Cursor → Cursor → Result Found (OrMemory Stop) → Type 0
FindsQuestion tokens below least left = FindsAt tokens below (question_at tokens below least left)

abbrev pub FindsBranches : Tokenized → ℕ → Found → Cursor → Cursor → Result Found (OrMemory Stop) → Type 0
FindsBranches tokens below condition = FindsAt tokens below (branches_at tokens below condition)

abbrev pub FindsMore : Tokenized → ℕ → Found → Cursor → Cursor → Result Parts (OrMemory Stop) → Type 0
FindsMore tokens below one = FindsPartsAt tokens below (parts_at tokens below one)

abbrev pub FindsRanked : Tokenized → ℕ → ℕ → Cursor → Cursor → Result Found (OrMemory Stop) → Type 0
FindsRanked tokens levels least = FindsFrom tokens levels (expression levels least)
