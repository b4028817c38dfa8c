-- *internal*: Reading of expressions: the longest tree of so many levels at the front of the words, one word at a time. That this is the
-- grammar read backwards is what `DerivesExpression` says of it.
use Rattle.std.specs.Prelude.{ℕ, zero, suc, nat_le, if◌then◌else◌, List, [], ◌∷◌, ◌++◌, Option, Some, None, codes}
use Rattle.std.specs.Str.{bytes_eq}
use Rattle.vwords.specs.Words.{Text}
use Rattle.vast.specs.Expressions.{ExpressionTree, number, name, time, bit, part, parentheses, concatenation, replication, conversion, apply, combine, conditional, ExpressionTrees, none, first, depth, rank, unary_rank}
use Rattle.vwords.specs.declared.operators.BinaryOperator.{BinaryOperator}
use Rattle.vexpr_parse.specs.declared.beginning.Beginning.{Beginning}
use Rattle.vexpr_parse.specs.declared.beginning.Beginning.TheVariants as start
use Rattle.vexpr_parse.specs.declared.beginning.Round.{Round}
use Rattle.vexpr_parse.specs.declared.beginning.Round.TheVariants as round
use Rattle.vexpr_parse.specs.declared.stop.Stop.TheVariants.{NoTree}
use Rattle.vexpr_parse.specs.Readers.{Reader, Lead, goes, refused, got, stop, and_then, by_word, room, past, choose, turns, is_front}
use Rattle.vexpr_parse.specs.Words.{beginning_of, binary_of, is_joined, is_asked}

-- the parts of a concatenation, from a list of them
abbrev pub trees_in : List ExpressionTree → ExpressionTrees
trees_in [] = none
trees_in (one ∷ more) = first one (trees_in more)

-- readers of trees with one level less, by the least rank that they may have
abbrev pub Below : Type 0
Below = ℕ → Reader ExpressionTree

-- , tree
abbrev pub one_more : Below → List ExpressionTree → Reader (List ExpressionTree)
one_more read trees = past (codes ",") (λ words. and_then (read 0 words) (λ tree. got (trees ++ tree ∷ [])))

-- tree, ..
abbrev pub parts : Below → Reader (List ExpressionTree)
parts read words = and_then (read 0 words) (λ tree. turns (one_more read) (is_front (codes ",")) (tree ∷ []))

-- { tree, .. } }
abbrev pub rest_of_replication : Below → ExpressionTree → Reader ExpressionTree
rest_of_replication read count =
    past (codes "{") (λ words. and_then (parts read words) (λ trees. past (codes "}") (past (codes "}")
    (got (replication count (trees_in trees))))))

-- , tree, .. }
abbrev pub rest_of_concatenation : Below → ExpressionTree → Reader ExpressionTree
rest_of_concatenation read tree words =
    and_then (turns (one_more read) (is_front (codes ",")) (tree ∷ []) words) (λ trees. past (codes "}")
    (got (concatenation (trees_in trees))))

-- what follows {
abbrev pub braces : Below → Reader ExpressionTree
braces read words = and_then (read 0 words) (λ tree. choose (is_front (codes "{")) (rest_of_replication read tree) (rest_of_concatenation read tree))

-- what follows (
abbrev pub rest_of_parentheses : Below → (ExpressionTree → ExpressionTree) → Reader ExpressionTree
rest_of_parentheses read make words = and_then (read 0 words) (λ tree. past (codes ")") (got (make tree)))

-- right ]
abbrev pub part_of : Below → Text → ExpressionTree → Reader ExpressionTree
part_of read letters left words = and_then (read 0 words) (λ right. past (codes "]") (got (part letters left right)))

abbrev pub index_lead : Below → Text → ExpressionTree → Text → Lead ExpressionTree
index_lead read letters index word =
    if bytes_eq (codes "]") word then goes (got (bit letters index))
    else if bytes_eq (codes ":") word then goes (part_of read letters index)
    else refused

-- what follows name [
abbrev pub rest_of_select : Below → Text → Reader ExpressionTree
rest_of_select read letters words = and_then (read 0 words) (λ index. by_word (index_lead read letters index))

abbrev pub select_lead : ℕ → Below → Text → Text → Lead ExpressionTree
select_lead below read letters word = if bytes_eq (codes "[") word then room below 1 (goes (rest_of_select read letters)) else refused

-- what follows a name
abbrev pub rest_of_name : ℕ → Below → Text → Reader ExpressionTree
rest_of_name below read letters = choose (is_front (codes "[")) (by_word (select_lead below read letters)) (got (name letters))

-- what follows a word that begins a tree round another
abbrev pub round_by : Below → Round → Reader ExpressionTree
round_by read round.Parenthesis = rest_of_parentheses read parentheses
round_by read round.Brace = braces read
round_by read (round.Conversion signed) = past (codes "(") (rest_of_parentheses read (conversion signed))
round_by read (round.Operator operator) = λ words. and_then (read unary_rank words) (λ tree. got (apply operator tree))

abbrev pub primary_by : ℕ → Below → Text → Beginning → Lead ExpressionTree
primary_by below read word start.Number = goes (got (number word))
primary_by below read word start.Name = goes (rest_of_name below read word)
primary_by below read word start.Time = goes (got (time word))
primary_by below read word (start.Round kind) = room below 1 (goes (round_by read kind))
primary_by below read word start.Other = refused

abbrev pub primary_lead : ℕ → Below → Text → Lead ExpressionTree
primary_lead below read word = primary_by below read word (beginning_of word)

-- a tree that no binary operator makes
abbrev pub primary : ℕ → Below → Reader ExpressionTree
primary below read = by_word (primary_lead below read)

-- an operator of the rank or above, and its right side, which holds more tightly
abbrev pub operator_by : ℕ → Below → ℕ → ExpressionTree → Option BinaryOperator → Lead ExpressionTree
operator_by below read least left None = refused
operator_by below read least left (Some operator) =
    if nat_le least (rank operator)
    then room below (depth left) (goes (λ words. and_then (read (suc (rank operator)) words) (λ right. got (combine operator left right))))
    else refused

abbrev pub operator_lead : ℕ → Below → ℕ → ExpressionTree → Text → Lead ExpressionTree
operator_lead below read least left word = operator_by below read least left (binary_of word)

abbrev pub operator : ℕ → Below → ℕ → ExpressionTree → Reader ExpressionTree
operator below read least left = by_word (operator_lead below read least left)

-- what follows ?
abbrev pub branches : Below → ExpressionTree → Reader ExpressionTree
branches read condition words =
    and_then (read 0 words) (λ when_true. past (codes ":") (λ left. and_then (read 0 left)
    (λ when_false. got (conditional condition when_true when_false))))

abbrev pub question_lead : ℕ → Below → ℕ → ExpressionTree → Text → Lead ExpressionTree
question_lead below read least condition word =
    if is_asked least (Some word) then room below (depth condition) (goes (branches read condition)) else refused

abbrev pub question : ℕ → Below → ℕ → ExpressionTree → Reader ExpressionTree
question below read least condition = choose (is_asked least) (by_word (question_lead below read least condition)) (got condition)

-- operators from a left side on, and then a conditional, where the rank lets one stand
abbrev pub onward : ℕ → Below → ℕ → ExpressionTree → Reader ExpressionTree
onward below read least left words = and_then (turns (operator below read least) (is_joined least) left words) (question below read least)

abbrev pub expression_by : ℕ → Below → ℕ → Reader ExpressionTree
expression_by below read least words = and_then (primary below read words) (onward below read least)

-- an expression of so many levels at most, one or more, and of this rank at least
unfoldable pub expression : ℕ → ℕ → Reader ExpressionTree
expression zero least words = stop NoTree words
expression (suc below) least words = expression_by below (expression below) least words
