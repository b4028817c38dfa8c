-- *internal*: What is read of statements round others: of an if, and of a for.
use Rattle.std.specs.Prelude.{ℕ, List, ◌++◌, Option, option_map, Box, codes}
use Rattle.vwords.specs.Words.{Text}
use Rattle.vast.specs.Expressions.{ExpressionTree}
use Rattle.vast.specs.ExpressionTrees.{boxed_tree}
use Rattle.vast.specs.Leaves.{boxed_leaves, statement_leaves, if_some}
use Rattle.vast.specs.declared.token.Token.{Token}
use Rattle.vast.specs.Statements.{TargetTree, StatementTree}
use Rattle.vast.specs.StatementTrees.{statement_tree}
use Rattle.vexpr_parse.specs.Readers.{Reader, past, is_front}
use Rattle.vgrammar.specs.Parts.{Both, both, map_tree, maybe, pair}
use Rattle.vgrammar.specs.Statements.{statement, guard_then, if_of, branches_of_if, setting, value, for_of, for_parts}
use Rattle.vast.specs.declared.statement.Statement.{Statement}
use Rattle.vstatement_parse.specs.declared.conditions.Choice.{Choice}
use Rattle.vstatement_parse.specs.declared.loops.Step.{Step}
use Rattle.vstatement_parse.specs.declared.loops.Going.{Going}
use Rattle.vstatement_parse.specs.Gives.{setting_tree, setting_leaves}

-- the tree of a statement behind a pointer
abbrev pub body_tree : {A : Type 0} → List Text → Box Statement A → StatementTree
body_tree words body = statement_tree words body.value

-- what stands behind else, if it is there
abbrev pub otherwise_at : ℕ → Reader (Option StatementTree)
otherwise_at below = maybe (is_front (codes "else")) (past (codes "else") (statement below))

abbrev pub optional_tree : {A : Type 0} → List Text → Option (Box Statement A) → Option StatementTree
optional_tree words body = option_map (body_tree words) body

abbrev pub choice_tree : List Text → Choice → Both StatementTree (Option StatementTree)
choice_tree words choice = both (body_tree words choice.body) (optional_tree words choice.other)

-- behind if
abbrev pub if_at : ℕ → Reader StatementTree
if_at below = map_tree if_of (guard_then below (branches_of_if (statement below)))

-- what a for does behind each turn, and its statement
abbrev pub step_at : ℕ → Reader (Both (Both TargetTree ExpressionTree) StatementTree)
step_at below = pair (setting below) (past (codes ")") (statement below))

abbrev pub step_tree : List Text → Step → Both (Both TargetTree ExpressionTree) StatementTree
step_tree words step = both (setting_tree words step.next) (body_tree words step.body)

-- behind the first semicolon of a for
abbrev pub going_at : ℕ → Reader (Both ExpressionTree (Both (Both TargetTree ExpressionTree) StatementTree))
going_at below = pair (value below) (past (codes ";") (step_at below))

abbrev pub going_tree : List Text → Going → Both ExpressionTree (Both (Both TargetTree ExpressionTree) StatementTree)
going_tree words going = both (boxed_tree words going.condition) (step_tree words going.step)

-- behind for
abbrev pub for_at : ℕ → Reader StatementTree
for_at below = map_tree for_of (for_parts below (statement below))

-- the tokens that are kept of a statement behind a pointer, and of what stands round one
abbrev pub body_leaves : {A : Type 0} → Box Statement A → List Token
body_leaves body = statement_leaves body.value

abbrev pub choice_leaves : Choice → List Token
choice_leaves choice = body_leaves choice.body ++ if_some body_leaves choice.other

abbrev pub step_leaves : Step → List Token
step_leaves step = setting_leaves step.next ++ body_leaves step.body

abbrev pub going_leaves : Going → List Token
going_leaves going = boxed_leaves going.condition ++ step_leaves going.step
