-- *internal*: What is read of a case: its labels, its branches.
use Rattle.std.specs.Prelude.{ℕ, Bool, not, List, [], ◌∷◌, Option, Vec, map, codes}
use Rattle.std.specs.List.{flat_map}
use Rattle.vwords.specs.Words.{Text}
use Rattle.vast.specs.Leaves.{leaves_of, branch_leaves}
use Rattle.vast.specs.declared.token.Token.{Token}
use Rattle.vast.specs.Expressions.{ExpressionTree}
use Rattle.vast.specs.ExpressionTrees.{tree_of}
use Rattle.vast.specs.Statements.{StatementTree, BranchTree, labelled, case_of}
use Rattle.vast.specs.StatementTrees.{branch_tree}
use Rattle.vast.specs.declared.expression.Expression.{Expression}
use Rattle.vast.specs.declared.statement.Branch.{Branch as BranchWords}
use Rattle.vwords.specs.declared.cases.CaseKind.{CaseKind}
use Rattle.vexpr_parse.specs.Readers.{Reader, got, and_then, past, is_front, turns}
use Rattle.vexpr_parse.specs.Reading.{trees_in}
use Rattle.vgrammar.specs.Lists.{all_until}
use Rattle.vgrammar.specs.Parts.{one_way, map_tree, pair, maybe, either, one_behind}
use Rattle.vgrammar.specs.Statements.{statement, value, word_only, comma_list, default_branch, branch, branch_of, branches_in, case_parts, case_parts_of}

-- the labels of a branch
abbrev pub all_labels : {T : Type 0} → List Text → Vec Expression T → List ExpressionTree
all_labels words labels = map (tree_of words) labels.items

-- the labels with the first one
abbrev pub labels_behind : ℕ → ExpressionTree → Reader (List ExpressionTree)
labels_behind below one =
    turns (one_behind (λ list. past (codes ",") (value below))) (is_front (codes ",")) (one ∷ [])

-- with the colon
abbrev pub labels_within : ℕ → Reader (List ExpressionTree)
labels_within below = all_until (codes ":") (value below)

-- a branch with labels
abbrev pub labelled_at : ℕ → Reader BranchTree
labelled_at below words =
    and_then (labels_within below words) (λ all. map_tree (labelled (trees_in all)) (statement below))

-- a default
abbrev pub default_at : ℕ → Reader BranchTree
default_at below =
    map_tree (λ parts. branch_of (one_way parts))
    (past (codes "default") (pair (maybe (is_front (codes ":")) (word_only (codes ":"))) (statement below)))

-- a branch, by whether a default stands before it
abbrev pub later_branch : ℕ → Bool → Reader BranchTree
later_branch below seen =
    map_tree branch_of (either (is_front (codes "default")) (default_branch (statement below) seen)
    (pair (comma_list (value below)) (past (codes ":") (statement below))))

-- a branch behind others
abbrev pub branch_at : ℕ → List BranchTree → Reader BranchTree
branch_at below list = branch below (statement below) list

abbrev pub all_branches : {T : Type 0} → List Text → Vec BranchWords T → List BranchTree
all_branches words branches = map (branch_tree words) branches.items

abbrev pub not_endcase : Option Text → Bool
not_endcase next = not (is_front (codes "endcase") next)

-- the branches with those that were read
abbrev pub branches_from : ℕ → List BranchTree → Reader (List BranchTree)
branches_from below = turns (one_behind (branch_at below)) not_endcase

abbrev pub later_branches : ℕ → BranchTree → Reader (List BranchTree)
later_branches below one = branches_from below (one ∷ [])

-- with the word that ends them
abbrev pub branches_within : ℕ → Reader (List BranchTree)
branches_within below words =
    and_then (branch_at below [] words)
    (λ one left. and_then (later_branches below one left) (λ all. past (codes "endcase") (got all)))

-- behind the first word of a case
abbrev pub case_behind : ℕ → CaseKind → ExpressionTree → Reader StatementTree
case_behind below kind tree = map_tree (λ all. case_of kind tree (branches_in all)) (branches_within below)

abbrev pub case_inner : ℕ → CaseKind → Reader StatementTree
case_inner below kind words = and_then (value below words) (λ tree. past (codes ")") (case_behind below kind tree))

abbrev pub case_whole : ℕ → CaseKind → Reader StatementTree
case_whole below kind = past (codes "(") (case_inner below kind)

abbrev pub case_at : ℕ → CaseKind → Reader StatementTree
case_at below kind = map_tree (case_parts_of kind) (case_parts below (statement below))

-- the tokens that are kept of labels, and of branches
abbrev pub all_label_leaves : {T : Type 0} → Vec Expression T → List Token
all_label_leaves labels = flat_map leaves_of labels.items

abbrev pub all_branch_leaves : {T : Type 0} → Vec BranchWords T → List Token
all_branch_leaves branches = flat_map branch_leaves branches.items
