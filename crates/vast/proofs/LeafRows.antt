-- The tokens that concatenations, targets between braces, blocks and cases keep are those of their lists.
use Rattle.std.proofs.Common.{◌≡◌, ℕ, ◌++◌, Vec, Global, Box, refl, ap, ◌∙◌, Option, [], ◌∷◌}
use Rattle.std.specs.List.{flat_map}
use Rattle.vast.specs.declared.expression.Expression.{Expression, Concatenation, Concatenation', Replication, Replication', Row_of-Expression, end_of-Expression, more_of-Expression, items-the_row-Expression, items_hidden-the_row-Expression-0}
use Rattle.vwords.specs.declared.cases.CaseKind.{CaseKind}
use Rattle.vast.specs.declared.statement.Target.{Target, Joined, Joined', Row_of-Target, end_of-Target, more_of-Target, items-the_row-Target, items_hidden-the_row-Target-0}
use Rattle.vast.specs.declared.statement.Branch.{Branch}
use Rattle.vast.specs.declared.statement.Statement.{Statement, Block, Block', Case, Case', Row_of-Statement, end_of-Statement, more_of-Statement, Row_of-Branch, end_of-Branch, more_of-Branch, items-the_row-Statement, items_hidden-the_row-Statement-0, items-the_row-Branch, items_hidden-the_row-Branch-1}
use Rattle.vast.specs.Leaves.{leaves_of, row_leaves, target_leaves, target_row_leaves, statement_leaves, statement_row_leaves, branch_leaves, branch_row_leaves, if_some}
use Rattle.vast.specs.declared.token.Token.{Token}
use mathlib.Core.Former.{Count}

abbrev row_of : Expression → (n : Count) × Row_of-Expression n
row_of (Concatenation' at shape row) = (_, row)
row_of (Replication' at place count shape row) = (_, row)
row_of _ = (_, end_of-Expression)

leaves_of_row : (n : _) (row : Row_of-Expression n) → row_leaves row ≡ flat_map leaves_of (items-the_row-Expression n row)
leaves_of_row n end_of-Expression = refl
leaves_of_row n (more_of-Expression one more) = ap (λ l. leaves_of one ++ l) (leaves_of_row _ more)

pub concatenation_leaves : (at : ℕ) (parts : Vec Expression Global) → leaves_of (Concatenation at parts) ≡ flat_map leaves_of parts.items
concatenation_leaves at parts =
    let row = row_of (Concatenation at parts) in
    leaves_of_row row.0 row.1 ∙ ap (flat_map leaves_of) (items_hidden-the_row-Expression-0 parts)

-- with those of the count as it stands in the tree
pub replication_leaves : (at : ℕ) (count : Box Expression Global) (parts : Vec Expression Global) →
    leaves_of (Replication at count parts) ≡ leaves_of count.value ++ flat_map leaves_of parts.items
replication_leaves at count parts =
    let row = row_of (Replication at count parts) in
    ap (λ l. leaves_of count.value ++ l) (leaves_of_row row.0 row.1 ∙ ap (flat_map leaves_of) (items_hidden-the_row-Expression-0 parts))

-- targets between braces

abbrev targets_of : Target → (n : Count) × Row_of-Target n
targets_of (Joined' at shape row) = (_, row)
targets_of _ = (_, end_of-Target)

leaves_of_targets : (n : _) (row : Row_of-Target n) → target_row_leaves row ≡ flat_map target_leaves (items-the_row-Target n row)
leaves_of_targets n end_of-Target = refl
leaves_of_targets n (more_of-Target one more) = ap (λ l. target_leaves one ++ l) (leaves_of_targets _ more)

pub joined_leaves : (at : ℕ) (targets : Vec Target Global) → target_leaves (Joined at targets) ≡ flat_map target_leaves targets.items
joined_leaves at targets =
    let row = targets_of (Joined at targets) in
    leaves_of_targets row.0 row.1 ∙ ap (flat_map target_leaves) (items_hidden-the_row-Target-0 targets)

-- blocks and cases

abbrev statements_of : Statement → (n : Count) × Row_of-Statement n
statements_of (Block' label shape row) = (_, row)
statements_of _ = (_, end_of-Statement)

leaves_of_statements : (n : _) (row : Row_of-Statement n) → statement_row_leaves row ≡ flat_map statement_leaves (items-the_row-Statement n row)
leaves_of_statements n end_of-Statement = refl
leaves_of_statements n (more_of-Statement one more) = ap (λ l. statement_leaves one ++ l) (leaves_of_statements _ more)

pub block_leaves : (label : Option Token) (statements : Vec Statement Global) →
    statement_leaves (Block label statements) ≡ if_some (λ word. word ∷ []) label ++ flat_map statement_leaves statements.items
block_leaves label statements =
    let row = statements_of (Block label statements) in
    ap (λ l. if_some (λ word. word ∷ []) label ++ l)
    (leaves_of_statements row.0 row.1 ∙ ap (flat_map statement_leaves) (items_hidden-the_row-Statement-0 statements))

abbrev branches_of : Statement → (n : Count) × Row_of-Branch n
branches_of (Case' at kind value shape row) = (_, row)
branches_of _ = (_, end_of-Branch)

leaves_of_branches : (n : _) (row : Row_of-Branch n) → branch_row_leaves row ≡ flat_map branch_leaves (items-the_row-Branch n row)
leaves_of_branches n end_of-Branch = refl
leaves_of_branches n (more_of-Branch one more) = ap (λ l. branch_leaves one ++ l) (leaves_of_branches _ more)

-- with those of the value as it stands in the tree
pub case_leaves : (at : ℕ) (kind : CaseKind) (value : Box Expression Global) (branches : Vec Branch Global) →
    statement_leaves (Case at kind value branches) ≡ leaves_of value.value ++ flat_map branch_leaves branches.items
case_leaves at kind value branches =
    let row = branches_of (Case at kind value branches) in
    ap (λ l. leaves_of value.value ++ l) (leaves_of_branches row.0 row.1 ∙ ap (flat_map branch_leaves) (items_hidden-the_row-Branch-1 branches))
