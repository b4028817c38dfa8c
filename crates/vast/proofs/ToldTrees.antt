-- The trees of concatenations, replications, blocks and cases, of words that are told in any way.
use Rattle.std.proofs.Common.{◌≡◌, ℕ, Vec, Global, Box, refl, ap, ◌∙◌, Option}
use Rattle.vast.specs.Expressions.{concatenation, replication, first}
use Rattle.vast.specs.Statements.{joined, block, case_of, first_statement, first_branch}
use Rattle.vast.specs.Statements as targets
use Rattle.vast.specs.ExpressionTrees.{expression_told, row_told, expressions_told, boxed_told}
use Rattle.vast.specs.StatementTrees.{target_told, targets_told, target_row_told, statement_told, statements_told, statement_row_told, branch_told, branches_told, branch_row_told}
use Rattle.vast.specs.declared.token.Token.{Token}
use Rattle.vast.specs.declared.expression.Expression.{Expression, Concatenation, Concatenation', Replication, Replication', Row_of-Expression, end_of-Expression, more_of-Expression, items-the_row-Expression, items_hidden-the_row-Expression-0}
use Rattle.vast.specs.declared.statement.Target.{Target, Joined, Joined', Row_of-Target, end_of-Target, more_of-Target, items-the_row-Target, items_hidden-the_row-Target-0}
use Rattle.vwords.specs.declared.cases.CaseKind.{CaseKind}
use Rattle.vast.specs.declared.statement.Branch.{Branch}
use Rattle.vast.specs.declared.statement.Statement.{Statement, Block, Block', Case, Case', Row_of-Statement, end_of-Statement, more_of-Statement, Row_of-Branch, end_of-Branch, more_of-Branch, items-the_row-Statement, items_hidden-the_row-Statement-0, items-the_row-Branch, items_hidden-the_row-Branch-1}
use Rattle.std.specs.Option.{option_map}
use mathlib.Core.Former.{Count}

abbrev parts_of : Expression → (n : Count) × Row_of-Expression n
parts_of (Concatenation' at shape row) = (_, row)
parts_of (Replication' at place count shape row) = (_, row)
parts_of _ = (_, end_of-Expression)

abbrev joined_of : Target → (n : Count) × Row_of-Target n
joined_of (Joined' at shape row) = (_, row)
joined_of _ = (_, end_of-Target)

abbrev statements_of : Statement → (n : Count) × Row_of-Statement n
statements_of (Block' label shape row) = (_, row)
statements_of _ = (_, end_of-Statement)

abbrev branches_of : Statement → (n : Count) × Row_of-Branch n
branches_of (Case' at kind value shape row) = (_, row)
branches_of _ = (_, end_of-Branch)

module _ {W : Type 0} (told : Token → W) where
  row_of_parts : (n : _) (row : Row_of-Expression n) → row_told told row ≡ expressions_told told (items-the_row-Expression n row)
  row_of_parts n end_of-Expression = refl
  row_of_parts n (more_of-Expression one more) = ap (first (expression_told told one)) (row_of_parts _ more)

  pub told_concatenation : (at : ℕ) (parts : Vec Expression Global) → expression_told told (Concatenation at parts) ≡ concatenation (expressions_told told parts.items)
  told_concatenation at parts =
      let row = parts_of (Concatenation at parts) in
      let same = items_hidden-the_row-Expression-0 parts in
      ap concatenation (row_of_parts row.0 row.1 ∙ ap (expressions_told told) same)

  -- with the count as it stands in the tree
  pub told_replication : (at : ℕ) (count : Box Expression Global) (parts : Vec Expression Global) →
      expression_told told (Replication at count parts) ≡ replication (expression_told told count.value) (expressions_told told parts.items)
  told_replication at count parts =
      let row = parts_of (Replication at count parts) in
      let same = items_hidden-the_row-Expression-0 parts in
      ap (replication (expression_told told count.value)) (row_of_parts row.0 row.1 ∙ ap (expressions_told told) same)

  row_of_targets : (n : _) (row : Row_of-Target n) → target_row_told told row ≡ targets_told told (items-the_row-Target n row)
  row_of_targets n end_of-Target = refl
  row_of_targets n (more_of-Target one more) = ap (targets.first (target_told told one)) (row_of_targets _ more)

  pub told_joined : (at : ℕ) (targets : Vec Target Global) → target_told told (Joined at targets) ≡ joined (targets_told told targets.items)
  told_joined at targets =
      let row = joined_of (Joined at targets) in
      let same = items_hidden-the_row-Target-0 targets in
      ap joined (row_of_targets row.0 row.1 ∙ ap (targets_told told) same)

  row_of_statements : (n : _) (row : Row_of-Statement n) → statement_row_told told row ≡ statements_told told (items-the_row-Statement n row)
  row_of_statements n end_of-Statement = refl
  row_of_statements n (more_of-Statement one more) = ap (first_statement (statement_told told one)) (row_of_statements _ more)

  pub told_block : (label : Option Token) (statements : Vec Statement Global) →
      statement_told told (Block label statements) ≡ block (option_map told label) (statements_told told statements.items)
  told_block label statements =
      let row = statements_of (Block label statements) in
      let same = items_hidden-the_row-Statement-0 statements in
      ap (block (option_map told label)) (row_of_statements row.0 row.1 ∙ ap (statements_told told) same)

  row_of_branches : (n : _) (row : Row_of-Branch n) → branch_row_told told row ≡ branches_told told (items-the_row-Branch n row)
  row_of_branches n end_of-Branch = refl
  row_of_branches n (more_of-Branch one more) = ap (first_branch (branch_told told one)) (row_of_branches _ more)

  pub told_case : (at : ℕ) (kind : CaseKind) (value : Box Expression Global) (branches : Vec Branch Global) →
      statement_told told (Case at kind value branches) ≡ case_of kind (boxed_told told value) (branches_told told branches.items)
  told_case at kind value branches =
      let row = branches_of (Case at kind value branches) in
      let same = items_hidden-the_row-Branch-1 branches in
      ap (case_of kind (boxed_told told value)) (row_of_branches row.0 row.1 ∙ ap (branches_told told) same)
