-- The trees of blocks and of cases.
use Rattle.std.proofs.Common.{◌≡◌, ℕ, Box, Vec, Global, Option}
use Rattle.std.specs.Prelude.{List}
use Rattle.vast.specs.Statements.{block, case_of}
use Rattle.vast.specs.ExpressionTrees.{boxed_tree}
use Rattle.vast.specs.StatementTrees.{statement_tree, statement_trees, branch_trees}
use Rattle.vast.specs.TokenTexts.{token_text}
use Rattle.vast.specs.declared.expression.Expression.{Expression}
use Rattle.vwords.specs.declared.cases.CaseKind.{CaseKind}
use Rattle.vast.specs.declared.statement.Branch.{Branch}
use Rattle.vast.specs.declared.statement.Statement.{Statement, Block, Case}
use Rattle.vwords.specs.Words.{Text}
use Rattle.vast.proofs.ToldTrees.{told_block, told_case}
use Rattle.std.specs.Option.{option_map}
use Rattle.vast.specs.declared.token.Token.{Token}

module _ (words : List Text) where
  pub tree_of_whole_block : (label : Option Token) (statements : Vec Statement Global) →
      statement_tree words (Block label statements) ≡ block (option_map (token_text words) label) (statement_trees words statements.items)
  tree_of_whole_block = told_block (token_text words)

  pub tree_of_case : (at : ℕ) (kind : CaseKind) (value : Box Expression Global) (branches : Vec Branch Global) →
      statement_tree words (Case at kind value branches) ≡ case_of kind (boxed_tree words value) (branch_trees words branches.items)
  tree_of_case = told_case (token_text words)
