use Rattle.std.proofs.Common.{◌≡◌, ◌-◌, ◌++◌, drop}
use Rattle.vast.specs.NumberedTrees.{branch_trees, statement_trees}
use Rattle.vexpr_parse.specs.Texts.{words_of}
use Rattle.action_origins.specs.Lengths.{branches_length, statements_length}
use Rattle.action_origins.specs.Origins.{branches_origins, statements_origins}
use Rattle.action_origins.proofs.statements.+statements.Given as goal

abbrev pub invariant-put_statements-loop-one : goal.invariant-put_statements-loop-one
invariant-put_statements-loop-one l = record {
  put : l.into.items ++ statements_origins (words_of l.tokens) l.left (statement_trees (words_of l.tokens) (drop l.one-index l.statements))
      ≡ l.initial.into.items ++ statements_origins (words_of l.tokens) l.initial.left (statement_trees (words_of l.tokens) l.statements);
  past : l.left - statements_length (statement_trees (words_of l.tokens) (drop l.one-index l.statements))
      ≡ l.initial.left - statements_length (statement_trees (words_of l.tokens) l.statements);
}

abbrev pub invariant-put_branches-loop-one : goal.invariant-put_branches-loop-one
invariant-put_branches-loop-one l = record {
  put : l.into.items ++ branches_origins (words_of l.tokens) l.left (branch_trees (words_of l.tokens) (drop l.one-index l.branches))
      ≡ l.initial.into.items ++ branches_origins (words_of l.tokens) l.initial.left (branch_trees (words_of l.tokens) l.branches);
  past : l.left - branches_length (branch_trees (words_of l.tokens) (drop l.one-index l.branches))
      ≡ l.initial.left - branches_length (branch_trees (words_of l.tokens) l.branches);
}
