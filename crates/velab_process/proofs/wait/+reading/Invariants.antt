use Rattle.std.proofs.Common.{◌≡◌, ◌++◌, drop}
use Rattle.vast.specs.NumberedTrees.{statement_trees, branch_trees}
use Rattle.vexpr_parse.specs.Texts.{words_of}
use Rattle.velab_process.specs.Waits.{any_of, read_by_all, read_by_branches}
use Rattle.velab_process.proofs.wait.+reading.Given as goal

abbrev pub invariant-put_all_read-loop-statement : goal.invariant-put_all_read-loop-statement
invariant-put_all_read-loop-statement l =
    l.terms.items ++ any_of l.scope (read_by_all (statement_trees (words_of l.tokens) (drop l.statement-index l.statements)))
    ≡ l.initial.terms.items ++ any_of l.scope (read_by_all (statement_trees (words_of l.tokens) l.statements))

abbrev pub invariant-put_branches-loop-branch : goal.invariant-put_branches-loop-branch
invariant-put_branches-loop-branch l =
    l.terms.items ++ any_of l.scope (read_by_branches (branch_trees (words_of l.tokens) (drop l.branch-index l.branches)))
    ≡ l.initial.terms.items ++ any_of l.scope (read_by_branches (branch_trees (words_of l.tokens) l.branches))
