use Rattle.std.proofs.Common.{◌≡◌, ◌-◌, drop}
use Rattle.vast.specs.NumberedTrees.{branch_trees, statement_tree, statement_trees, trees_of}
use Rattle.vexpr_parse.specs.Texts.{words_of}
use Rattle.module_size.specs.Sizes.{branches_size, labels_size, statement_size, statements_size}
use Rattle.module_size.proofs.statements.+statements.Given as goal

abbrev pub invariant-take_statements-loop-one : goal.invariant-take_statements-loop-one
invariant-take_statements-loop-one l =
    l.left - statements_size l.path (statement_trees (words_of l.tokens) (drop l.one-index l.statements)) ≡ l.initial.left - statements_size l.path (statement_trees (words_of l.tokens) l.statements)

abbrev pub invariant-take_branches-loop-one : goal.invariant-take_branches-loop-one
invariant-take_branches-loop-one l =
    l.left - branches_size l.path (branch_trees (words_of l.tokens) (drop l.one-index l.branches)) ≡ l.initial.left - branches_size l.path (branch_trees (words_of l.tokens) l.branches)

abbrev pub invariant-take_labels-loop-one : goal.invariant-take_labels-loop-one
invariant-take_labels-loop-one l =
    l.left - labels_size (statement_size l.path (statement_tree (words_of l.tokens) l.body)) (trees_of (words_of l.tokens) (drop l.one-index l.labels)) ≡ l.initial.left - labels_size (statement_size l.path (statement_tree (words_of l.tokens) l.body)) (trees_of (words_of l.tokens) l.labels)
