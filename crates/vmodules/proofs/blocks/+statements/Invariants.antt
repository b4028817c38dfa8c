use Rattle.std.proofs.Common.{◌≡◌, ◌++◌, drop}
use Rattle.vast.specs.NumberedTrees.{statement_trees, branch_trees}
use Rattle.vexpr_parse.specs.Texts.{words_of}
use Rattle.vmodules.specs.Blocks.{blocks_in_all, blocks_in_branches}
use Rattle.vmodules.specs.Inner.{words_told}
use Rattle.vmodules.proofs.blocks.+statements.Given as goal

abbrev pub invariant-add_all-loop-statement : goal.invariant-add_all-loop-statement
invariant-add_all-loop-statement l =
    words_told (words_of l.tokens) l.into.items ++ blocks_in_all (statement_trees (words_of l.tokens) (drop l.statement-index l.statements))
    ≡ words_told (words_of l.tokens) l.initial.into.items ++ blocks_in_all (statement_trees (words_of l.tokens) l.statements)

abbrev pub invariant-add_branches-loop-branch : goal.invariant-add_branches-loop-branch
invariant-add_branches-loop-branch l =
    words_told (words_of l.tokens) l.into.items ++ blocks_in_branches (branch_trees (words_of l.tokens) (drop l.branch-index l.branches))
    ≡ words_told (words_of l.tokens) l.initial.into.items ++ blocks_in_branches (branch_trees (words_of l.tokens) l.branches)
