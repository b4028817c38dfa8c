use Rattle.std.proofs.Common.{◌≡◌, drop}
use Rattle.vast.specs.TokenTexts.{texts}
use Rattle.vast.specs.StatementTrees.{statement_trees, branch_trees}
use Rattle.vspell.specs.Within.{statements_stand, branches_stand}
use Rattle.vspell.proofs.statement_fits.+statements.Given as goal

abbrev pub invariant-statements_stand-loop-statement : goal.invariant-statements_stand-loop-statement
invariant-statements_stand-loop-statement l =
    statements_stand l.levels (statement_trees (texts l.words) (drop l.statement-index l.statements))
    ≡ statements_stand l.levels (statement_trees (texts l.words) l.statements)

abbrev pub invariant-branches_stand-loop-branch : goal.invariant-branches_stand-loop-branch
invariant-branches_stand-loop-branch l =
    branches_stand l.levels (branch_trees (texts l.words) (drop l.branch-index l.branches))
    ≡ branches_stand l.levels (branch_trees (texts l.words) l.branches)
