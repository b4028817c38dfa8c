use Rattle.std.proofs.Common.{◌≡◌, ◌+◌, nat_le, if◌then◌else◌, List, drop}
use Rattle.vwords.specs.Words.{Text}
use Rattle.vast.specs.Statements.{defaults}
use Rattle.vast.specs.StatementTrees.{branch_trees}
use Rattle.vspell.proofs.statement_fits.has_one_default.Given as goal

abbrev pub invariant-loop-branch : goal.invariant-loop-branch
invariant-loop-branch l =
    (words : List Text) →
    nat_le ((if l.seen then 1 else 0) + defaults (branch_trees words (drop l.branch-index l.branches))) 1
    ≡ nat_le (defaults (branch_trees words l.branches)) 1
