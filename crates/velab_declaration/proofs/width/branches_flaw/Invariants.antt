use Rattle.std.proofs.Common.{◌≡◌, drop}
use Rattle.velab_declaration.specs.ActionFlaws.{first_flaw, branch_flaw}
use Rattle.velab_declaration.proofs.width.branches_flaw.Given as goal

abbrev pub invariant-loop-branch : goal.invariant-loop-branch
invariant-loop-branch l = first_flaw (branch_flaw l.environment) l.branches ≡ first_flaw (branch_flaw l.environment) (drop l.branch-index l.branches)
