use Rattle.std.proofs.Common.{◌≡◌, ◌++◌, drop}
use Rattle.vcompile.specs.Operands.{operands_of}
use Rattle.vcompile.proofs.operands.operands_of.Given as goal

abbrev pub invariant-loop-action : goal.invariant-loop-action
invariant-loop-action l =
    l.operands.items ++ operands_of l.fn.variables (drop l.action-index l.fn.actions) ≡ operands_of l.fn.variables l.fn.actions
