use Rattle.std.proofs.Common.{◌≡◌, drop}
use Rattle.vcompile.specs.Whole.{all_listed}
use Rattle.vcompile.proofs.whole.all_listed.Given as goal

abbrev pub invariant-loop-action : goal.invariant-loop-action
invariant-loop-action l = all_listed l.variables l.events (drop l.action-index l.actions) ≡ all_listed l.variables l.events l.actions
