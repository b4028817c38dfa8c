use Rattle.std.proofs.Common.{◌≡◌, drop}
use Rattle.vcompile.specs.Listening.{events_in, events_from}
use Rattle.vcompile.proofs.listening.events_in.Given as goal

abbrev pub invariant-loop-action : goal.invariant-loop-action
invariant-loop-action l = events_from l.events (drop l.action-index l.actions) ≡ events_in l.actions
