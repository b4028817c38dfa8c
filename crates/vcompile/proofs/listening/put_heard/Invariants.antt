use Rattle.std.proofs.Common.{◌≡◌, drop}
use Rattle.vcompile.specs.Listening.{with_heard}
use Rattle.vcompile.proofs.listening.put_heard.Given as goal

abbrev pub invariant-loop-action : goal.invariant-loop-action
invariant-loop-action l =
    (l.place ≡ l.action-index)
    × (with_heard l.links l.place (drop l.action-index l.actions) l.lists ≡ with_heard l.links 0 l.actions l.initial.lists)
