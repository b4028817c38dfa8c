use Rattle.std.proofs.Common.{◌≡◌, drop}
use Rattle.vflat.specs.InnerFlat.{heard_by}
use Rattle.vflat.proofs.flat.Flat.wake_each.Given as goal

abbrev pub invariant-loop-listener : goal.invariant-loop-listener
invariant-loop-listener l =
    heard_by l.code l.news (drop l.listener-index l.listeners) l.self ≡ heard_by l.code l.news l.listeners l.fn.self
