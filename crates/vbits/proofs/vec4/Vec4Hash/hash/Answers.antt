use Rattle.std.proofs.Common.{sym, ap}
use Rattle.vbits.proofs.Views.{value_seen, unknown_seen}
use Rattle.vbits.proofs.vec4.Vec4Hash.hash.Goals as goal

pub returns : goal.returns
returns g c =
    rw (
      value_seen _ _ _ _ _ c.self.invariant c.self.view_is,
      unknown_seen _ _ _ _ _ c.self.invariant c.self.view_is,
    )
    cc
