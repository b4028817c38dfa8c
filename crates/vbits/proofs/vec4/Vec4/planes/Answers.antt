use Rattle.std.proofs.Common.{sym}
use Rattle.vbits.proofs.Views.{value_seen, unknown_seen}
use Rattle.vbits.proofs.vec4.Vec4.planes.Goals as goal

pub returns-clause-value : goal.returns-clause-value
returns-clause-value c = sym (value_seen _ _ _ _ _ c.self.invariant c.self.view_is)

pub returns-clause-unknown : goal.returns-clause-unknown
returns-clause-unknown c = sym (unknown_seen _ _ _ _ _ c.self.invariant c.self.view_is)
