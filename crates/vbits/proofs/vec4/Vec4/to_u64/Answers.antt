use Rattle.std.proofs.Common.{sym}
use Rattle.vbits.proofs.NumbersOf.{number-known, number-unknown}
use Rattle.vbits.proofs.vec4.Vec4.to_u64.Goals as goal

pub returns-then-self-eq0 : goal.returns-then-self-eq0
returns-then-self-eq0 c =
    rw (← c.self.view_is, c.if-self-eq0.true) (sym (number-known _ _ c.self.invariant.value_within))

pub returns-else-self-eq0 : goal.returns-else-self-eq0
returns-else-self-eq0 c =
    rw (← c.self.view_is) (sym (number-unknown _ _ _ c.self.invariant.unknown_within c.if-self-eq0.false))
