use Rattle.std.proofs.Common.{◌≡◌, ◌%◌, refl, sym, arith}
use Rattle.std.specs.Prelude.{count_ones}
use Rattle.vbits.proofs.Reductions.{parity-unknown, parity-known}
use Rattle.vbits.proofs.vec4.Vec4.parity.Goals as goal

pub returns-then-self-ne0 : goal.returns-then-self-ne0
returns-then-self-ne0 c =
    rw (← c.self.view_is) (sym (parity-unknown _ _ _ c.self.invariant c.if-self-ne0.true))

pub returns-then-self-eq0 : goal.returns-then-self-eq0
returns-then-self-eq0 c =
    rw (← c.self.view_is, c.if-self-ne0.false, parity-known _ _ c.self.invariant.value_within, c.if-self-eq0.true) refl

pub returns-else-self-eq0 : goal.returns-else-self-eq0
returns-else-self-eq0 c =
    let odd : count_ones c.self.inside.value % 2 ≡ 1 = omega arith in
    rw (← c.self.view_is, c.if-self-ne0.false, parity-known _ _ c.self.invariant.value_within, odd) refl
