use Rattle.std.proofs.Common.{refl}
use Rattle.std.proofs.lemmas.Bool.{ne_eqb}
use Rattle.vbits.specs.Vectors.{truth}
use Rattle.vbits.proofs.Reductions.{truth-words}
use Rattle.vbits.proofs.vec4.Vec4.truth.Goals as goal

pub returns-then-self-ne0 : goal.returns-then-self-ne0
unfolding truth
returns-then-self-ne0 c =
    rw (← c.self.view_is, truth-words _ _ _ c.self.invariant, ne_eqb _ 0 c.if-self-ne0.true) refl

pub returns-then-self-ne0-2 : goal.returns-then-self-ne0-2
unfolding truth
returns-then-self-ne0-2 c =
    rw (← c.self.view_is, truth-words _ _ _ c.self.invariant, c.if-self-ne0.false, ne_eqb _ 0 c.if-self-ne0-2.true) refl

pub returns-else-self-ne0-2 : goal.returns-else-self-ne0-2
unfolding truth
returns-else-self-ne0-2 c =
    rw (← c.self.view_is, truth-words _ _ _ c.self.invariant, c.if-self-ne0.false, c.if-self-ne0-2.false) refl
