use Rattle.std.proofs.Common.{refl}
use Rattle.std.proofs.lemmas.Bool.{ne_eqb}
use Rattle.vbits.proofs.Reductions.{all-words}
use Rattle.vbits.proofs.vec4.Vec4.all.Goals as goal

pub returns-then-self-ones-ne0 : goal.returns-then-self-ones-ne0
returns-then-self-ones-ne0 c =
    rw (← c.self.view_is, all-words _ _ _ c.self.invariant, ← c.ones.ensures, ne_eqb _ 0 c.if-self-ones-ne0.true) refl

pub returns-then-self-ne0 : goal.returns-then-self-ne0
returns-then-self-ne0 c =
    rw (← c.self.view_is, all-words _ _ _ c.self.invariant, ← c.ones.ensures, c.if-self-ones-ne0.false, ne_eqb _ 0 c.if-self-ne0.true) refl

pub returns-else-self-ne0 : goal.returns-else-self-ne0
returns-else-self-ne0 c =
    rw (← c.self.view_is, all-words _ _ _ c.self.invariant, ← c.ones.ensures, c.if-self-ones-ne0.false, c.if-self-ne0.false) refl
