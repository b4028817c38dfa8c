use Rattle.std.proofs.Common.{◌∙◌}
use Rattle.vbits.proofs.Arithmetic.{neg-unknown, neg-view}
use Rattle.vbits.proofs.vec4.Vec4.neg.Goals as goal

pub returns-then-self-ne0 : goal.returns-then-self-ne0
returns-then-self-ne0 c =
    c.unknowns.ensures ∙ neg-unknown _ _ _ _ _ c.self.invariant.unknown_within c.self.view_is c.if-self-ne0.true

pub returns : goal.returns
returns c = rw c.ones.ensures (neg-view _ _ _ _ _ c.self.invariant c.self.view_is c.if-self-ne0.false)
