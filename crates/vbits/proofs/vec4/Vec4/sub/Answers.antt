use Rattle.std.proofs.Common.{◌∙◌}
use Rattle.vbits.specs.Vectors.{difference_of}
use Rattle.vbits.proofs.Arithmetic.{arithmetic-unknown, sub-view}
use Rattle.vbits.proofs.vec4.Vec4.sub.Goals as goal

pub returns-then-self-other-ne0 : goal.returns-then-self-other-ne0
returns-then-self-other-ne0 c =
    c.unknowns.ensures
    ∙ arithmetic-unknown difference_of _ _ _ _ _ _ _ _ _ _
    (record { left = c.self.invariant; right = c.other.invariant; left_is = c.self.view_is; right_is = c.other.view_is; same_length = c.requires })
    c.if-self-other-ne0.true

pub returns : goal.returns
returns c =
    rw c.ones.ensures
    (sub-view _ _ _ _ _ _ _ _ _ _
    (record { left = c.self.invariant; right = c.other.invariant; left_is = c.self.view_is; right_is = c.other.view_is; same_length = c.requires })
    c.if-self-other-ne0.false)
