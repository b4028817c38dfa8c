use Rattle.vbits.proofs.Equality.{same_letters-words}
use Rattle.vbits.proofs.vec4.Vec4.is_same.Goals as goal

pub returns : goal.returns
returns c =
    same_letters-words _ _ _ _ _ _ _ _ _ _
    (record { left = c.self.invariant; right = c.other.invariant; left_is = c.self.view_is; right_is = c.other.view_is; same_length = c.requires })
