use Rattle.vbits.proofs.Operands.{bitwise-planes, bitwise-view}
use Rattle.vbits.proofs.Tables.{xor_stands}
use Rattle.vbits.proofs.vec4.Vec4.xor.Goals as goal

pub invariant_of-result : goal.invariant_of-result
invariant_of-result c =
    bitwise-planes _ _ _ xor_stands _ _ _ _ _ _ _ _ _ _
    (record { left = c.self.invariant; right = c.other.invariant; left_is = c.self.view_is; right_is = c.other.view_is; same_length = c.requires })

pub returns : goal.returns
returns c =
    bitwise-view _ _ _ xor_stands _ _ _ _ _ _ _ _ _ _
    (record { left = c.self.invariant; right = c.other.invariant; left_is = c.self.view_is; right_is = c.other.view_is; same_length = c.requires })
