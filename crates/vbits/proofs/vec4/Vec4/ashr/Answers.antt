use Rattle.std.proofs.Common.{refl, ap}
use Rattle.vbits.specs.Vectors.{ashr, sign_letter}
use Rattle.vbits.proofs.Parts.{sign_letter-view}
use Rattle.vbits.proofs.vec4.Vec4.ashr.Goals as goal

pub returns : goal.returns
unfolding ashr
returns c =
    let top = ap sign_letter c.self.view_is in
    rw (c.shifted_right.ensures, c.sign_bit-value_top.ensures, c.sign_bit-unknown_top.ensures, ← sign_letter-view _ _ _ _ c.self.invariant.some, top) refl
