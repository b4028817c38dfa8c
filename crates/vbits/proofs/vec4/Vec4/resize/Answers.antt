use Rattle.std.proofs.Common.{◌≤◌, arith}
use Rattle.vbits.proofs.Parts.{cut-view, extend-view, extend-planes}
use Rattle.vbits.proofs.vec4.Vec4.resize.Goals as goal

pub returns-then-len-self : goal.returns-then-len-self
returns-then-len-self c =
    rw c.ones-kept.ensures (cut-view _ _ _ c.args.len _ _ c.self.view_is c.if-len-self.true)

pub invariant_of-result-2 : goal.invariant_of-result-2
invariant_of-result-2 c =
    let longer : c.self.inside.len ≤ c.args.len = omega arith in
    rw (c.extend.ensures, c.extend-2.ensures) (extend-planes _ _ _ c.args.len _ _ c.self.invariant longer c.requires.few)

pub returns : goal.returns
returns c =
    let longer : c.self.inside.len ≤ c.args.len = omega arith in
    rw (c.extend.ensures, c.extend-2.ensures, c.sign_bit-value_top.ensures, c.sign_bit-unknown_top.ensures)
    (extend-view _ _ _ c.args.len _ _ c.self.invariant c.self.view_is longer)
