use Rattle.std.proofs.Common.{ap}
use Rattle.vbits.specs.Vectors.{with_sign}
use Rattle.vbits.proofs.vec4.Vec4.with_sign.Goals as goal

pub returns : goal.returns
unfolding with_sign
returns c = ap (λ v. with_sign v c.args.signed) c.self.view_is
