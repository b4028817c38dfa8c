use Rattle.std.proofs.Common.{◌≡◌, length, ap, ◌∙◌}
use Rattle.vbits.specs.Vectors.{Vector, resize, with_sign}
use Rattle.vvalue.specs.Value as spec
use Rattle.vvalue.proofs.Lengths.{extended_length, extended_mark}
use Rattle.vvalue.proofs.operators.extended_value.Goals as goal

pub returns-clause-len : goal.returns-clause-len
returns-clause-len c =
    let is : c.with_sign-2.result ≡ spec.extended_value c.args.value c.args.extension c.args.here =
    c.with_sign-2.ensures ∙ ap (λ (w : Vector). with_sign w c.args.here.signed) (c.resize.ensures ∙ ap (λ (w : Vector). resize w c.args.here.size) c.with_sign.ensures) in
    ap (λ (v : Vector). length v.letters) is ∙ extended_length c.args.value c.args.extension c.args.here

pub returns-clause-mark : goal.returns-clause-mark
returns-clause-mark c =
    let is : c.with_sign-2.result ≡ spec.extended_value c.args.value c.args.extension c.args.here =
    c.with_sign-2.ensures ∙ ap (λ (w : Vector). with_sign w c.args.here.signed) (c.resize.ensures ∙ ap (λ (w : Vector). resize w c.args.here.size) c.with_sign.ensures) in
    ap (λ (v : Vector). v.signed) is ∙ extended_mark c.args.value c.args.extension c.args.here
