use Rattle.std.proofs.Common.{◌∷◌, [], length, ap, sym, ◌∙◌}
use Rattle.vbits.specs.Vectors.{Vector, with_sign}
use Rattle.vdesign.specs.declared.action.Target.TheVariants.{Whole}
use Rattle.vmodel.specs.declared.part.Part.TheVariants.{Whole as WholePart}
use Rattle.vmodel.proofs.PartLemmas.{given_alone}
use Rattle.vmodel.proofs.value.whole_part.Goals as goal

pub returns : goal.returns
unfolding with_sign
returns c =
    let old = c.value_at-old.ensures in
    let sized = c.len.ensures.letters ∙ ap (λ (v : Vector). length v.letters) old in
    let signed = c.signed.ensures ∙ ap (λ (v : Vector). v.signed) old in
    let value = c.with_sign.ensures ∙ ap (with_sign c.resize.result) signed in
    sym (given_alone c.args.environment.now (Whole c.args.variable) c.args.value c.len.result c.resize.result (WholePart c.args.variable c.with_sign.result ∷ [])
    sized c.len.ensures.few c.resize.ensures (ap (λ (v : Vector). WholePart c.args.variable v ∷ []) value))
