use Rattle.std.proofs.Common.{◌∙◌, sym, ap}
use Rattle.vdesign.specs.declared.action.Target.{Target}
use Rattle.vmodel.specs.Value.{parts_of}
use Rattle.vmodel.proofs.PartLemmas.{whole_is}
use Rattle.vmodel.proofs.value.part_of.Goals as goal

pub returns-in-Whole : goal.returns-in-Whole
returns-in-Whole c =
    whole_is c.args.environment.now c.in-Whole.variable c.args.value c.with_sign.result c.value_at.result c.signed.result c.with_sign.ensures c.signed.ensures c.value_at.ensures
    ∙ sym (ap (λ (t : Target). parts_of c.args.environment.now t c.args.value.letters) c.in-Whole.is)
