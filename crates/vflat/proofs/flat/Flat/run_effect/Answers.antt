use Rattle.std.proofs.Common.{sym, ap, ◌∙◌}
use Rattle.vvalue.specs.Value.{Environment}
use Rattle.vmodel.specs.Operands.{operand}
use Rattle.vmodel.specs.Step.{environment_of}
use Rattle.vflat.specs.Flat.{Flat, held_by}
use Rattle.vflat.specs.InnerFlat.{finish}
use Rattle.vflat.proofs.FlatLemmas.{ran_flat}
use Rattle.vflat.proofs.flat.Flat.run_effect.Goals as goal

pub returns-clause-ok : goal.returns-clause-ok
returns-clause-ok c =
    let course = c.in_ok-course.course in
    let effect = c.effect_at.new.effect in
    ran_flat c.args.design.now c.args.code.now c.args.process c.args.frame c.args.action.now c.held_by-held.result c.environment-environment.result course.then course.next.now effect
    c.turns_left-left.result c.args.self.now c.requires.at c.requires.there
    (c.held_by-held.ensures ∙ ap (λ held. held_by held c.args.process) c.deref.ensures.value ∙ ap (λ (f : Flat). held_by f.held c.args.process) c.self.view_is)
    (c.environment-environment.ensures ∙ ap (λ (f : Flat). environment_of c.args.design.now f.rest) c.self.view_is)
    c.in_ok-course.ensures c.turns_left-left.ensures
    ∙ ap (finish c.args.code.now effect) (sym c.in_ok-place.ensures.ok)
    ∙ sym c.finish.ensures

pub effect_at-requires : goal.effect_at-requires
effect_at-requires c = λ value has.
    c.requires.operand value has
    ∙ ap (λ (now : Environment). operand now c.args.action.now)
    (sym (c.environment-environment.ensures ∙ ap (λ (f : Flat). environment_of c.args.design.now f.rest) c.self.view_is))
