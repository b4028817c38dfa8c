use Rattle.vexpr_parse.specs.Texts.{words_of}
use Rattle.action_origins.proofs.PastLemmas.{instances_past}
use Rattle.action_origins.proofs.units.put_item.Goals as goal

pub returns-in-Instances-clause-past : goal.returns-in-Instances-clause-past
returns-in-Instances-clause-past c =
    let words = words_of c.args.tokens.now in
    instances_past words c.args.left c.past_instances.result c.args.item.now c.in-Instances.module c.in-Instances.overrides c.in-Instances.instances c.deref-in-Instances.result.now
    c.saturating_sub-inner.result c.past_overrides.result c.in-Instances.is c.deref-in-Instances.ensures.value
    c.saturating_sub-inner.ensures (c.past_overrides.ensures words) (c.past_instances.ensures words)
