use Rattle.std.proofs.Common.{◌∙◌}
use Rattle.explore.proofs.WaysLemmas.{known_as, unknown_as}
use Rattle.explore.proofs.ways.onward_from.Goals as goal

pub returns-clause-known : goal.returns-clause-known
returns-clause-known g c = known_as (g.S.PartialEq.eq c.args.state.now) c.args.ways.now.entries c.copied.result (c.copied.ensures ∙ c.get.ensures.value)

pub returns-clause-unknown : goal.returns-clause-unknown
returns-clause-unknown g c = unknown_as (g.S.PartialEq.eq c.args.state.now) c.args.ways.now.entries c.copied.result (c.copied.ensures ∙ c.get.ensures.value)
