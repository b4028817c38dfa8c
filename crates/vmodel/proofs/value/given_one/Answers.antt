use Rattle.std.proofs.Common.{◌∙◌}
use Rattle.vmodel.proofs.PartLemmas.{given_alone}
use Rattle.vmodel.proofs.value.given_one.Goals as goal

pub returns : goal.returns
returns c =
    given_alone c.args.environment.now c.args.target.now c.args.value c.target_size.result c.resize-letters.result c.optional.result
    c.target_size.ensures.exact c.target_size.ensures.few c.resize-letters.ensures (c.optional.ensures ∙ c.part_of.ensures)
