use Rattle.std.proofs.lemmas.Bool.Decides.{Decides-eqb}
use Rattle.std.proofs.lemmas.Slice.Eq.{strip_prefix_is}
use Rattle.byte_sinks.proofs.ExpectedLemmas.{is_stripped}
use Rattle.vcd_text.proofs.selected.behind.Goals as goal

pub returns : goal.returns
returns c =
    is_stripped c.args.path.now c.args.front.now c.strip_prefix.result
    (strip_prefix_is Decides-eqb c.args.path.now c.args.front.now c.strip_prefix.result c.strip_prefix.ensures.cases)
