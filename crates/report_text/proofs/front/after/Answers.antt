use Rattle.std.proofs.lemmas.Bool.Decides.{Decides-eqb}
use Rattle.std.proofs.lemmas.Slice.Eq.{strip_prefix_is}
use Rattle.basis.proofs.Options.{match_some}
use Rattle.report_text.proofs.FrontLemmas.{after_same, match_each}
use Rattle.report_text.proofs.front.after.Goals as goal

pub returns-clause-read : goal.returns-clause-read
returns-clause-read c = match_some _ _ c.strip_prefix.result (strip_prefix_is Decides-eqb c.args.text.now c.args.prefix.now c.strip_prefix.result c.strip_prefix.ensures.cases)

pub returns-clause-each : goal.returns-clause-each
returns-clause-each c = λ rest e.
    match_each _ _ _ c.strip_prefix.result (λ none. none rest e) (λ x h. after_same _ _ x.now rest h e)
    (strip_prefix_is Decides-eqb c.args.text.now c.args.prefix.now c.strip_prefix.result c.strip_prefix.ensures.cases)
