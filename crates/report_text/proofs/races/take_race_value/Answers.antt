use Rattle.std.proofs.Common.{◌++◌, ◌∷◌, ◌∙◌, sym, subst, refl}
use Rattle.basis.proofs.Bools.{and_both}
use Rattle.sched_core.specs.LogText.{log_text}
use Rattle.report_text.specs.WellFormed.{IsValue}
use Rattle.report_text.proofs.LogLemmas.{value_lacks, log_lacks, feed_outside}
use Rattle.report_text.proofs.RaceLemmas.{shown_spelled}
use Rattle.report_text.proofs.races.take_race_value.Goals as goal

pub returns-clause-each : goal.returns-clause-each
returns-clause-each c = λ shown rest ok h.
    let w = c.word-value.ensures.each shown.0 (log_text shown.1 ++ 10 ∷ rest) ok (value_lacks 32 c.args.width shown.0 refl h.0.0, h.1 ∙ shown_spelled shown rest) in
    let fine = c.is_value.ensures.1 (subst (IsValue c.args.width) (sym w.0) h.0.0) in
    let v = c.word-word.ensures.each (log_text shown.1) rest (c.require.ensures.ok ∙ and_both _ _ w.1.0 fine) (log_lacks 10 shown.1 feed_outside h.0.1, c.require.ensures.rest ∙ w.1.1) in
    let l = c.in_ok-log.ensures.each shown.1 v.1.0 h.0.1 v.0 in
    (λ i. ((c.in_ok-value.ensures ∙ w.0) i, l.0 i), (l.1, c.in_ok-log.ensures.rest ∙ v.1.1))
