use Rattle.std.proofs.Common.{◌<◌, ◌^◌, ◌++◌, ◌∷◌, ◌∙◌, ap, sym, subst, length}
use Rattle.std.specs.Prelude.{codes}
use Rattle.std.specs.Fmt.{decimal}
use Rattle.sched_core.specs.LogText.{log_text}
use Rattle.report_text.specs.ReportText.{counted_texts}
use Rattle.report_text.proofs.LogLemmas.{log_lacks, feed_outside}
use Rattle.report_text.proofs.LineRaceLemmas.{side_spelled}
use Rattle.report_text.proofs.line_races.take_side.Goals as goal

pub returns-clause-read : goal.returns-clause-read
returns-clause-read c = λ ok.
    let t = c.in_ok-lines.ensures.read ok in
    let l = c.in_ok-log.ensures.read t.0 in
    let w = c.word-word.ensures.read l.0 in
    let n = c.number-count.ensures.read w.0 in
    let p = c.prefix.ensures.read n.0 in
    let after = sym c.in_ok-log.ensures.rest ∙ t.1.2 in (
      p.0,
      (
        (t.1.0.1, (t.1.0.0, subst (λ k. k < 2 ^ 64) (sym t.1.1) n.1.0), l.1),
        p.1 ∙ ap (λ r. codes "lines " ++ r) (n.1.1 ∙ (λ i. decimal (sym t.1.1 i) ++ 32 ∷ ((w.1.1 ∙ (λ j. l.2 j ++ 10 ∷ after j)) i)))
            ∙ sym (side_spelled (c.in_ok-lines.lines, c.in_ok-log.log) c.take_lines.new.reader.rest),
      ),
    )

pub returns-clause-each : goal.returns-clause-each
returns-clause-each c = λ side rest ok h.
    let p = c.prefix.ensures.each _ ok (h.1 ∙ side_spelled side rest) in
    let n = c.number-count.ensures.each (length side.0) _ p.0 (h.0.1.1, p.1) in
    let w = c.word-word.ensures.each (log_text side.1) (counted_texts side.0 ++ rest) n.1.0 (log_lacks 10 side.1 feed_outside h.0.2, n.1.1) in
    let l = c.in_ok-log.ensures.each side.1 w.1.0 h.0.2 w.0 in
    let t = c.in_ok-lines.ensures.each side.0 rest l.1 ((h.0.1.0, h.0.0), sym n.0, c.in_ok-log.ensures.rest ∙ w.1.1) in
    (λ i. (t.0 i, l.0 i), t.1)
