use Rattle.std.proofs.Common.{◌≡◌, true, ◌&&◌, ◌++◌, ◌∙◌, ap, sym, subst}
use Rattle.basis.proofs.Bools.{and_left, and_right, and_both}
use Rattle.report_text.specs.Report.{End}
use Rattle.report_text.specs.ReportText.{printed_lines}
use Rattle.report_text.specs.WellFormed.{IsLineOf}
use Rattle.report_text.specs.Inner.Ends.{spelled_before}
use Rattle.report_text.proofs.LogLemmas.{spelling_of, end_spelled, is_spelling, ended_is}
use Rattle.report_text.proofs.ends.take_end.Goals as goal

pub returns-clause-read : goal.returns-clause-read
returns-clause-read c = λ ok.
    let l = c.in_ok-log.ensures.read ok in
    let d = c.bytes-dump.ensures.read l.0 in
    let p = c.in_ok-printed.ensures.read d.0 in
    let s : (c.end_words-words.new.reader.ok && c.is_line_of.result) ≡ true = sym c.require.ensures.ok ∙ p.0 in
    let w = c.end_words-words.ensures.read (and_left _ _ s) in
    let told = c.is_line_of.ensures.0 (and_right c.end_words-words.new.reader.ok c.is_line_of.result s) in
    let end : End = record { time = c.words.inside.time; cause = c.words.inside.cause; log = c.in_ok-log.log; bytes = c.words.inside.bytes; line = c.in_ok-line.line.items; printed = c.in_ok-printed.printed } in
    let words : c.end_words-words.result ≡ spelling_of end =
    sym c.words.view_is ∙ (λ i. record { time = c.words.inside.time; cause = c.words.inside.cause; log = l.2 i; bytes = c.words.inside.bytes; line = sym c.in_ok-line.ensures i }) in (
      w.0,
      ended_is c.args.looked c.args.columns.now end c.end_words-words.result c.args.reader.now.rest c.require.new.self.rest c.take_printed.new.reader.rest c.take_log.new.reader.rest c.bytes-dump.result.now
          words w.1.0 (w.1.1 ∙ ap (spelled_before c.end_words-words.result) (sym c.require.ensures.rest)) (subst (IsLineOf c.args.columns.now) (sym c.in_ok-line.ensures) told) l.1
          p.1 d.1.0 (d.1.1 ∙ ap (λ t. c.bytes-dump.result.now ++ t) (sym c.in_ok-log.ensures.rest)),
    )

pub returns-clause-each : goal.returns-clause-each
returns-clause-each c = λ ended rest ok h.
    let w = c.end_words-words.ensures.each (spelling_of ended.0) (printed_lines ended.0.printed ++ (ended.1 ++ rest)) ok (is_spelling c.args.looked c.args.columns.now ended h.0) (h.1 ∙ end_spelled ended rest) in
    let s = c.words.view_is ∙ w.0 in
    let told = c.is_line_of.ensures.1 (subst (IsLineOf c.args.columns.now) (ap (λ x. x.line) (sym s)) h.0.0.line) in
    let p = c.in_ok-printed.ensures.each ended.0.printed (ended.1 ++ rest) (c.require.ensures.ok ∙ and_both _ _ w.1.0 told) ((h.0.0.lines, h.0.3), c.require.ensures.rest ∙ w.1.1) in
    let d = c.bytes-dump.ensures.each ended.1 rest p.1.0 (ap (λ x. x.bytes) s ∙ h.0.1) p.1.1 in
    let l = c.in_ok-log.ensures.each ended.0.log d.1.0 h.0.0.log (ap (λ x. x.log) s) in (
      λ i. record { time = (s i).time; cause = (s i).cause; log = l.0 i; bytes = (s i).bytes; line = (c.in_ok-line.ensures ∙ ap (λ x. x.line) s) i; printed = p.0 i },
      d.0,
      (l.1, c.in_ok-log.ensures.rest ∙ d.1.1),
    )
