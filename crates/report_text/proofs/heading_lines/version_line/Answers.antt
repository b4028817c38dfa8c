use Rattle.std.proofs.Common.{◌≢◌, arith}
use Rattle.report_text.specs.ReportText.{version_number}
use Rattle.report_text.proofs.HeadingLemmas.{version_front, is_one, is_two, is_three}
use Rattle.report_text.proofs.heading_lines.version_line.Goals as goal

pub returns-then-n-eq1-clause-each : goal.returns-then-n-eq1-clause-each
returns-then-n-eq1-clause-each c = λ v rest ok h.
    let w = c.number_line-n.ensures.each (version_number v) rest ok (version_front v _ rest h) in
    (is_one v c.number_line-n.result w.0 (omega arith), w.1)

pub returns-then-n-eq2-clause-each : goal.returns-then-n-eq2-clause-each
returns-then-n-eq2-clause-each c = λ v rest ok h.
    let w = c.number_line-n.ensures.each (version_number v) rest ok (version_front v _ rest h) in
    (is_two v c.number_line-n.result w.0 (omega arith), w.1)

pub returns-clause-each : goal.returns-clause-each
returns-clause-each c = λ v rest ok h.
    let w = c.number_line-n.ensures.each (version_number v) rest ok (version_front v _ rest h) in
    let first : c.number_line-n.result ≢ 1 = c.if-n-eq1.false in
    let second : c.number_line-n.result ≢ 2 = c.if-n-eq2.false in
    (is_three v c.number_line-n.result w.0 first second, w.1)
