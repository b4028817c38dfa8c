use Rattle.std.proofs.Common.{◌≤◌, ◌∙◌, arith}
use Rattle.std.proofs.lemmas.Bool.Decides.{nat_tests}
use Rattle.basis.proofs.Bools.{and_both}
use Rattle.report_text.proofs.line_races.line_race_line.Goals as goal

pub returns-clause-each : goal.returns-clause-each
returns-clause-each c = λ line rest ok h.
    let p = c.prefix.ensures.each _ ok h.whole in
    let t = c.number-time.ensures.each line.0 _ p.0 (h.small, p.1) in
    let k = c.number-count.ensures.each line.1 rest t.1.0 (h.few, t.1.1) in
    let two : 2 ≤ c.number-count.result = omega (arith, h.two, k.0) in
    (λ i. (t.0 i, k.0 i), (c.require.ensures.ok ∙ and_both _ _ k.1.0 (grind (arith, nat_tests, two)), c.require.ensures.rest ∙ k.1.1))
