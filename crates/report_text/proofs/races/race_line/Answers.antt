use Rattle.std.proofs.Common.{◌≤◌, ◌++◌, ◌∷◌, ◌∙◌, sym, refl, arith}
use Rattle.std.specs.Fmt.{decimal}
use Rattle.std.proofs.lemmas.Bool.Decides.{nat_tests}
use Rattle.basis.proofs.Bools.{and_both}
use Rattle.report_text.proofs.ColumnLemmas.{path_lacks}
use Rattle.report_text.proofs.races.race_line.Goals as goal

pub returns-in-Some-clause-each : goal.returns-in-Some-clause-each
returns-in-Some-clause-each c = λ time variable count column rest ok h.
    let p = c.prefix.ensures.each _ ok h.whole in
    let t = c.number-time.ensures.each time _ p.0 (h.small, p.1) in
    let n = c.word-name.ensures.each column.name (decimal count ++ 10 ∷ rest) t.1.0 (path_lacks 32 column.name refl (c.requires.columns.0 variable column h.listed).0, t.1.1) in
    let k = c.number-count.ensures.each count rest n.1.0 (h.few, n.1.1) in
    let f = c.in-Some.ensures.each variable column h.listed (sym n.0) in
    let two : 2 ≤ c.number-count.result = omega (arith, h.two, k.0) in
    (t.0, f.0, f.1, k.0, (c.require.ensures.ok ∙ and_both _ _ k.1.0 (grind (arith, nat_tests, two)), c.require.ensures.rest ∙ k.1.1))

pub returns-in-None-clause-each : goal.returns-in-None-clause-each
returns-in-None-clause-each c = λ time variable count column rest ok h.
    let p = c.prefix.ensures.each _ ok h.whole in
    let t = c.number-time.ensures.each time _ p.0 (h.small, p.1) in
    let n = c.word-name.ensures.each column.name (decimal count ++ 10 ∷ rest) t.1.0 (path_lacks 32 column.name refl (c.requires.columns.0 variable column h.listed).0, t.1.1) in
    absurd (c.in-None.ensures.each variable column h.listed (sym n.0))
