use Rattle.std.proofs.Common.{◌≤◌, ◌++◌, ◌∷◌, ◌∙◌, refl, ap, arith}
use Rattle.std.specs.Fmt.{decimal}
use Rattle.basis.proofs.Bools.{and_both}
use Rattle.vwords.specs.Names.{is_path}
use Rattle.report_text.proofs.ColumnLemmas.{path_lacks, column_spelled}
use Rattle.report_text.proofs.columns.column_line.Goals as goal

pub returns-clause-each : goal.returns-clause-each
returns-clause-each c = λ column rest ok h.
    let w = c.word-name.ensures.each column.name (decimal column.width ++ 10 ∷ rest) ok (path_lacks 32 column.name refl h.0.0, h.1 ∙ column_spelled column rest) in
    let n = c.number-width.ensures.each column.width rest w.1.0 (omega (arith, h.0.2), w.1.1) in
    let low : 1 ≤ c.number-width.result = omega (arith, h.0.1, n.0) in
    let high : c.number-width.result ≤ 64 = omega (arith, h.0.2, n.0) in
    let wide = c.narrow.ensures high ∙ n.0 in (
      λ i. record { name = w.0 i; width = wide i },
      (
        c.require-2.ensures.ok ∙ and_both _ _ (c.require.ensures.ok ∙ and_both _ _ n.1.0 (c.is_path.ensures ∙ ap is_path w.0 ∙ h.0.0)) (c.is_width.ensures.1 (low, high)),
        c.require-2.ensures.rest ∙ c.require.ensures.rest ∙ n.1.1,
      ),
    )
