use Rattle.std.proofs.Common.{◌∙◌, refl, ap}
use Rattle.basis.proofs.Bools.{and_both}
use Rattle.vwords.specs.Names.{has_letters_of_name}
use Rattle.report_text.proofs.HeadingLemmas.{name_lacks}
use Rattle.report_text.proofs.heading_lines.top_line.Goals as goal

pub returns-clause-each : goal.returns-clause-each
returns-clause-each c = λ top rest ok name h.
    let w = c.label_line-top.ensures.each top rest ok (name_lacks 10 top refl name, h) in
    (w.0, (c.require.ensures.ok ∙ and_both _ _ w.1.0 (c.is_name.ensures ∙ ap has_letters_of_name w.0 ∙ name), c.require.ensures.rest ∙ w.1.1))
