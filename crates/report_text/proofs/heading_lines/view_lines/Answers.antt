use Rattle.std.proofs.Common.{sym, subst}
use Rattle.report_text.specs.Inner.Headings.{AreViewsIn, views_before}
use Rattle.report_text.specs.Inner.Places.{TakesSpelled}
use Rattle.report_text.proofs.heading_lines.view_lines.Goals as goal

pub returns-in-Three-clause-each : goal.returns-in-Three-clause-each
returns-in-Three-clause-each c =
    subst (λ v. TakesSpelled c.args.reader.now c.named_views.new.reader (AreViewsIn v) (views_before v) c.named_views.result) (sym c.in-Three.is) c.named_views.ensures.each
