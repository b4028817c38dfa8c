use Rattle.std.proofs.Common.{◌≡◌, ◌∙◌, ap, sym, subst}
use Rattle.report_text.specs.WellFormed.{IsPrintedLess}
use Rattle.report_text.proofs.EndLemmas.{same_line_shown}
use Rattle.report_text.proofs.ends.is_shown_less.Goals as goal

pub returns-then-is_same : goal.returns-then-is_same
returns-then-is_same c =
    let left = ap (λ x. x.printed) c.a.view_is in
    let right = ap (λ x. x.printed) c.b.view_is in
    let line : c.args.a.now.line ≡ c.args.b.now.line =
    ap (λ x. x.line) (sym c.a.view_is) ∙ sym c.deref.ensures.value ∙ c.is_same.ensures.0 c.if-is_same.true ∙ c.deref-2.ensures.value ∙ ap (λ x. x.line) c.b.view_is in
    let same = same_line_shown c.args.a.now c.args.b.now line in (
      λ yes. same.0 (subst (λ p. IsPrintedLess p c.args.b.now.printed) left (subst (λ p. IsPrintedLess c.a.inside.printed p) right (c.is_printed_less.ensures.0 yes))),
      λ h. c.is_printed_less.ensures.1 (subst (λ p. IsPrintedLess p c.b.inside.printed) (sym left) (subst (λ p. IsPrintedLess c.args.a.now.printed p) (sym right) (same.1 h))),
    )
