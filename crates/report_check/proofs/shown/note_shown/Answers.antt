use Rattle.std.proofs.Common.{ℕ, List, All, sym, subst}
use Rattle.std.proofs.lemmas.List.Elements.{All-push}
use Rattle.report_check.specs.Claims.{IsTrueAt}
use Rattle.report_check.proofs.shown.note_shown.Goals as goal

pub returns : goal.returns
returns c =
    let is_true = IsTrueAt c.args.machine.now c.args.report.now in
    subst (λ (shown : List (ℕ × ℕ)). All is_true shown) (sym c.in_ok-push.ensures.items)
    (All-push is_true c.args.shown.now.items c.args.place c.requires.shown (c.in_ok-is_shown.ensures c.if-not-branch.false))
