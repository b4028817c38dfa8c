use Rattle.std.proofs.Common.{ℕ, List, ap, sym, subst, ◌∙◌}
use Rattle.report_check.specs.Claims.{Claim, ComesTo}
use Rattle.report_check.proofs.ShownLemmas.{shown_when}
use Rattle.report_check.proofs.shown.is_shown.Goals as goal

pub returns : goal.returns
returns c =
    let setting = c.args.machine.now in
    let report = c.args.report.now in
    let claim = c.in-Some.claim in
    let log_is = sym (c.are_equal.ensures c.if-not-are_equal.false) ∙ ap (λ (k : Claim). k.log) c.claim.view_is in
    shown_when setting report c.args.place claim (sym c.claim_at.ensures ∙ c.in-Some.is) c.args.machine_state.now
    (subst (λ (log : List (ℕ × ℕ)). ComesTo setting report log c.args.machine_state.now) log_is c.requires.here) c.shows.result c.shows.ensures
