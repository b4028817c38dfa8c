use Rattle.std.proofs.Common.{ℕ, ◌≤◌, length, IfOk, Decides, ap, subst, ◌∙◌, arith}
use Rattle.report_text.specs.Report.{Report}
use Rattle.report_check.specs.Claims.{Claim, IsClaimAt, IsSeenWithin}
use Rattle.report_check.proofs.ShownLemmas.{claim_when}
use Rattle.report_check.proofs.race.is_true_claim.Goals as goal

pub returns : goal.returns
returns c =
    let setting = c.args.machine.now in
    let claim = c.args.claim.now in
    let log_is = ap length (c.members.ensures.list ∙ ap (λ (k : Claim). k.log) c.claim.view_is) in
    let depart_is = ap (λ (r : Report). r.depart) c.report.view_is in
    let le = c.if-members-report.false in
    let short : length claim.log ≤ c.args.report.now.depart = omega (arith, le, log_is, depart_is) in
    claim_when setting c.args.report.now claim c.is_seen.result short
    (subst (λ (steps : ℕ). IfOk c.is_seen.result (λ is. Decides is (IsSeenWithin setting steps (IsClaimAt claim) claim.log)))
    (ap (λ (r : Report). r.steps) c.report.view_is) c.is_seen.ensures)
