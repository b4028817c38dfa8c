use Rattle.std.proofs.Common.{◌≡◌, Some, IfOk, ap, sym, ◌∙◌, subst}
use Rattle.report_check.specs.Claims.{Claim, IsSightAt, Sight, TellsState}
use Rattle.report_check.proofs.ClaimLemmas.{claim_shown}
use Rattle.report_check.proofs.claim.shows.Goals as goal

pub returns : goal.returns
returns c =
    let setting = c.args.machine.now in
    let s = c.args.machine_state.now in
    let claim = c.args.claim.now in
    let is_time : c.in-Some.time ≡ claim.time = c.if-time-claim.false ∙ ap (λ (k : Claim). k.time) c.claim.view_is in
    claim_shown setting s claim c.is_seen_here.result (λ t at. sym (c.slot_of.ensures.stands t at) ∙ c.in-Some.is ∙ ap Some is_time)
    (subst (λ (sight : Sight). IfOk c.is_seen_here.result (TellsState setting s (IsSightAt sight))) (ap (λ (k : Claim). k.sight) c.claim.view_is) c.is_seen_here.ensures)
