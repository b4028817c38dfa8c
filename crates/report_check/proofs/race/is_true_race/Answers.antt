use Rattle.std.proofs.Common.{◌≡◌, true, false, refl, sym, ◌∙◌}
use Rattle.report_check.proofs.ClaimLemmas.{all_claims, claim_more}
use Rattle.report_check.proofs.race.is_true_race.Goals as goal

pub returns-then-not-branch : goal.returns-then-not-branch
returns-then-not-branch c = (
  λ h. absurd cc,
  λ are. absurd (let bad : true ≡ false = sym (c.in_ok-is_true_at.ensures.1 (are c.loop-place.place)) ∙ c.if-not-branch.true in cc),
)

pub loop-place-preserved : goal.loop-place-preserved
loop-place-preserved c =
    claim_more c.args.machine.now c.args.report.now c.args.race c.loop-place.place c.loop-place.invariant (c.in_ok-is_true_at.ensures.0 c.if-not-branch.false)

pub returns : goal.returns
returns c = (
  λ said. all_claims c.args.machine.now c.args.report.now c.args.race c.loop-place.place c.loop-place.invariant c.claim_count-place-end.result
      c.claim_count-place-end.ensures c.loop-place-test.false,
  λ are. refl,
)
