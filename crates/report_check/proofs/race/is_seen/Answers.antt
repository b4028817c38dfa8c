use Rattle.std.proofs.Common.{◌≡◌, ◌≤◌, ◌<◌, refl, ap, sym, ◌∙◌, arith, subst, List, ℕ, false, true}
use Rattle.sched_core.specs.Logs.{IsLogFrom}
use Rattle.sched_core.proofs.RunLemmas.{IsLeft, left_whole, left_next}
use Rattle.report_check.specs.Claims.{Claim, IsClaimAt}
use Rattle.report_check.proofs.WalkLemmas.{seen_by_now, has_come, never_within, never_on, stuck, runs_on, stands_on}
use Rattle.report_check.proofs.race.is_seen.Goals as goal

pub walk-init : goal.walk-init
walk-init c =
    let law = c.machine_law.ensures in
    let setting = c.args.machine.now in
    let claim = c.args.claim.now in
    let log_is = ap (λ (k : Claim). k.log) c.claim.view_is in
    let lawful : IsLogFrom 0 claim.log = subst (IsLogFrom 0) log_is c.members-rest.ensures.lawful in
    record {
      within = omega arith;
      left = subst (λ (rest : List (ℕ × ℕ)). IsLeft claim.log rest 0) (sym (c.members-rest.ensures.list ∙ log_is)) (left_whole claim.log lawful);
      run = λ k lt. absurd (omega (arith, lt));
      at = law.same setting _ _ _ (law.stands setting claim.log 0) c.in_ok-state.ensures;
      before = (λ h. absurd (let bad : false ≡ true = h in cc), λ b. absurd (let lt = b.earlier in omega (arith, lt)));
    }

pub returns-then-has_all : goal.returns-then-has_all
returns-then-has_all c =
    let setting = c.args.machine.now in
    let steps = c.args.steps in
    let claim = c.args.claim.now in
    let here = c.walk.invariant in
    let by_now = seen_by_now setting steps (IsClaimAt claim) claim.log c.walk.rest.now c.walk.n c.walk.found c.in_ok-found.found c.walk.state here.at here.before c.in_ok-found.ensures in
    let all = c.has_all.ensures.0 c.if-has_all.true in (
      λ h. has_come setting steps (IsClaimAt claim) claim.log c.walk.rest.now c.walk.n here.left c.in_ok-found.found by_now here.run here.within all.0 all.1,
      λ w. refl,
    )

pub returns-then-n-steps : goal.returns-then-n-steps
returns-then-n-steps c =
    let setting = c.args.machine.now in
    let steps = c.args.steps in
    let claim = c.args.claim.now in
    let here = c.walk.invariant in
    let by_now = seen_by_now setting steps (IsClaimAt claim) claim.log c.walk.rest.now c.walk.n c.walk.found c.in_ok-found.found c.walk.state here.at here.before c.in_ok-found.ensures in (
      λ h. absurd cc,
      λ w. absurd (never_within setting steps (IsClaimAt claim) claim.log c.walk.rest.now c.walk.n here.left c.in_ok-found.found by_now
          (λ all. (let e = c.has_all.ensures.1 all in let f = c.if-has_all.false in cc)) c.if-n-steps.true w),
    )

pub returns-then-choice-width : goal.returns-then-choice-width
returns-then-choice-width c =
    let law = c.machine_law.ensures in
    let setting = c.args.machine.now in
    let steps = c.args.steps in
    let claim = c.args.claim.now in
    let here = c.walk.invariant in
    let choice = c.next_choice-choice.result.0 in
    let by_now = seen_by_now setting steps (IsClaimAt claim) claim.log c.walk.rest.now c.walk.n c.walk.found c.in_ok-found.found c.walk.state here.at here.before c.in_ok-found.ensures in (
      λ h. absurd cc,
      λ w. absurd (never_on setting steps (IsClaimAt claim) claim.log c.walk.rest.now c.walk.n here.left c.in_ok-found.found by_now
          (λ all. (let e = c.has_all.ensures.1 all in let f = c.if-has_all.false in cc))
          (stuck setting claim.log c.walk.rest.now c.next_choice-choice.result.1.now c.walk.n choice here.left c.next_choice-choice.ensures.next (law.width setting) c.walk.state here.at
          (subst (λ (width : ℕ). width ≤ choice) c.width.ensures c.if-choice-width.true)) w),
    )

pub walk-preserved : goal.walk-preserved
walk-preserved c =
    let law = c.machine_law.ensures in
    let setting = c.args.machine.now in
    let claim = c.args.claim.now in
    let here = c.walk.invariant in
    let choice = c.next_choice-choice.result.0 in
    let later = c.next_choice-choice.result.1.now in
    let next = c.next_choice-choice.ensures.next in
    record {
      within = (let within = here.within in let more = c.if-n-steps.false in omega (arith, within, more));
      left = left_next claim.log c.walk.rest.now later c.walk.n choice here.left next c.next_choice-choice.ensures.lawful;
      run = runs_on setting claim.log c.walk.rest.now later c.walk.n choice here.left next (law.width setting) c.walk.state here.at here.run
          (subst (λ (width : ℕ). choice < width) c.width.ensures c.if-choice-width.false);
      at = stands_on setting claim.log c.walk.rest.now later c.walk.n choice here.left next (law.width setting) c.walk.state here.at (law.same setting) (law.after setting)
          c.step.new.s c.in_ok-step.ensures.ok;
      before = seen_by_now setting c.args.steps (IsClaimAt claim) claim.log c.walk.rest.now c.walk.n c.walk.found c.in_ok-found.found c.walk.state here.at here.before c.in_ok-found.ensures;
    }
