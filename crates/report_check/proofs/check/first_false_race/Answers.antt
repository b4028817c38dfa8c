use Rattle.std.proofs.Common.{◌<◌, ◌≤◌, ℕ, List, All, sym, subst}
use Rattle.report_check.specs.Claims.{IsTrueAt}
use Rattle.report_check.proofs.FirstLemmas.{all_races, false_race, race_more}
use Rattle.report_check.proofs.check.first_false_race.Goals as goal

pub is_true_race-requires : goal.is_true_race-requires
is_true_race-requires c =
    subst (λ (shown : List (ℕ × ℕ)). All (IsTrueAt c.args.machine.now c.args.report.now) shown) (sym c.deref.ensures.value) c.in_ok-shown.ensures

pub returns-then-not-branch : goal.returns-then-not-branch
returns-then-not-branch c =
    let report = c.args.report.now in
    false_race c.args.machine.now report c.loop-place.place c.loop-place.invariant c.in_ok-is_true_race.field-0 c.in_ok-is_true_race.ensures
    (subst (λ (n : ℕ). c.loop-place.place < n) c.race_count-place-end.ensures c.loop-place-test.true) c.if-not-branch.true

pub loop-place-preserved : goal.loop-place-preserved
loop-place-preserved c =
    race_more c.args.machine.now c.args.report.now c.loop-place.place c.loop-place.invariant c.in_ok-is_true_race.field-0 c.in_ok-is_true_race.ensures c.if-not-branch.false

pub returns : goal.returns
returns c =
    let report = c.args.report.now in
    all_races c.args.machine.now report c.loop-place.place c.loop-place.invariant
    (subst (λ (n : ℕ). n ≤ c.loop-place.place) c.race_count-place-end.ensures c.loop-place-test.false)
