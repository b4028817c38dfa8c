use Rattle.std.proofs.Common.{arith}
use Rattle.std.proofs.lemmas.Bool.Decides.{nat_tests}
use Rattle.sched_core.proofs.LogLemmas.{Fits-from_append, IsLogFrom-append}
use Rattle.sched_core.proofs.log.Log.takes.Goals as goal

pub returns-then-member-next_step : goal.returns-then-member-next_step
returns-then-member-next_step c = (λ t. absurd (grind arith), λ h. let f = Fits-from_append 0 c.args.self.now c.args.member h in absurd (omega (arith, f.rising, c.next_step.ensures.value)))

pub returns-then-member-gt-LAST_STEP : goal.returns-then-member-gt-LAST_STEP
returns-then-member-gt-LAST_STEP c = (λ t. absurd (grind arith), λ h. let f = Fits-from_append 0 c.args.self.now c.args.member h in absurd (omega (arith, f.step)))

pub returns : goal.returns
returns c = (
  λ t. IsLogFrom-append 0 c.args.self.now c.args.member c.next_step.ensures.lawful
      (record { rising = omega (arith, c.next_step.ensures.value); step = omega arith; low = grind (arith, nat_tests); high = omega arith }),
  λ h. let f = Fits-from_append 0 c.args.self.now c.args.member h in grind (arith, nat_tests, f.low),
)
