-- *internal*: Two causes of an end are equal where they are the same one.
use Rattle.std.specs.Prelude.{ℕ, Bool, nat_eq, refl}
use Rattle.std.specs.Cmp.{IsEquivalence, decided}
use Rattle.sched_core.specs.Tests.{Tells}
use Rattle.sched_core.specs.declared.end.Cause.{Cause}
use Rattle.sched_core.specs.declared.end.Cause.TheVariants.{Finish, Stop, Quiet, Limit}

abbrev pub cause_rank : Cause → ℕ
cause_rank Finish = 0
cause_rank Stop = 1
cause_rank Quiet = 2
cause_rank Limit = 3

abbrev pub cause_same : Cause → Cause → Bool
cause_same c d = nat_eq (cause_rank c) (cause_rank d)

pub causes_tell : Tells cause_same
causes_tell Finish Finish = (λ h. refl, λ h. refl)
causes_tell Stop Stop = (λ h. refl, λ h. refl)
causes_tell Quiet Quiet = (λ h. refl, λ h. refl)
causes_tell Limit Limit = (λ h. refl, λ h. refl)
causes_tell _ _ = (λ h. cc, λ h. cc)

pub causes_equivalent : IsEquivalence cause_same
causes_equivalent = decided cause_same causes_tell
