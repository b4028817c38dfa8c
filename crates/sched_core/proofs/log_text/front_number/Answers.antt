use Rattle.sched_core.proofs.TextLemmas.{no_number_front}
use Rattle.sched_core.proofs.log_text.front_number.Goals as goal

pub returns-in_err-value-clause-none : goal.returns-in_err-value-clause-none
returns-in_err-value-clause-none c =
    rw c.from_residual.ensures
    (no_number_front _ _ _ c.split_digits.ensures.whole c.split_digits.ensures.digits c.split_digits.ensures.stops c.in_err-value.ensures.none)
