use Rattle.std.proofs.Common.{◌++◌, ◌∙◌, ap, sym, drop}
use Rattle.std.specs.Fmt.{decimal}
use Rattle.sched_core.proofs.TextLemmas.{after_step}
use Rattle.sched_core.proofs.log_text.front_member.Goals as goal

pub returns-in_err-after_colon-clause-none : goal.returns-in_err-after_colon-clause-none
returns-in_err-after_colon-clause-none c = rw c.from_residual-in_err-after_colon.ensures (λ m rest small small' stop e.
    c.in_err-after_colon.ensures.none (decimal m.1 ++ rest)
    (after_step _ _ _ m rest small c.in_ok-step.ensures.read e))

pub returns-in_err-index-clause-none : goal.returns-in_err-index-clause-none
returns-in_err-index-clause-none c = rw c.from_residual-in_err-index.ensures (λ m rest small small' stop e.
    c.in_err-index.ensures.none m.1 rest small' stop
    (ap (drop 1) (sym c.in_ok-after_colon.ensures.some ∙ after_step _ _ _ m rest small c.in_ok-step.ensures.read e)))
