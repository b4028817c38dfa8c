use Rattle.std.proofs.Common.{IfOk, Decides, sym, subst}
use Rattle.report_check.specs.declared.claim.Seen.{Seen}
use Rattle.report_check.specs.Claims.{IsSightAt, TellsState, sight_of}
use Rattle.report_check.proofs.claim.is_seen_here.Goals as goal

pub returns-in-Value : goal.returns-in-Value
returns-in-Value c =
    subst (λ (s : Seen). IfOk c.has_value.result (TellsState c.args.machine.now c.args.machine_state.now (IsSightAt (sight_of s))))
    (sym c.in-Value.is) c.has_value.ensures

pub returns-in-Lines : goal.returns-in-Lines
returns-in-Lines c = λ t at.
    subst (λ (s : Seen). Decides c.is_printed.result (IsSightAt (sight_of s) t)) (sym c.in-Lines.is) (c.is_printed.ensures t at)
