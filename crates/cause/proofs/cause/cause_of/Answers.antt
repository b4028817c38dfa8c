use Rattle.std.proofs.Common.{ℕ, List, Option, sym, subst, ◌∙◌, IfOk, IfNone}
use Rattle.sched_core.specs.Logs.{IsLogFrom}
use Rattle.vmodel.specs.Run.{Setting}
use Rattle.cause.specs.Causes.{HasNoCause}
use Rattle.cause.specs.Checkpoints.{IsCheckpointOf}
use Rattle.cause.specs.declared.cause.Cause.{Cause}
use Rattle.cause.proofs.AgreeLemmas.{of_log}
use Rattle.cause.proofs.CheckpointLemmas.{log_before}
use Rattle.cause.proofs.cause.cause_of.Goals as goal

pub cause_from-requires-clause-start : goal.cause_from-requires-clause-start
cause_from-requires-clause-start c =
    let found = c.in_ok-start.start in
    let members = c.members-members.result.now in
    let lawful = log_before found.step c.first_step-first.result members c.in_ok-start.ensures.before
    (c.first_step-first.ensures.left (subst (IsLogFrom 0) (sym c.members-members.ensures.list) c.members-members.ensures.lawful)) in
    subst (λ (s : Setting). IsCheckpointOf s members found) (sym c.machine.ensures) (of_log c.extend.new.self members found lawful c.in_ok-start.ensures.is)

pub returns-clause-none : goal.returns-clause-none
returns-clause-none c =
    subst (λ (s : Setting). IfOk c.cause_from.result (λ (told : Option Cause). IfNone told (HasNoCause s c.args.log.now c.args.steps)))
    (c.machine.ensures ∙ c.extend.ensures)
    (subst (λ (l : List (ℕ × ℕ)). IfOk c.cause_from.result (λ (told : Option Cause). IfNone told (HasNoCause c.machine.result.now l c.args.steps)))
    c.members-members.ensures.list c.cause_from.ensures.none)
