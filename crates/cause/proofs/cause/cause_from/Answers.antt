use Rattle.std.proofs.Common.{Option, Some, None, IfNone, arith}
use Rattle.std.proofs.lemmas.Result.{IfOk-weaker}
use Rattle.cause.specs.Causes.{HasNoCause}
use Rattle.footprints.specs.Swaps.{HasNoSwap}
use Rattle.cause.specs.declared.cause.Cause.{Cause}
use Rattle.cause.proofs.AgreeLemmas.{of_parent}
use Rattle.cause.proofs.ParentLemmas.{caused}
use Rattle.cause.proofs.SlotLemmas.{none_there, parent_is_log, where_some}
use Rattle.cause.proofs.cause.cause_from.Goals as goal

pub visits_of_slot-requires-2-clause-lawful : goal.visits_of_slot-requires-2-clause-lawful
visits_of_slot-requires-2-clause-lawful c =
    parent_is_log c.args.members.now c.parent_of-parent_log.result.now c.parent_of-parent_log.ensures c.requires.lawful

pub visits_of_slot-requires-2-clause-start : goal.visits_of_slot-requires-2-clause-start
visits_of_slot-requires-2-clause-start c =
    of_parent c.args.machine.now c.args.members.now c.parent_of-parent_log.result.now c.args.step c.in_ok-parent_start.parent_start c.requires.named
    c.parent_of-parent_log.ensures (omega (arith, c.requires.before, c.in_ok-parent_start.ensures.step))
    (c.in_ok-parent_start.ensures.is c.args.machine.now c.args.members.now c.requires.start)

pub returns-clause-cause : goal.returns-clause-cause
returns-clause-cause c =
    let setting = c.args.machine.now in
    caused setting c.args.members.now c.parent_of-parent_log.result.now c.args.step c.design.result.now c.in-Some.run' c.in-Some-2.parent c.cause_in.result
    c.requires.named c.parent_of-parent_log.ensures c.design.ensures
    (where_some _ c.in-Some.is c.in_ok-run.ensures.earlier, where_some _ c.in-Some.is c.in_ok-run.ensures.visits)
    (where_some _ c.in-Some-2.is c.in_ok-parent.ensures.earlier, where_some _ c.in-Some-2.is c.in_ok-parent.ensures.visits) c.cause_in.ensures.some

none_then : (P Q : Type 0) (told : Option Cause) → (P → Q) → IfNone told P → IfNone told Q
none_then P Q None f p = f p
none_then P Q (Some cause) f p = tt

pub returns-clause-none : goal.returns-clause-none
returns-clause-none c =
    let setting = c.args.machine.now in
    let ours = c.in-Some.run'.visits.items in
    let theirs = c.in-Some-2.parent.visits.items in
    IfOk-weaker c.cause_in.result (λ told. IfNone told (HasNoSwap ours theirs)) (λ told. IfNone told (HasNoCause setting c.args.members.now c.args.steps))
    (λ told. none_then (HasNoSwap ours theirs) (HasNoCause setting c.args.members.now c.args.steps) told
    (none_there setting c.args.members.now c.parent_of-parent_log.result.now c.args.step c.args.steps ours theirs c.requires.named c.parent_of-parent_log.ensures
    (where_some _ c.in-Some.is c.in_ok-run.ensures.visits) (where_some _ c.in-Some-2.is c.in_ok-parent.ensures.visits))) c.cause_in.ensures.none
