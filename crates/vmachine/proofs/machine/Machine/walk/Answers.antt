use Rattle.std.proofs.Common.{◌≡◌, ◌≢◌, ℕ, ◌+◌, List, [], ◌++◌, length, Option, Some, None, Ok, Err, sym, ap, subst, ◌∙◌, append-nil, arith}
use Rattle.basis.specs.Reasons.{Because}
use Rattle.basis.specs.declared.memory.OrMemory.{OrMemory}
use Rattle.basis.specs.declared.memory.OrMemory.TheVariants.{Memory}
use Rattle.vmodel.specs.declared.history.Item.{Item}
use Rattle.vmodel.specs.InnerStep.{transition_to}
use Rattle.vmodel.specs.Step.{Transition, next, items_of}
use Rattle.vdesign.specs.Design.{Design}
use Rattle.vmodel.specs.Run.{Setting, rules_of, items_after, is_mark}
use Rattle.vmodel.specs.RunProgress.{Finishes}
use Rattle.vmachine.specs.declared.run.Chosen.{Chosen}
use Rattle.vmachine.specs.declared.run.RunFault.{RunFault}
use Rattle.sched_core.specs.Replay.{IsReplayReason}
use Rattle.vmachine.specs.Handed.{IsNoSuchRun, LeavesSink, TakesEach, by_slot}
use Rattle.vmachine.specs.Inner.{IsAt, IsChosen, HandsOn}
use Rattle.vcompile.specs.CodeOf.{code_of}
use Rattle.vflat.specs.Representations.{rest_in, representation_next, representation_to}
use Rattle.vmachine.specs.Machines.{Stands}
use Rattle.vmachine.specs.Runs.{Waits, state_of, waiting}
use Rattle.vmachine.specs.Waiting.{waiting_in}
use Rattle.vmachine.proofs.WaitingLemmas.{hands_there, waits_there, nothing_waits}
use Rattle.vbits.specs.Vectors.{Vector}
use Rattle.vmodel.specs.Parts.{with_parts}
use Rattle.vmodel.specs.State.{State}
use Rattle.vmodel.specs.Touched.{ChangesOnlySince}
use Rattle.vmodel.proofs.TouchedLemmas.{changes_more}
use Rattle.vflat.proofs.TouchedLemmas.{step_writes}
use Rattle.vmachine.proofs.StandLemmas.{as_many, next_read}
use Rattle.vmachine.proofs.GivenLemmas.{gave_more, taken_on}
use Rattle.vmachine.proofs.RunProgressLemmas.{at_next, items_next, underway, handed_first, left_by, sink_left, ended_at_mark, less_differs, fewer_left}
use Rattle.vmodel.specs.Choices.{choices}
use Rattle.vmachine.proofs.SlotLemmas.{handed_on, emptied, waits_more, items_wait}
use Rattle.vmachine.proofs.machine.Machine.walk.Goals as goal

pub returns-in_err-hand-clause-left : goal.returns-in_err-hand-clause-left
returns-in_err-hand-clause-left g c = λ first start.
    let setting = c.args.self.now in
    let log = c.walk.run.log.now in
    let here = c.walk.invariant.0.so in
    let now = state_of setting c.walk.run in
    let given = c.walk.invariant.2 first start in
    left_by g.S.HistorySink.takes g.S.HistorySink.fails setting c.args.run.now.log.now c.args.steps first c.hand.new.sink c.from_residual.result c.in_err-hand.field-0.0
    c.from_residual.ensures.1
    (subst (λ l. LeavesSink g.S.HistorySink.takes g.S.HistorySink.fails setting l c.args.steps first c.in_err-hand.field-0.0 c.hand.new.sink) c.walk.invariant.1
    (sink_left g.S.HistorySink.takes g.S.HistorySink.fails setting log c.args.steps first c.hand.new.sink _ c.in_err-hand.field-0.0
    (λ fault failed. (
      c.walk.run.n,
      underway setting log c.walk.run.rest.now c.args.steps c.walk.run.n now here,
      subst (λ (xs : List Item). g.S.HistorySink.fails first xs fault c.hand.new.sink) given.is
          (g.met.S.HistorySink.fails_later first c.walk.sink c.hand.new.sink given.handed (waiting c.walk.run) fault given.taken
          (subst (λ (r : State). g.S.HistorySink.fails c.walk.sink (waiting_in c.walk.run.pending r) fault c.hand.new.sink) c.rest.ensures failed)),
    ))
    c.in_err-hand.ensures.err))

pub returns-then-is_full-clause-ends : goal.returns-then-is_full-clause-ends
returns-then-is_full-clause-ends g c = λ first start.
    let now = state_of c.args.self.now c.walk.run in
    let given = c.walk.invariant.2 first start in
    let on : HandsOn g.S.HistorySink.takes (is_mark now) c.walk.sink (waiting c.walk.run) c.hand.new.sink (waiting_in c.hand.new.pending (rest_in c.walk.run.state)) =
    hands_there g.S.HistorySink.takes c.args.self.now c.walk.run.state now c.rest.result c.walk.sink c.hand.new.sink c.walk.run.pending c.hand.new.pending c.walk.invariant.0.stands c.rest.ensures c.in_ok-hand.ensures.ok in
    let after = taken_on g.S.HistorySink.takes g.met.S.HistorySink.joins (is_mark now) first c.walk.sink c.hand.new.sink given.handed (waiting c.walk.run)
    (waiting_in c.hand.new.pending (rest_in c.walk.run.state)) given.taken on in
    (record { handed = after.handed; taken = after.taken; is = after.is ∙ given.is }, nothing_waits c.hand.new.pending (rest_in c.walk.run.state) (c.none_waits.ensures.0 c.if-none_waits.true))

pub returns-in-Ok-None-clause-ends : goal.returns-in-Ok-None-clause-ends
returns-in-Ok-None-clause-ends g c = λ first start.
    let setting = c.args.self.now in
    let log = c.walk.run.log.now in
    let here = c.walk.invariant.0.so in
    let now = state_of setting c.walk.run in
    let given = c.walk.invariant.2 first start in
    let on : HandsOn g.S.HistorySink.takes (is_mark now) c.walk.sink (waiting c.walk.run) c.hand.new.sink (waiting_in c.hand.new.pending (rest_in c.walk.run.state)) =
    hands_there g.S.HistorySink.takes c.args.self.now c.walk.run.state now c.rest.result c.walk.sink c.hand.new.sink c.walk.run.pending c.hand.new.pending c.walk.invariant.0.stands c.rest.ensures c.in_ok-hand.ensures.ok in
    let after = taken_on g.S.HistorySink.takes g.met.S.HistorySink.joins (is_mark now) first c.walk.sink c.hand.new.sink given.handed (waiting c.walk.run)
    (waiting_in c.hand.new.pending (rest_in c.walk.run.state)) given.taken on in
    let chosen : IsChosen setting log c.args.steps c.walk.run.n now c.walk.run.rest.now (Ok None) =
    subst (IsChosen setting log c.args.steps c.walk.run.n now c.walk.run.rest.now) (c.in-Ok-None.is ∙ ap (λ (o : Option Chosen). Ok o) c.in-Ok-None.field-0-is) (c.choose.ensures setting log now here (as_many setting c.walk.run.state c.rest-in-walk.result now c.rest-in-walk.ensures c.walk.invariant.0.stands)) in
    let nothing : (waiting_in c.hand.new.pending (rest_in c.walk.run.state)) ≡ [] =
    emptied g.S.HistorySink.takes (is_mark now) c.walk.sink c.hand.new.sink (waiting c.walk.run) (waiting_in c.hand.new.pending (rest_in c.walk.run.state))
    (ended_at_mark setting log c.walk.run.rest.now c.args.steps c.walk.run.n now _ here chosen) on in
    let whole : after.handed ≡ items_after setting log c.walk.run.n =
    sym (append-nil after.handed) ∙ ap (λ (xs : List Item). after.handed ++ xs) (sym nothing) ∙ after.is ∙ given.is in (
      c.walk.run.n,
      subst (λ end. Finishes setting log c.args.steps c.walk.run.n end) (sym (c.last_of.ensures now c.walk.invariant.0.stands)) chosen,
      subst (λ (xs : List Item). g.S.HistorySink.takes first xs c.hand.new.sink) whole after.taken,
    )

pub returns-in-Ok-None-clause-slots : goal.returns-in-Ok-None-clause-slots
returns-in-Ok-None-clause-slots g c = λ first start.
    let setting = c.args.self.now in
    let log = c.walk.run.log.now in
    let here = c.walk.invariant.0.so in
    let now = state_of setting c.walk.run in
    let given = c.walk.invariant.3 first start in
    let on : HandsOn g.S.HistorySink.takes (is_mark now) c.walk.sink (waiting c.walk.run) c.hand.new.sink (waiting_in c.hand.new.pending (rest_in c.walk.run.state)) =
    hands_there g.S.HistorySink.takes c.args.self.now c.walk.run.state now c.rest.result c.walk.sink c.hand.new.sink c.walk.run.pending c.hand.new.pending c.walk.invariant.0.stands c.rest.ensures c.in_ok-hand.ensures.ok in
    let after =
    handed_on g.S.HistorySink.takes g.met.S.HistorySink.joins now first c.walk.sink c.hand.new.sink given.so.handed (waiting_in c.hand.new.pending (rest_in c.walk.run.state))
    given.so.taken given.each given.cut (waiting c.walk.run) given.waits on in
    let chosen : IsChosen setting log c.args.steps c.walk.run.n now c.walk.run.rest.now (Ok None) =
    subst (IsChosen setting log c.args.steps c.walk.run.n now c.walk.run.rest.now) (c.in-Ok-None.is ∙ ap (λ (o : Option Chosen). Ok o) c.in-Ok-None.field-0-is) (c.choose.ensures setting log now here (as_many setting c.walk.run.state c.rest-in-walk.result now c.rest-in-walk.ensures c.walk.invariant.0.stands)) in
    let nothing : (waiting_in c.hand.new.pending (rest_in c.walk.run.state)) ≡ [] =
    emptied g.S.HistorySink.takes (is_mark now) c.walk.sink c.hand.new.sink (waiting c.walk.run) (waiting_in c.hand.new.pending (rest_in c.walk.run.state))
    (ended_at_mark setting log c.walk.run.rest.now c.args.steps c.walk.run.n now _ here chosen) on in
    let whole : after.handed ≡ items_after setting log c.walk.run.n =
    sym (append-nil after.handed) ∙ ap (λ (xs : List Item). after.handed ++ xs) (sym nothing) ∙ after.is ∙ given.so.is in (
      c.walk.run.n,
      subst (λ end. Finishes setting log c.args.steps c.walk.run.n end) (sym (c.last_of.ensures now c.walk.invariant.0.stands)) chosen,
      subst (λ (xs : List Item). TakesEach g.S.HistorySink.takes first (by_slot xs) c.hand.new.sink) whole after.each,
    )

pub returns-in-Err-clause-left : goal.returns-in-Err-clause-left
returns-in-Err-clause-left g c = λ first start.
    let setting = c.args.self.now in
    let log = c.walk.run.log.now in
    let here = c.walk.invariant.0.so in
    let now = state_of setting c.walk.run in
    let given = c.walk.invariant.2 first start in
    let on : HandsOn g.S.HistorySink.takes (is_mark now) c.walk.sink (waiting c.walk.run) c.hand.new.sink (waiting_in c.hand.new.pending (rest_in c.walk.run.state)) =
    hands_there g.S.HistorySink.takes c.args.self.now c.walk.run.state now c.rest.result c.walk.sink c.hand.new.sink c.walk.run.pending c.hand.new.pending c.walk.invariant.0.stands c.rest.ensures c.in_ok-hand.ensures.ok in
    let after = taken_on g.S.HistorySink.takes g.met.S.HistorySink.joins (is_mark now) first c.walk.sink c.hand.new.sink given.handed (waiting c.walk.run)
    (waiting_in c.hand.new.pending (rest_in c.walk.run.state)) given.taken on in
    subst (λ l. LeavesSink g.S.HistorySink.takes g.S.HistorySink.fails setting l c.args.steps first c.replay_refusal.result c.hand.new.sink) c.walk.invariant.1
    (subst (λ (e : OrMemory (RunFault _)). LeavesSink g.S.HistorySink.takes g.S.HistorySink.fails setting log c.args.steps first e c.hand.new.sink) (sym c.replay_refusal.ensures)
    (handed_first g.S.HistorySink.takes setting log c.walk.run.rest.now c.args.steps c.walk.run.n now first c.hand.new.sink after.handed (waiting_in c.hand.new.pending (rest_in c.walk.run.state)) here after.taken (after.is ∙ given.is)))

pub returns-in_err-step_into-clause-left : goal.returns-in_err-step_into-clause-left
returns-in_err-step_into-clause-left g c = λ first start.
    let setting = c.args.self.now in
    let log = c.walk.run.log.now in
    let here = c.walk.invariant.0.so in
    let now = state_of setting c.walk.run in
    let given = c.walk.invariant.2 first start in
    let on : HandsOn g.S.HistorySink.takes (is_mark now) c.walk.sink (waiting c.walk.run) c.hand.new.sink (waiting_in c.hand.new.pending (rest_in c.walk.run.state)) =
    hands_there g.S.HistorySink.takes c.args.self.now c.walk.run.state now c.rest.result c.walk.sink c.hand.new.sink c.walk.run.pending c.hand.new.pending c.walk.invariant.0.stands c.rest.ensures c.in_ok-hand.ensures.ok in
    let after = taken_on g.S.HistorySink.takes g.met.S.HistorySink.joins (is_mark now) first c.walk.sink c.hand.new.sink given.handed (waiting c.walk.run)
    (waiting_in c.hand.new.pending (rest_in c.walk.run.state)) given.taken on in
    left_by g.S.HistorySink.takes g.S.HistorySink.fails setting c.args.run.now.log.now c.args.steps first c.hand.new.sink c.from_residual-in_err-step_into.result (Memory c.in_err-step_into.field-0.0)
    c.from_residual-in_err-step_into.ensures.1
    (subst (λ l. LeavesSink g.S.HistorySink.takes g.S.HistorySink.fails setting l c.args.steps first (Memory c.in_err-step_into.field-0.0) c.hand.new.sink) c.walk.invariant.1
    (handed_first g.S.HistorySink.takes setting log c.walk.run.rest.now c.args.steps c.walk.run.n now first c.hand.new.sink after.handed (waiting_in c.hand.new.pending (rest_in c.walk.run.state)) here after.taken (after.is ∙ given.is)))

pub returns-in_err-put_pending-clause-left : goal.returns-in_err-put_pending-clause-left
returns-in_err-put_pending-clause-left g c = λ first start.
    let setting = c.args.self.now in
    let log = c.walk.run.log.now in
    let here = c.walk.invariant.0.so in
    let now = state_of setting c.walk.run in
    let given = c.walk.invariant.2 first start in
    let on : HandsOn g.S.HistorySink.takes (is_mark now) c.walk.sink (waiting c.walk.run) c.hand.new.sink (waiting_in c.hand.new.pending (rest_in c.walk.run.state)) =
    hands_there g.S.HistorySink.takes c.args.self.now c.walk.run.state now c.rest.result c.walk.sink c.hand.new.sink c.walk.run.pending c.hand.new.pending c.walk.invariant.0.stands c.rest.ensures c.in_ok-hand.ensures.ok in
    let after = taken_on g.S.HistorySink.takes g.met.S.HistorySink.joins (is_mark now) first c.walk.sink c.hand.new.sink given.handed (waiting c.walk.run)
    (waiting_in c.hand.new.pending (rest_in c.walk.run.state)) given.taken on in
    left_by g.S.HistorySink.takes g.S.HistorySink.fails setting c.args.run.now.log.now c.args.steps first c.hand.new.sink c.from_residual-in_err-put_pending.result (Memory c.in_err-put_pending.field-0.0)
    c.from_residual-in_err-put_pending.ensures.1
    (subst (λ l. LeavesSink g.S.HistorySink.takes g.S.HistorySink.fails setting l c.args.steps first (Memory c.in_err-put_pending.field-0.0) c.hand.new.sink) c.walk.invariant.1
    (handed_first g.S.HistorySink.takes setting log c.walk.run.rest.now c.args.steps c.walk.run.n now first c.hand.new.sink after.handed (waiting_in c.hand.new.pending (rest_in c.walk.run.state)) here after.taken (after.is ∙ given.is)))

pub walk-preserved : goal.walk-preserved
walk-preserved g c =
    let setting = c.args.self.now in
    let log = c.walk.run.log.now in
    let here = c.walk.invariant.0.so in
    let now = state_of setting c.walk.run in
    let stands = c.walk.invariant.0.stands in
    let on : HandsOn g.S.HistorySink.takes (is_mark now) c.walk.sink (waiting c.walk.run) c.hand.new.sink (waiting_in c.hand.new.pending (rest_in c.walk.run.state)) =
    hands_there g.S.HistorySink.takes c.args.self.now c.walk.run.state now c.rest.result c.walk.sink c.hand.new.sink c.walk.run.pending c.hand.new.pending c.walk.invariant.0.stands c.rest.ensures c.in_ok-hand.ensures.ok in
    let chosen : IsChosen setting log c.args.steps c.walk.run.n now c.walk.run.rest.now (Ok (Some c.in-Ok-Some.chosen)) =
    subst (IsChosen setting log c.args.steps c.walk.run.n now c.walk.run.rest.now) (c.in-Ok-Some.is ∙ ap (λ (o : Option Chosen). Ok o) c.in-Ok-Some.field-0-is)
    (c.choose.ensures setting log now here (as_many setting c.walk.run.state c.rest-in-walk.result now c.rest-in-walk.ensures stands)) in
    let choice = c.in-Ok-Some.chosen.choice in
    let later = c.in-Ok-Some.chosen.later.now in
    let effect = c.step_into.new.effect in
    let monitors = c.deref.result.now in
    let design = ap (λ (s : Setting). s.design) c.self.view_is in
    let code = c.self.invariant.0 ∙ ap code_of design in
    let stepped : representation_next setting.design (code_of setting.design) c.walk.run.state choice ≡ representation_to c.step_into.new.self effect monitors =
    (λ i. representation_next (sym design i) (sym code i) c.walk.run.state choice) ∙ c.in_ok-step_into.ensures.ok
    ∙ ap (representation_to c.step_into.new.self effect) (sym c.deref.ensures.value) in
    let read = next_read setting c.walk.run.state c.step_into.new.self now choice effect monitors stands stepped in
    let transition : Transition = next setting.design now choice in
    let gave = items_next setting log c.walk.run.rest.now c.args.steps c.walk.run.n now here choice later chosen.2 transition (λ i. transition) in
    let at = at_next setting log c.walk.run.rest.now c.args.steps c.walk.run.n now here choice later chosen.2
    transition.state (less_differs c.walk.run.n c.args.steps chosen.0) chosen.1 chosen.3 (λ i. transition.state) in
    let goes_on : length (choices now) ≢ 0 = λ none. absurd (omega (arith, none, chosen.1)) in
    let after_rest : State = rest_in c.step_into.new.self in
    let more : waiting_in c.put_pending.new.pending after_rest ≡ waiting_in c.hand.new.pending (rest_in c.walk.run.state) ++ items_of setting.design transition =
    waits_there setting.design c.hand.new.pending c.put_pending.new.pending (rest_in c.walk.run.state) after_rest c.rest-in-walk-2.result effect monitors transition
    c.in_ok-hand.ensures.due c.rest-in-walk-2.ensures (subst (λ (d : Design). waiting_in c.put_pending.new.pending c.rest-in-walk-2.result
    ≡ c.hand.new.pending.items.items ++ items_of d (transition_to c.rest-in-walk-2.result effect monitors)) design
    c.in_ok-put_pending.ensures.waits) read.1 in
    let wrote : after_rest.values ≡ with_parts effect.wrote (rest_in c.walk.run.state).values =
    step_writes setting.design (code_of setting.design) c.walk.run.state c.step_into.new.self choice effect monitors stepped in (
      record {
        so = subst (IsAt setting log later c.args.steps (c.walk.run.n + 1)) at.at at;
        stands = subst (Stands setting c.step_into.new.self) at.at read.0;
        no_end = c.in_ok-put_pending.ensures.no_end c.in_ok-hand.ensures.no_end;
        due = λ due. ap is_mark (sym c.rest-in-walk-2.ensures) ∙ c.in_ok-put_pending.ensures.due due;
      },
      c.walk.invariant.1,
      λ first start.
          let given = c.walk.invariant.2 first start in
          let after = taken_on g.S.HistorySink.takes g.met.S.HistorySink.joins (is_mark now) first c.walk.sink c.hand.new.sink given.handed (waiting c.walk.run)
          (waiting_in c.hand.new.pending (rest_in c.walk.run.state)) given.taken on in
          record {
            handed = after.handed;
            taken = after.taken;
            is = gave_more setting log c.walk.run.n (items_of setting.design transition) gave after.handed (waiting_in c.hand.new.pending (rest_in c.walk.run.state))
                (waiting_in c.put_pending.new.pending after_rest) more (after.is ∙ given.is);
          },
      λ first start.
          let given = c.walk.invariant.3 first start in
          let after =
          handed_on g.S.HistorySink.takes g.met.S.HistorySink.joins now first c.walk.sink c.hand.new.sink given.so.handed (waiting_in c.hand.new.pending (rest_in c.walk.run.state))
          given.so.taken given.each given.cut (waiting c.walk.run) given.waits on in
          record {
            so = record {
              handed = after.handed;
              taken = after.taken;
              is = gave_more setting log c.walk.run.n (items_of setting.design transition) gave after.handed (waiting_in c.hand.new.pending (rest_in c.walk.run.state))
                  (waiting_in c.put_pending.new.pending after_rest) more (after.is ∙ given.so.is);
            };
            each = after.each;
            cut = after.cut goes_on;
            waits = subst (Waits (waiting_in c.put_pending.new.pending after_rest)) at.at
                (subst (λ (xs : List Item). Waits xs transition.state) (sym more)
                (waits_more (waiting_in c.hand.new.pending (rest_in c.walk.run.state)) (items_of setting.design transition) transition.state (after.no_end goes_on) (items_wait setting.design transition)));
          },
      subst (λ (values : List Vector). ChangesOnlySince c.touch_all.new.self (g.S.HistorySink.kept c.hand.new.sink) values) (sym wrote)
          (changes_more effect.wrote c.hand.new.touched c.touch_all.new.self (g.S.HistorySink.kept c.hand.new.sink) (rest_in c.walk.run.state).values c.touch_all.ensures
          (subst (λ (r : State). ChangesOnlySince c.hand.new.touched (g.S.HistorySink.kept c.hand.new.sink) r.values) c.rest.ensures c.in_ok-hand.ensures.since)),
    )

pub hand-requires-clause-since : goal.hand-requires-clause-since
hand-requires-clause-since g c =
    subst (λ (r : State). ChangesOnlySince c.walk.touched (g.S.HistorySink.kept c.walk.sink) r.values) (sym c.rest.ensures) c.walk.invariant.4

pub returns-in-Err-clause-reason : goal.returns-in-Err-clause-reason
returns-in-Err-clause-reason g c =
    let setting = c.args.self.now in
    let log = c.walk.run.log.now in
    let now = state_of setting c.walk.run in
    let chosen : IsChosen setting log c.args.steps c.walk.run.n now c.walk.run.rest.now (Err c.in-Err.fault) =
    subst (IsChosen setting log c.args.steps c.walk.run.n now c.walk.run.rest.now) c.in-Err.is
    (c.choose.ensures setting log now c.walk.invariant.0.so (as_many setting c.walk.run.state c.rest-in-walk.result now c.rest-in-walk.ensures c.walk.invariant.0.stands)) in
    let reason : IsReplayReason (rules_of setting) c.args.run.now.log.now c.args.steps c.in-Err.fault =
    subst (λ (l : List (ℕ × ℕ)). IsReplayReason (rules_of setting) l c.args.steps c.in-Err.fault) c.walk.invariant.1 chosen in
    subst (λ (e : OrMemory (RunFault _)). Because (IsNoSuchRun setting c.args.run.now.log.now c.args.steps) e) (sym c.replay_refusal.ensures) reason

pub overflow_add-run : goal.overflow_add-run
overflow_add-run g c =
    let setting = c.args.self.now in
    let log = c.walk.run.log.now in
    let now = state_of setting c.walk.run in
    let chosen : IsChosen setting log c.args.steps c.walk.run.n now c.walk.run.rest.now (Ok (Some c.in-Ok-Some.chosen)) =
    subst (IsChosen setting log c.args.steps c.walk.run.n now c.walk.run.rest.now) (c.in-Ok-Some.is ∙ ap (λ (o : Option Chosen). Ok o) c.in-Ok-Some.field-0-is)
    (c.choose.ensures setting log now c.walk.invariant.0.so (as_many setting c.walk.run.state c.rest-in-walk.result now c.rest-in-walk.ensures c.walk.invariant.0.stands)) in
    omega (arith, chosen.0, c.ranges.steps.fits)

pub walk-smaller : goal.walk-smaller
walk-smaller g c =
    let setting = c.args.self.now in
    let log = c.walk.run.log.now in
    let now = state_of setting c.walk.run in
    let chosen : IsChosen setting log c.args.steps c.walk.run.n now c.walk.run.rest.now (Ok (Some c.in-Ok-Some.chosen)) =
    subst (IsChosen setting log c.args.steps c.walk.run.n now c.walk.run.rest.now) (c.in-Ok-Some.is ∙ ap (λ (o : Option Chosen). Ok o) c.in-Ok-Some.field-0-is)
    (c.choose.ensures setting log now c.walk.invariant.0.so (as_many setting c.walk.run.state c.rest-in-walk.result now c.rest-in-walk.ensures c.walk.invariant.0.stands)) in
    fewer_left c.walk.run.n c.args.steps chosen.0
