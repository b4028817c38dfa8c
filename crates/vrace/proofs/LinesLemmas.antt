-- What is taken when a run that ends is handed to a fresh sink of lines.
use Rattle.std.proofs.Common.{◌≡◌, ℕ, List, [], ◌++◌, Option, take, drop, refl, sym, ap, subst, ◌∙◌}
use Rattle.std.proofs.lemmas.List.{take-append-drop}
use Rattle.sched_core.specs.Replay.{IsReplayReason}
use Rattle.sched_core.specs.declared.run.ReplayFault.{ReplayFault}
use Rattle.sched_core.specs.declared.run.ReplayFault.TheVariants as replay
use Rattle.vdesign.specs.Design.{Design}
use Rattle.vmodel.specs.declared.history.Item.{Item}
use Rattle.sched_core.specs.declared.end.End.{End}
use Rattle.vmodel.specs.Run.{Setting, rules_of, items_after}
use Rattle.vmodel.specs.RunProgress.{Finishes, IsOnItsWay}
use Rattle.vmachine.specs.Handed.{IsHanded, LeavesSink}
use Rattle.vmachine.specs.declared.run.RunFault.{RunFault}
use Rattle.vmachine.specs.declared.run.RunFault.TheVariants.{Sink}
use Rattle.basis.specs.declared.memory.NoMemory.{NoMemory}
use Rattle.basis.specs.declared.memory.OrMemory.{OrMemory}
use Rattle.basis.specs.declared.memory.OrMemory.TheVariants as or
use Rattle.byte_sinks.specs.Held.{Appended}
use Rattle.byte_sinks.specs.ByteSinks.{IsByteSink, Stopped}
use Rattle.byte_sinks.specs.Metered.{Written, Broken}
use Rattle.byte_sinks.specs.MeteredLaws.{stops_of}
use Rattle.byte_sinks.specs.declared.metered.Metered.{Metered}
use Rattle.byte_sinks.specs.declared.fault.WriteFault.{WriteFault}
use Rattle.lines_text.specs.LinesText.{lines, lines_from}
use Rattle.lines_text.specs.declared.in_force.InForce.{InForce}
use Rattle.lines_text.specs.declared.in_force.InForce.TheVariants.{Nobody}
use Rattle.lines_text.specs.Sinks.{text_of, Takes, Fails}
use Rattle.lines_text.specs.SinkLaws.{fails_after, fails_before}
use Rattle.lines_text.specs.declared.sink.LinesSink.{LinesSink}
use Rattle.vreport.specs.RunLaws.{not_behind, never_missing, never_more, given_front}
use Rattle.vrace.specs.RunLines.{HasEnd, IsRunLines, StopsLines, TakesLines}
use Rattle.vrace.specs.RunDumps.{StopsText, fault_of}
use Rattle.vrace.specs.declared.fault.Fault.{Fault}

-- the lines of a run that ends
pub the_lines : (setting : Setting) (log : List (ℕ × ℕ)) (limit n : ℕ) (end : End) → Finishes setting log limit n end →
    IsRunLines setting log limit (lines setting.design (items_after setting log n))
the_lines setting log limit n end finishes = record { steps = n; end = end; finishes = finishes; is_text = refl }

-- a run that ends isn't refused
pub never_by_replay : (setting : Setting) (log : List (ℕ × ℕ)) (limit : ℕ) (why : ReplayFault) → HasEnd setting log limit →
    IsReplayReason (rules_of setting) log limit why → ⊥
never_by_replay setting log limit replay.NoSuchChoice (n, end, finishes) missing = never_missing (rules_of setting) log limit n finishes.ends missing
never_by_replay setting log limit replay.TooManySteps (n, end, finishes) more = never_more (rules_of setting) log limit n finishes.ends finishes.within more

module _ {O F : Type 0} (takes : O → List ℕ → O → Type 0) (fails : O → List ℕ → F → O → Type 0) (laws : IsByteSink takes fails)
    (setting : Setting) (log : List (ℕ × ℕ)) (limit : ℕ) (s : LinesSink O) (fresh : s.in_force ≡ Nobody) (same : s.design.now ≡ setting.design) where
  -- what items add to nothing are their lines
  text_is : (items : List Item) → text_of s items ≡ lines setting.design items
  text_is items =
      ap (λ (design : Design). lines_from design s.in_force items) same
      ∙ ap (λ (in_force : InForce). lines_from setting.design in_force items) fresh

  -- all of it was taken
  pub takes_whole : (t : LinesSink O) (end : End) → ((n : ℕ) × Finishes setting log limit n end × Takes takes s (items_after setting log n) t) →
      TakesLines takes setting log limit s.byte_sink.now t.byte_sink.now
  takes_whole t end (n, finishes, taken) = (
    lines setting.design (items_after setting log n),
    the_lines setting log limit n end finishes,
    subst (λ (text : List ℕ). takes s.byte_sink.now text t.byte_sink.now) (text_is (items_after setting log n)) taken.2,
  )

  -- the fault came as the items went out
  stops_within : (t : LinesSink O) (fault : OrMemory F) → HasEnd setting log limit → (n : ℕ) → IsOnItsWay setting log limit n →
      Fails takes fails s (items_after setting log n) fault t → StopsLines takes fails setting log limit s.byte_sink.now fault t.byte_sink.now
  stops_within t fault (steps, end, finishes) n underway failed =
      let front = given_front setting log n steps (not_behind (rules_of setting) log n steps underway.run finishes.ends) in
      let whole : Fails takes fails s (items_after setting log steps) fault t =
      subst (λ (xs : List Item). Fails takes fails s xs fault t) (sym front.1) (fails_before takes fails laws s t (items_after setting log n) front.0 fault failed) in (
        lines setting.design (items_after setting log steps),
        the_lines setting log limit steps end finishes,
        subst (λ (text : List ℕ). Stopped takes fails s.byte_sink.now text fault t.byte_sink.now) (text_is (items_after setting log steps)) whole.1,
      )

  -- want of memory between two items
  stops_between : (t : LinesSink O) (refused : NoMemory) → HasEnd setting log limit → IsHanded (Takes takes) setting log limit s t →
      StopsLines takes fails setting log limit s.byte_sink.now (or.Memory refused) t.byte_sink.now
  stops_between t refused known (n, k, underway, taken) =
      let given : List Item = items_after setting log n in
      let later : Fails takes fails t (drop k given) (or.Memory refused) t = ((refl, refl), (0, laws.none t.byte_sink.now)) in
      let failed : Fails takes fails s given (or.Memory refused) t =
      subst (λ (xs : List Item). Fails takes fails s xs (or.Memory refused) t) (take-append-drop k given)
      (fails_after takes fails laws s t t (take k given) (drop k given) (or.Memory refused) taken later) in
      stops_within t (or.Memory refused) known n underway failed

  abbrev Left : OrMemory (RunFault (OrMemory F)) → LinesSink O → Type 0
  Left e t = LeavesSink (Takes takes) (Fails takes fails) setting log limit s e t

  pub on_memory : (t : LinesSink O) (e : OrMemory (RunFault (OrMemory F))) (refused : NoMemory) → e ≡ or.Memory refused → Left e t →
      HasEnd setting log limit → StopsLines takes fails setting log limit s.byte_sink.now (or.Memory refused) t.byte_sink.now
  on_memory t e refused is left known = stops_between t refused known (subst (λ x. Left x t) is left)

  pub on_sink : (t : LinesSink O) (e : OrMemory (RunFault (OrMemory F))) (why : RunFault (OrMemory F)) (fault : OrMemory F) →
      e ≡ or.Fault why → why ≡ Sink fault → Left e t →
      HasEnd setting log limit → StopsLines takes fails setting log limit s.byte_sink.now fault t.byte_sink.now
  on_sink t e why fault is_fault is_sink left known =
      let (n, underway, failed) = subst (λ x. Left x t) (is_fault ∙ ap or.Fault is_sink) left in
      stops_within t fault known n underway failed

-- the fault that came as the lines went out
pub lines_stop : {W : Type 0} (contents : W → Option (List ℕ)) (setting : Setting) (log : List (ℕ × ℕ)) (limit : ℕ) (old new : Metered W) (cause : OrMemory WriteFault) (fault : Fault) →
    fault ≡ fault_of cause → StopsLines (Written contents) (Broken contents) setting log limit old cause new →
    StopsText contents (IsRunLines setting log limit) old new fault
lines_stop contents setting log limit old new cause fault is (text, known, stopped) =
    record { cause = cause; is = is; text = text; holds = known; stops = stops_of contents old new text cause stopped }

-- what was taken on top of nothing is the lines themselves
pub held_whole : (setting : Setting) (log : List (ℕ × ℕ)) (limit : ℕ) (old new : List ℕ) → old ≡ [] → TakesLines Appended setting log limit old new → IsRunLines setting log limit new
held_whole setting log limit old new none (text, is, taken) =
    subst (IsRunLines setting log limit) (sym (taken ∙ ap (λ (kept : List ℕ). kept ++ text) none)) is
