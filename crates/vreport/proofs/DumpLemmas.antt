-- What is taken when a run that ends is handed to a fresh sink.
use Rattle.std.proofs.Common.{◌≡◌, ℕ, List, [], take, drop, refl, sym, ap, subst, ◌∙◌}
use Rattle.std.proofs.lemmas.List.{take-append-drop}
use Rattle.sched_core.specs.Replay.{IsReplayReason}
use Rattle.sched_core.specs.declared.run.ReplayFault.{ReplayFault}
use Rattle.sched_core.specs.declared.run.ReplayFault.TheVariants as replay
use Rattle.vdesign.specs.Design.{Design}
use Rattle.vmodel.specs.History.{History}
use Rattle.vmodel.specs.declared.history.Item.{Item}
use Rattle.sched_core.specs.declared.end.End.{End}
use Rattle.vmodel.specs.Run.{Setting, rules_of, items_after, history_after}
use Rattle.vmodel.specs.RunProgress.{Finishes, IsOnItsWay}
use Rattle.vmachine.specs.Handed.{IsHanded, LeavesSink}
use Rattle.vmachine.specs.declared.run.RunFault.{RunFault}
use Rattle.vmachine.specs.declared.run.RunFault.TheVariants.{Sink}
use Rattle.basis.specs.declared.memory.NoMemory.{NoMemory}
use Rattle.basis.specs.declared.memory.OrMemory.{OrMemory}
use Rattle.basis.specs.declared.memory.OrMemory.TheVariants as or
use Rattle.vcd_text.specs.DumpText.{vcd}
use Rattle.byte_sinks.specs.ByteSinks.{IsByteSink, Stopped}
use Rattle.vcd_text.specs.declared.progress.Progress.TheVariants.{Waiting}
use Rattle.vcd_text.specs.Sinks.{end_text, Takes, Fails}
use Rattle.vcd_text.specs.SinkLaws.{fails_after, fails_before}
use Rattle.vcd_text.specs.DumpLaws.{completes, stops_taking, stops_completing}
use Rattle.vcd_text.specs.declared.sink.DumpSink.{DumpSink}
use Rattle.vreport.specs.Dumps.{HasDump, IsRunDump, StopsDump, TakesDump}
use Rattle.vreport.specs.RunLaws.{not_behind, never_missing, never_more, given_front}

-- the dump of a run that ends
pub the_dump : (setting : Setting) (log : List (ℕ × ℕ)) (limit n : ℕ) (end : End) → Finishes setting log limit n end →
    IsRunDump setting log limit (vcd setting.design (history_after setting log n))
the_dump setting log limit n end finishes = record { steps = n; end = end; finishes = finishes; is_text = refl }

-- a run that ends isn't refused
pub never_by_replay : (setting : Setting) (log : List (ℕ × ℕ)) (limit : ℕ) (why : ReplayFault) → HasDump setting log limit →
    IsReplayReason (rules_of setting) log limit why → ⊥
never_by_replay setting log limit replay.NoSuchChoice (dump, known) missing =
    never_missing (rules_of setting) log limit known.steps known.finishes.ends missing
never_by_replay setting log limit replay.TooManySteps (dump, known) more =
    never_more (rules_of setting) log limit known.steps known.finishes.ends known.finishes.within more

module _ {O F : Type 0} (takes : O → List ℕ → O → Type 0) (fails : O → List ℕ → F → O → Type 0) (laws : IsByteSink takes fails)
    (setting : Setting) (log : List (ℕ × ℕ)) (limit : ℕ) (s : DumpSink O) (fresh : s.progress ≡ Waiting []) (of : s.design.now ≡ setting.design) where
  -- the dump of the sink's design is that of the setting's
  of_design : (Holds : List ℕ → Type 0) (history : History) → Holds (vcd s.design.now history) → Holds (vcd setting.design history)
  of_design Holds history = subst (λ (design : Design). Holds (vcd design history)) of

  -- all of it was taken
  pub takes_whole : (t : DumpSink O) (m : O) (end : End) → ((n : ℕ) × Finishes setting log limit n end × Takes takes s (items_after setting log n) t) →
      takes t.byte_sink.now (end_text t.progress end.time) m → TakesDump takes setting log limit s.byte_sink.now m
  takes_whole t m end (n, finishes, taken) last =
      let history : History = history_after setting log n in
      let late : takes t.byte_sink.now (end_text t.progress history.end.time) m =
      subst (λ (e : End). takes t.byte_sink.now (end_text t.progress e.time) m) finishes.end_is last in (
        vcd setting.design history,
        the_dump setting log limit n end finishes,
        of_design (λ (dump : List ℕ). takes s.byte_sink.now dump m) history (completes takes fails laws s history fresh t m taken late),
      )

  -- the fault came in what the end adds
  pub stops_at_end : (t : DumpSink O) (m : O) (end : End) (fault : OrMemory F) →
      ((n : ℕ) × Finishes setting log limit n end × Takes takes s (items_after setting log n) t) →
      Stopped takes fails t.byte_sink.now (end_text t.progress end.time) fault m →
      StopsDump takes fails setting log limit s.byte_sink.now fault m
  stops_at_end t m end fault (n, finishes, taken) stops =
      let history : History = history_after setting log n in
      let late : Stopped takes fails t.byte_sink.now (end_text t.progress history.end.time) fault m =
      subst (λ (e : End). Stopped takes fails t.byte_sink.now (end_text t.progress e.time) fault m) finishes.end_is stops in (
        vcd setting.design history,
        the_dump setting log limit n end finishes,
        of_design (λ (dump : List ℕ). Stopped takes fails s.byte_sink.now dump fault m) history (stops_completing takes fails laws s history fresh t m fault taken late),
      )

  -- the fault came as the items went out
  stops_within : (t : DumpSink O) (fault : OrMemory F) → HasDump setting log limit → (n : ℕ) → IsOnItsWay setting log limit n →
      Fails takes fails s (items_after setting log n) fault t → StopsDump takes fails setting log limit s.byte_sink.now fault t.byte_sink.now
  stops_within t fault (dump, known) n underway failed =
      let front = given_front setting log n known.steps (not_behind (rules_of setting) log n known.steps underway.run known.finishes.ends) in
      let whole : Fails takes fails s (items_after setting log known.steps) fault t =
      subst (λ (xs : List Item). Fails takes fails s xs fault t) (sym front.1) (fails_before takes fails laws s t (items_after setting log n) front.0 fault failed) in (
        vcd setting.design (history_after setting log known.steps),
        the_dump setting log limit known.steps known.end known.finishes,
        of_design (λ (dump : List ℕ). Stopped takes fails s.byte_sink.now dump fault t.byte_sink.now) (history_after setting log known.steps)
            (stops_taking takes fails laws s (history_after setting log known.steps) fresh t fault whole),
      )

  -- want of memory between two items
  stops_between : (t : DumpSink O) (refused : NoMemory) → HasDump setting log limit → IsHanded (Takes takes) setting log limit s t →
      StopsDump takes fails setting log limit s.byte_sink.now (or.Memory refused) t.byte_sink.now
  stops_between t refused known (n, k, underway, taken) =
      let given : List Item = items_after setting log n in
      let later : Fails takes fails t (drop k given) (or.Memory refused) t = ((refl, refl), (0, laws.none t.byte_sink.now), tt) in
      let failed : Fails takes fails s given (or.Memory refused) t =
      subst (λ (xs : List Item). Fails takes fails s xs (or.Memory refused) t) (take-append-drop k given)
      (fails_after takes fails laws s t t (take k given) (drop k given) (or.Memory refused) taken later) in
      stops_within t (or.Memory refused) known n underway failed

  abbrev pub Left : OrMemory (RunFault (OrMemory F)) → DumpSink O → Type 0
  Left e t = LeavesSink (Takes takes) (Fails takes fails) setting log limit s e t

  pub on_memory : (t : DumpSink O) (e : OrMemory (RunFault (OrMemory F))) (refused : NoMemory) → e ≡ or.Memory refused → Left e t →
      HasDump setting log limit → StopsDump takes fails setting log limit s.byte_sink.now (or.Memory refused) t.byte_sink.now
  on_memory t e refused is left known = stops_between t refused known (subst (λ x. Left x t) is left)

  pub on_sink : (t : DumpSink O) (e : OrMemory (RunFault (OrMemory F))) (why : RunFault (OrMemory F)) (fault : OrMemory F) →
      e ≡ or.Fault why → why ≡ Sink fault → Left e t →
      HasDump setting log limit → StopsDump takes fails setting log limit s.byte_sink.now fault t.byte_sink.now
  on_sink t e why fault is_fault is_sink left known =
      let (n, underway, failed) = subst (λ x. Left x t) (is_fault ∙ ap or.Fault is_sink) left in
      stops_within t fault known n underway failed
