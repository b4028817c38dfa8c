-- From the trace of a run to the trace of files.
use Rattle.std.proofs.Common.{◌≡◌, inr, ℕ, List, Option, sym, ap, subst, ◌∙◌}
use Rattle.vsrc.specs.declared.expanded.Place.{Place}
use Rattle.basis.specs.declared.memory.OrMemory.{OrMemory}
use Rattle.byte_sinks.specs.Metered.{Stops}
use Rattle.byte_sinks.specs.declared.metered.Metered.{Metered}
use Rattle.byte_sinks.specs.declared.fault.WriteFault.{WriteFault}
use Rattle.sched_core.specs.declared.end.End.{End}
use Rattle.vmodel.specs.Run.{Setting}
use Rattle.vmodel.specs.RunProgress.{Finishes}
use Rattle.trace_text.specs.Traces.{IsTold, trace}
use Rattle.trace_text.specs.TraceLaws.{told_to_end}
use Rattle.vrace.specs.Request.{Request}
use Rattle.vrace.specs.ActionPlaces.{ArePlacedInFiles}
use Rattle.vrace.specs.Replays.{Replayed, setting_of}
use Rattle.vrace.specs.FileTraces.{IsTrace, LeavesTrace}
use Rattle.vrace.specs.Refusals.{IsOfWriting}
use Rattle.vrace.specs.RunDumps.{fault_of}
use Rattle.vrace.specs.declared.fault.Fault.{Fault}
use Rattle.vrace.proofs.ReplayLemmas.{of_writing}

module _ (files : List (List ℕ)) (asked : Request) (log : List ℕ) (replayed : Replayed files asked log) (setting : Setting) (same : setting ≡ setting_of files asked log replayed)
    (members : List (ℕ × ℕ)) (are : members ≡ replayed.members) (origins : List (Option Place)) (placed : ArePlacedInFiles files asked.top origins) (n m : ℕ) (end : End)
    (told : IsTold setting members asked.steps n) (finishes : Finishes setting members asked.steps m end) where
  -- the trace of the run to where it is told is that of the files
  pub traced : IsTrace files asked log (trace setting origins members n)
  traced = record {
    replayed = replayed;
    origins = origins;
    placed = placed;
    steps = m;
    end = end;
    finishes =
        subst (λ (s : Setting). Finishes s replayed.members asked.steps m end) same
        (subst (λ (list : List (ℕ × ℕ)). Finishes setting list asked.steps m end) are finishes);
    is_text =
        ap (trace setting origins members) (told_to_end setting members asked.steps n m end told finishes)
        ∙ ap (λ (list : List (ℕ × ℕ)). trace setting origins list m) are
        ∙ ap (λ (s : Setting). trace s origins replayed.members m) same;
  }

  -- the fault came as it went out
  pub left_in_trace : {W : Type 0} (contents : W → Option (List ℕ)) (old new : Metered W) (cause : OrMemory WriteFault) (fault : Fault) → fault ≡ fault_of cause →
      Stops contents old new (trace setting origins members n) cause → LeavesTrace contents files asked log fault old new
  left_in_trace contents old new cause fault is stops =
      inr (subst IsOfWriting (sym is) (of_writing cause), record { text = trace setting origins members n; is_text = traced; len = stops.0.0; front = stops.0.1 })
