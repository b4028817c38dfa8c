-- *product rule*: What a replay writes where its steps are asked for, from the bytes of the files to the trace of the run (docs/FORMATS.md,
-- "Traces").
use Rattle.std.specs.Prelude.{◌≡◌, ◌⊎◌, ℕ, List, Option, take}
use Rattle.std.specs.Io.KnownBytes.{Appends}
use Rattle.vsrc.specs.declared.expanded.Place.{Place}
use Rattle.byte_sinks.specs.declared.metered.Metered.{Metered}
use Rattle.sched_core.specs.declared.end.End.{End}
use Rattle.vmodel.specs.RunProgress.{Finishes}
use Rattle.trace_text.specs.Traces.{trace}
use Rattle.vrace.specs.Request.{Request}
use Rattle.vrace.specs.ActionPlaces.{ArePlacedInFiles}
use Rattle.vrace.specs.Replays.{Replayed, setting_of}
use Rattle.vrace.specs.Refusals.{IsOfWriting}
use Rattle.vrace.specs.declared.fault.Fault.{Fault}

-- The trace of the files under the log, to the run's end. Each step is told with the place at which the statement of its action begins.
pub record IsTrace (files : List (List ℕ)) (asked : Request) (log : List ℕ) (text : List ℕ) : Type 0 where
  pub replayed : Replayed files asked log
  pub origins : List (Option Place)
  pub placed : ArePlacedInFiles files asked.top origins
  pub steps : ℕ
  pub end : End
  pub finishes : Finishes (setting_of files asked log replayed) replayed.members asked.steps steps end
  pub is_text : text ≡ trace (setting_of files asked log replayed) origins replayed.members steps

-- a front of it stands written
pub record IsBegunTrace (files : List (List ℕ)) (asked : Request) (log : List ℕ) (old new : Option (List ℕ)) : Type 0 where
  pub text : List ℕ
  pub is_text : IsTrace files asked log text
  pub len : ℕ
  pub front : Appends old new (take len text)

-- what a refusal leaves: the writer as it was, or a front of the trace in it, where memory or the writer failed as it went out
abbrev pub LeavesTrace : {W : Type 0} → (W → Option (List ℕ)) → List (List ℕ) → Request → List ℕ → Fault → Metered W → Metered W → Type 0
LeavesTrace contents files asked log fault old new =
    (new ≡ old) ⊎ (IsOfWriting fault × IsBegunTrace files asked log (contents old.inner) (contents new.inner))
