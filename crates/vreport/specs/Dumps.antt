-- *product rule*: The dump of one run (IEEE 1364-2005, clause 18), on its way to what takes texts. Only `IsRunDump` has to be believed.
use Rattle.std.specs.Prelude.{◌≡◌, ℕ, List, []}
use Rattle.basis.specs.declared.memory.OrMemory.{OrMemory}
use Rattle.sched_core.specs.declared.end.End.{End}
use Rattle.vmodel.specs.Run.{Setting, history_after}
use Rattle.vmodel.specs.RunProgress.{Finishes}
use Rattle.vmodel.specs.Run.{items_after}
use Rattle.vmachine.specs.Runs.{IsHandedSo, IsRunAt, waiting}
use Rattle.vmachine.specs.declared.run.Run.{Run}
use Rattle.vcd_text.specs.DumpText.{vcd}
use Rattle.vcd_text.specs.Sinks.{Takes, items_text, progress_over}
use Rattle.vcd_text.specs.declared.progress.Progress.TheVariants.{Waiting}
use Rattle.vcd_text.specs.declared.sink.DumpSink.{DumpSink}
use Rattle.byte_sinks.specs.ByteSinks.{Stopped}
use Rattle.vreport.specs.declared.dump.DumpFront.{DumpFront}
use Rattle.vreport.specs.declared.dump.HeldDump.{HeldDump}
use Rattle.vreport.specs.declared.dump.HeldDump.TheVariants.{Whole, Front}

-- the run under the log ends, within so many steps, and this is its dump
pub record IsRunDump (setting : Setting) (log : List (ℕ × ℕ)) (limit : ℕ) (dump : List ℕ) : Type 0 where
  pub steps : ℕ
  pub end : End
  pub finishes : Finishes setting log limit steps end
  pub is_text : dump ≡ vcd setting.design (history_after setting log steps)

-- the run has a dump: it ends within so many steps
abbrev pub HasDump : Setting → List (ℕ × ℕ) → ℕ → Type 0
HasDump setting log limit = (dump : List ℕ) × IsRunDump setting log limit dump

-- it ends so
abbrev pub EndsAs : Setting → List (ℕ × ℕ) → ℕ → End → Type 0
EndsAs setting log limit end = (steps : ℕ) × Finishes setting log limit steps end

-- its dump was taken
abbrev pub TakesDump : {O : Type 0} → (O → List ℕ → O → Type 0) → Setting → List (ℕ × ℕ) → ℕ → O → O → Type 0
TakesDump takes setting log limit old new = (dump : List ℕ) × IsRunDump setting log limit dump × takes old dump new

-- the fault came somewhere in its dump
abbrev pub StopsDump : {O F : Type 0} → (O → List ℕ → O → Type 0) → (O → List ℕ → F → O → Type 0) → Setting → List (ℕ × ℕ) → ℕ → O → OrMemory F → O → Type 0
StopsDump takes fails setting log limit old fault new = (dump : List ℕ) × IsRunDump setting log limit dump × Stopped takes fails old dump fault new

-- ---- what is held of a dump

-- what a run gave so far, from where its sink had taken nothing
pub record IsFrontOf {O : Type 0} (takes : O → List ℕ → O → Type 0) (setting : Setting) (run : Run) (first now : DumpSink O) : Type 0 where
  pub fresh : first.progress ≡ Waiting []
  pub design : first.design.now ≡ setting.design
  pub given : IsHandedSo (Takes takes) setting run first now

-- the text of what the run gave until it paused, and how far the dump has come with that
pub record IsDumpFront (setting : Setting) (log : List (ℕ × ℕ)) (limit : ℕ) (front : DumpFront) : Type 0 where
  pub log_is : front.run.log.now ≡ log
  pub here : IsRunAt setting limit front.run
  pub none_wait : waiting front.run ≡ []
  pub text_is : front.text ≡ items_text setting.design (Waiting []) (items_after setting log front.run.n)
  pub progress_is : front.progress ≡ progress_over setting.design (Waiting []) (items_after setting log front.run.n)

-- the dump of the run, with the run's end, or its front
abbrev pub IsHeldDump : Setting → List (ℕ × ℕ) → ℕ → HeldDump → Type 0
IsHeldDump setting log limit (Whole text end) = IsRunDump setting log limit text × EndsAs setting log limit end
IsHeldDump setting log limit (Front front) = IsDumpFront setting log limit front
