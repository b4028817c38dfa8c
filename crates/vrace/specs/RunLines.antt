-- *internal*: The printed lines of one run (IEEE 1364-2005, 17.1), on their way to what takes texts.
use Rattle.std.specs.Prelude.{◌≡◌, ℕ, List, []}
use Rattle.basis.specs.declared.memory.OrMemory.{OrMemory}
use Rattle.sched_core.specs.declared.end.End.{End}
use Rattle.vmodel.specs.Run.{Setting, items_after}
use Rattle.vmodel.specs.RunProgress.{Finishes}
use Rattle.lines_text.specs.LinesText.{lines}
use Rattle.lines_text.specs.Sinks.{Takes, in_force_over}
use Rattle.lines_text.specs.declared.in_force.InForce.TheVariants.{Nobody}
use Rattle.lines_text.specs.declared.sink.LinesSink.{LinesSink}
use Rattle.vmachine.specs.Runs.{IsHandedSo, IsRunAt, waiting}
use Rattle.vmachine.specs.declared.run.Run.{Run}
use Rattle.byte_sinks.specs.ByteSinks.{Stopped}
use Rattle.vreport.specs.Dumps.{EndsAs}
use Rattle.vrace.specs.declared.lines.LinesFront.{LinesFront}
use Rattle.vrace.specs.declared.lines.HeldLines.{HeldLines}
use Rattle.vrace.specs.declared.lines.HeldLines.TheVariants.{Whole, Front}

-- the run under the log ends within so many steps
abbrev pub HasEnd : Setting → List (ℕ × ℕ) → ℕ → Type 0
HasEnd setting log limit = (n : ℕ) × (end : End) × Finishes setting log limit n end

-- and these are its lines
pub record IsRunLines (setting : Setting) (log : List (ℕ × ℕ)) (limit : ℕ) (text : List ℕ) : Type 0 where
  pub steps : ℕ
  pub end : End
  pub finishes : Finishes setting log limit steps end
  pub is_text : text ≡ lines setting.design (items_after setting log steps)

-- its lines were taken
abbrev pub TakesLines : {O : Type 0} → (O → List ℕ → O → Type 0) → Setting → List (ℕ × ℕ) → ℕ → O → O → Type 0
TakesLines takes setting log limit old new = (text : List ℕ) × IsRunLines setting log limit text × takes old text new

-- the fault came somewhere in its lines
abbrev pub StopsLines : {O F : Type 0} → (O → List ℕ → O → Type 0) → (O → List ℕ → F → O → Type 0) → Setting → List (ℕ × ℕ) → ℕ → O → OrMemory F → O → Type 0
StopsLines takes fails setting log limit old fault new = (text : List ℕ) × IsRunLines setting log limit text × Stopped takes fails old text fault new

-- ---- what is held of the lines

-- what a run gave so far, from where its sink had taken nothing
pub record IsFrontOf {O : Type 0} (takes : O → List ℕ → O → Type 0) (setting : Setting) (run : Run) (first now : LinesSink O) : Type 0 where
  pub fresh : first.in_force ≡ Nobody
  pub design : first.design.now ≡ setting.design
  pub given : IsHandedSo (Takes takes) setting run first now

-- the lines of what the run gave until it paused, and which monitor is in force then
pub record IsLinesFront (setting : Setting) (log : List (ℕ × ℕ)) (limit : ℕ) (front : LinesFront) : Type 0 where
  pub log_is : front.run.log.now ≡ log
  pub here : IsRunAt setting limit front.run
  pub none_wait : waiting front.run ≡ []
  pub text_is : front.text ≡ lines setting.design (items_after setting log front.run.n)
  pub in_force_is : front.in_force ≡ in_force_over setting.design Nobody (items_after setting log front.run.n)

-- the lines of the run, with its end, or those in front
abbrev pub IsHeldLines : Setting → List (ℕ × ℕ) → ℕ → HeldLines → Type 0
IsHeldLines setting log limit (Whole text end) = IsRunLines setting log limit text × EndsAs setting log limit end
IsHeldLines setting log limit (Front front) = IsLinesFront setting log limit front
