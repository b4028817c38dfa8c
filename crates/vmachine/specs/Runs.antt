-- *internal*: Runs on their way: where they stand, and what was handed on of what they gave.
use Rattle.std.specs.Prelude.{◌≡◌, ℕ, true, List, [], ◌++◌, Option, Some, None}
use Rattle.sched_core.specs.declared.end.End.{End}
use Rattle.vmodel.specs.declared.history.Item.{Item}
use Rattle.vmodel.specs.State.{State}
use Rattle.vmodel.specs.Step.{slot_end_of}
use Rattle.vmodel.specs.Run.{Setting, items_after, state_after, is_mark}
use Rattle.vmodel.specs.Touched.{HasNoSlotEnd}
use Rattle.vflat.specs.Representations.{rest_in}
use Rattle.vmachine.specs.Handed.{RunsInto, RunsBySlot, by_slot, TakesEach}
use Rattle.vmachine.specs.Inner.{IsAt}
use Rattle.vmachine.specs.Machines.{Stands}
use Rattle.vmachine.specs.Waiting.{waiting_in}
use Rattle.vmachine.specs.declared.run.Run.{Run}

-- where its log has led the run so far
abbrev pub state_of : Setting → Run → State
state_of setting run = state_after setting run.log.now run.n

-- what is pending
abbrev pub waiting : Run → List Item
waiting run = waiting_in run.pending (rest_in run.state)

-- the run stands where its log leads it, and has taken no more steps than allowed; the end of a slot is due at a mark alone
pub record IsRunAt (setting : Setting) (steps : ℕ) (run : Run) : Type 0 where
  pub so : IsAt setting run.log.now run.rest.now steps run.n (state_of setting run)
  pub stands : Stands setting run.state (state_of setting run)
  pub no_end : HasNoSlotEnd run.pending.items.items
  pub due : run.pending.due ≡ true → is_mark (rest_in run.state) ≡ true

-- the sink took all that the run gave so far, but for what is pending
pub record IsHandedSo {T : Type 0} (takes : T → List Item → T → Type 0) (setting : Setting) (run : Run) (first now : T) : Type 0 where
  pub handed : List Item
  pub taken : takes first handed now
  pub is : handed ++ waiting run ≡ items_after setting run.log.now run.n

-- the run ended, or it stands where all that it gave was taken
abbrev pub Reaches : {T : Type 0} → (T → List Item → T → Type 0) → Setting → ℕ → T → Run → T → Option End → Type 0
Reaches takes setting steps first run now (Some end) = RunsInto takes setting run.log.now steps first end now
Reaches takes setting steps first run now None = IsHandedSo takes setting run first now × (waiting run ≡ [])

-- ---- slot by slot

-- what comes after these is a slot of its own
abbrev pub IsCut : List Item → Type 0
IsCut front = (more : List Item) → by_slot (front ++ more) ≡ by_slot front ++ by_slot more

-- of what is pending in a state only the last item ends a slot, and does where the state is a slot end
abbrev pub Waits : List Item → State → Type 0
Waits items s = (front : List Item) × HasNoSlotEnd front × (items ≡ front ++ slot_end_of s)

-- all that the run gave so far is pending
pub record AllWaits (setting : Setting) (run : Run) : Type 0 where
  pub is : waiting run ≡ items_after setting run.log.now run.n
  pub waits : Waits (waiting run) (state_of setting run)

-- the sink took what each slot gave by itself, but for what is pending
pub record IsHandedBySlot {T : Type 0} (takes : T → List Item → T → Type 0) (setting : Setting) (run : Run) (first now : T) : Type 0 where
  pub so : IsHandedSo takes setting run first now
  pub each : TakesEach takes first (by_slot so.handed) now
  pub cut : IsCut so.handed
  pub waits : Waits (waiting run) (state_of setting run)

abbrev pub ReachesBySlot : {T : Type 0} → (T → List Item → T → Type 0) → Setting → ℕ → T → Run → T → Option End → Type 0
ReachesBySlot takes setting steps first run now (Some end) = RunsBySlot takes setting run.log.now steps first end now
ReachesBySlot takes setting steps first run now None = Unit {0}
