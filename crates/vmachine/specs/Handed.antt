-- *internal*: What becomes of who watches a run: a sink that is handed its items (IEEE 1364-2005, 11.4, 18.1).
use Rattle.std.specs.Prelude.{◌≡◌, ℕ, if◌then◌else◌, List, [], ◌∷◌, take}
use Rattle.sched_core.specs.Replay.{IsReplayReason}
use Rattle.sched_core.specs.declared.end.End.{End}
use Rattle.vmodel.specs.declared.history.Item.{Item}
use Rattle.vmodel.specs.History.{History}
use Rattle.vmodel.specs.Touched.{ends_slot}
use Rattle.vmodel.specs.Run.{Setting, rules_of, items_after, history_after}
use Rattle.vmodel.specs.RunProgress.{Finishes, IsOnItsWay}
use Rattle.basis.specs.declared.memory.OrMemory.{OrMemory}
use Rattle.basis.specs.declared.memory.OrMemory.TheVariants.{Fault, Memory}
use Rattle.vmachine.specs.declared.run.RunFault.{RunFault}
use Rattle.vmachine.specs.declared.run.RunFault.TheVariants.{Replay, Sink}

-- the run ends with this end, and the sink took all that it gave
abbrev pub RunsInto : {T : Type 0} → (T → List Item → T → Type 0) → Setting → List (ℕ × ℕ) → ℕ → T → End → T → Type 0
RunsInto takes setting log steps old end new = (n : ℕ) × Finishes setting log steps n end × takes old (items_after setting log n) new

-- an item in front of the first of these slots
abbrev pub in_first : Item → List (List Item) → List (List Item)
in_first item [] = (item ∷ []) ∷ []
in_first item (slot ∷ later) = (item ∷ slot) ∷ later

-- 11.4: what each slot gave, up to its end, and last what a slot without an end left, if it left anything
abbrev pub by_slot : List Item → List (List Item)
by_slot [] = []
by_slot (item ∷ more) = if ends_slot item then (item ∷ []) ∷ by_slot more else in_first item (by_slot more)

-- the sink took these, one after another
abbrev pub TakesEach : {T : Type 0} → (T → List Item → T → Type 0) → T → List (List Item) → T → Type 0
TakesEach takes old [] new = new ≡ old
TakesEach {T = T} takes old (items ∷ more) new = (between : T) × takes old items between × TakesEach takes between more new

-- the run ends with this end, and the sink took what each slot gave by itself
abbrev pub RunsBySlot : {T : Type 0} → (T → List Item → T → Type 0) → Setting → List (ℕ × ℕ) → ℕ → T → End → T → Type 0
RunsBySlot takes setting log steps old end new =
    (n : ℕ) × Finishes setting log steps n end × TakesEach takes old (by_slot (items_after setting log n)) new

-- the run under the log ends, and this is its history
abbrev pub IsHistory : Setting → List (ℕ × ℕ) → ℕ → History → Type 0
IsHistory setting log steps history =
    (n : ℕ) × Finishes setting log steps n history.end × (history ≡ history_after setting log n)

-- the sink took the first items of a run on its way
abbrev pub IsHanded : {T : Type 0} → (T → List Item → T → Type 0) → Setting → List (ℕ × ℕ) → ℕ → T → T → Type 0
IsHanded takes setting log steps old new =
    (n k : ℕ) × IsOnItsWay setting log steps n × takes old (take k (items_after setting log n)) new

-- the sink failed somewhere in the items of a run on its way
abbrev pub IsFailed : {T F : Type 0} → (T → List Item → F → T → Type 0) → Setting → List (ℕ × ℕ) → ℕ → T → F → T → Type 0
IsFailed fails setting log steps old fault new = (n : ℕ) × IsOnItsWay setting log steps n × fails old (items_after setting log n) fault new

-- why there is no such run
abbrev pub IsNoSuchRun : {F : Type 0} → Setting → List (ℕ × ℕ) → ℕ → RunFault F → Type 0
IsNoSuchRun setting log steps (Replay fault) = IsReplayReason (rules_of setting) log steps fault
IsNoSuchRun setting log steps (Sink fault) = Unit {0}

-- what a fault leaves in the sink
abbrev pub LeavesSink : {T F : Type 0} → (T → List Item → T → Type 0) → (T → List Item → F → T → Type 0) → Setting → List (ℕ × ℕ) → ℕ
    → T → OrMemory (RunFault F) → T → Type 0
LeavesSink takes fails setting log steps old (Fault (Replay fault)) new = IsHanded takes setting log steps old new
LeavesSink takes fails setting log steps old (Fault (Sink fault)) new = IsFailed fails setting log steps old fault new
LeavesSink takes fails setting log steps old (Memory m) new = IsHanded takes setting log steps old new
