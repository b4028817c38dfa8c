-- *internal*: What holds of what is held back, in every state of the runs of every setting; `holding_law` proves it.
use Rattle.std.specs.Prelude.{◌≡◌, ℕ, suc, ◌*◌, ◌<◌, List, [], length, Option, Some, None, slice_get}
use Rattle.basis.specs.declared.timescale.Timescale.{Timescale}
use Rattle.vwords.specs.Words.{Text}
use Rattle.vast.specs.NumberedModules.{SourceTree}
use Rattle.sched_core.specs.Rules.{choice_at}
use Rattle.vhierarchy.specs.Instances.{Elaborates}
use Rattle.sched_core.specs.declared.setting.Departures.TheVariants.{Holding}
use Rattle.vmodel.specs.declared.choice.Choice.{Choice}
use Rattle.vmodel.specs.declared.choice.Choice.TheVariants.{Run, Advance}
use Rattle.vmodel.specs.Choices.{choices}
use Rattle.vmodel.specs.Run.{Setting, state_after}
use Rattle.holding_law.specs.Held.{held_in, IsHeld, IsActive, HasFree, HasActions, HoldsBefore}

-- where departures may hold back, what a choice of the first half takes may also be taken while all that stands before it is held back
abbrev pub CanHold : Type 0
CanHold = (setting : Setting) (log : List (ℕ × ℕ)) (n k : ℕ) (c : Choice) → setting.departures ≡ Holding →
    2 * k < length (choices (state_after setting log n)) → slice_get (choices (state_after setting log n)) k ≡ Some c →
    HoldsBefore setting.design (state_after setting log n) k c

-- what a process of a text's design has left begins at the place of an action, in every state of every run
abbrev pub HasActionsByText : Type 0
HasActionsByText = (modules : SourceTree) (top : Option Text) (scale : Timescale) (setting : Setting) (log : List (ℕ × ℕ)) (n : ℕ) →
    Elaborates modules top scale setting.design → HasActions setting.design (state_after setting log n)

-- so choice 0 takes no process that is held back
abbrev pub DefaultIsFree : Type 0
DefaultIsFree = (setting : Setting) (log : List (ℕ × ℕ)) (n p : ℕ) →
    ((k : ℕ) → k < n → HasActions setting.design (state_after setting log k)) →
    slice_get (choices (state_after setting log n)) 0 ≡ Some (Run p) → ¬ IsHeld (state_after setting log n) p

-- it takes the process that made the last step, where that can go on
abbrev pub LastGoesOn : Type 0
LastGoesOn = (setting : Setting) (log : List (ℕ × ℕ)) (n p : ℕ) →
    (state_after setting log n).cause ≡ None → (state_after setting log n).queue.last ≡ Some p →
    slice_get (choices (state_after setting log n)) 0 ≡ Some (Run p)

-- while a process is held back something else can go on
abbrev pub HasFreeOnes : Type 0
HasFreeOnes = (setting : Setting) (log : List (ℕ × ℕ)) (n p : ℕ) →
    IsHeld (state_after setting log n) p → HasFree (state_after setting log n)

-- what is held back is active, so nothing inactive or posted passes it (11.4)
abbrev pub IsAllActive : Type 0
IsAllActive = (setting : Setting) (log : List (ℕ × ℕ)) (n p : ℕ) →
    IsHeld (state_after setting log n) p → IsActive (state_after setting log n) p

-- an advance leaves nobody held back
abbrev pub AdvanceReleases : Type 0
AdvanceReleases = (setting : Setting) (log : List (ℕ × ℕ)) (n : ℕ) →
    slice_get (choices (state_after setting log n)) (choice_at log n) ≡ Some Advance → held_in (state_after setting log (suc n)) ≡ []

-- what a step takes isn't held back after it
abbrev pub TakenIsReleased : Type 0
TakenIsReleased = (setting : Setting) (log : List (ℕ × ℕ)) (n p : ℕ) →
    slice_get (choices (state_after setting log n)) (choice_at log n) ≡ Some (Run p) → ¬ IsHeld (state_after setting log (suc n)) p
