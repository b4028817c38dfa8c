-- *internal*: What the laws say of the states of runs; functions of `law` prove it.
use Rattle.std.specs.Prelude.{◌≡◌, ◌≢◌, ℕ, Bool, false, if◌then◌else◌, List, [], ◌∷◌, Option, None, Some, option_map, slice_get}
use Rattle.vbits.specs.Vectors.{Vector}
use Rattle.vdesign.specs.Design.{Design}
use Rattle.vdesign.specs.declared.action.Action.{Action}
use Rattle.vdesign.specs.declared.action.Term.{Term}
use Rattle.velab_expr.specs.Scopes.{Scope}
use Rattle.vmodel.specs.declared.choice.Choice.TheVariants.{Run}
use Rattle.vmodel.specs.Choices.{choices}
use Rattle.vmodel.specs.State.{State}
use Rattle.vmodel.specs.Waking.{any_hears}
use Rattle.vmodel.specs.Kept.{waits_of}
use Rattle.vmodel.specs.Step.{frames, continuation_of, held_of, environment_of, next}
use Rattle.vmodel.specs.Run.{Setting, state_after}
use Rattle.statement_law.specs.TreeSteps.{Pending, Suspension, waits, TreeStep, GoesOn}
use Rattle.statement_law.specs.Standing.{StandAt, terms_in, tree_effect_of}

-- what a process stands at, on trees: before this, with this value held, and waiting for one of these terms, or for none
pub record Standpoint : Type 0 where
  pub pending : List Pending
  pub held : Option Vector
  pub waiting : Option (List Term)

-- 9.7.4: whether one of them is heard
abbrev pub is_heard : List Vector → List Vector → Option ℕ → Option (List Term) → Bool
is_heard old new triggered None = false
is_heard old new triggered (Some terms) = any_hears old new triggered terms

-- 9.7.2, 9.7.3: one that is heard isn't waited for any more
abbrev pub still_waiting : List Vector → List Vector → Option ℕ → Option (List Term) → Option (List Term)
still_waiting old new triggered waiting = if is_heard old new triggered waiting then None else waiting

-- what is waited for behind a step; a process with nothing left has ended
abbrev pub waits_behind : Suspension → List Pending → Option (List Term)
waits_behind (waits terms) (first ∷ rest) = Some terms
waits_behind _ _ = None

-- the same of a process of a state
abbrev pub waited_at : List Action → Option ℕ → Option (List Term)
waited_at actions place = option_map (λ p. terms_in (slice_get actions p)) place

-- the process of this number stands there
pub record IsAt (design : Design) (s : State) (p : ℕ) (scope : Scope) (at : Standpoint) : Type 0 where
  pub stands : StandAt scope design.actions at.pending (continuation_of (slice_get s.processes p))
  pub holds : held_of (slice_get s.processes p) ≡ at.held
  pub waits : waited_at design.actions (waits_of (slice_get s.processes p)) ≡ at.waiting

-- behind a step of its own, in which the values became new
abbrev pub behind : List Vector → List Vector → TreeStep → Standpoint
behind old new step = record {
  pending = step.next;
  held = step.effect.held;
  waiting = still_waiting old new step.effect.triggered (waits_behind step.effect.suspension step.next);
}

-- behind a step of something else
abbrev pub after_other_step : List Vector → List Vector → Option ℕ → Standpoint → Standpoint
after_other_step old new triggered at = record { pending = at.pending; held = at.held; waiting = still_waiting old new triggered at.waiting }

-- a step of the process is one of its trees
pub record IsTreeStep (design : Design) (s : State) (i p : ℕ) (scope : Scope) (at : Standpoint) : Type 0 where
  pub step : TreeStep
  pub goes_on : GoesOn scope (environment_of design s) at.held at.pending step
  pub effect : tree_effect_of design.actions (next design s i).effect ≡ step.effect
  pub there : IsAt design (next design s i).state p scope (behind s.values (next design s i).state.values step)

-- where it is the process that steps, and something is left
abbrev pub StepsByTrees : Type 0
StepsByTrees = (design : Design) (s : State) (i p : ℕ) (scope : Scope) (at : Standpoint) →
    slice_get (choices s) i ≡ Some (Run p) → at.pending ≢ [] → IsAt design s p scope at → IsTreeStep design s i p scope at

-- in every other step it stays where it is, and hears what it waits for
abbrev pub StaysElse : Type 0
StaysElse = (design : Design) (s : State) (i p : ℕ) (scope : Scope) (at : Standpoint) →
    slice_get (choices s) i ≢ Some (Run p) → IsAt design s p scope at →
    IsAt design (next design s i).state p scope (after_other_step s.values (next design s i).state.values (next design s i).effect.triggered at)

-- it stands somewhere
pub record IsSomewhere (design : Design) (s : State) (p : ℕ) (scope : Scope) : Type 0 where
  pub at : Standpoint
  pub there : IsAt design s p scope at

-- in every state of every run, where it begins before something
abbrev pub StandsThroughout : Type 0
StandsThroughout = (setting : Setting) (p : ℕ) (scope : Scope) (pending : List Pending) (places : List ℕ) (log : List (ℕ × ℕ)) (n : ℕ) →
    slice_get setting.design.processes p ≡ Some places → StandAt scope setting.design.actions pending (frames places []) →
    IsSomewhere setting.design (state_after setting log n) p scope
