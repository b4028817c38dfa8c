-- *product rule*: Which two statements race (crates/cause/README.md): the first swap of a run and its parent, in the slot of the last step that
-- the log names. Both stand in the same state before that step.
use Rattle.std.specs.Prelude.{◌≡◌, ℕ, suc, ◌+◌, ◌-◌, ◌<◌, if◌then◌else◌, List, [], ◌∷◌, ◌++◌, length, take, Option, Some, None, slice_get}
use Rattle.vdesign.specs.Design.{Design}
use Rattle.sched_core.specs.Rules.{IsRun, NamesBelow}
use Rattle.vmodel.specs.Run.{Setting, rules_of, state_after}
use Rattle.footprints.specs.Visits.{same_visit, visits_to, IsBegin, IsSlot}
use Rattle.cause.specs.Behind.{statement_behind}
use Rattle.footprints.specs.Swaps.{things_in_both, IsFirstSwap, HasNoSwap}
use Rattle.footprints.specs.declared.visit.Visit.{Visit}
use Rattle.cause.specs.declared.cause.Blamed.{Blamed}
use Rattle.cause.specs.declared.cause.Cause.{Cause}

-- the log without its last member
abbrev pub parent_of : List (ℕ × ℕ) → List (ℕ × ℕ)
parent_of log = take (length log - 1) log

-- the step that the last member names
abbrev pub step_named : Option (ℕ × ℕ) → Option ℕ
step_named None = None
step_named (Some member) = Some member.0

abbrev pub last_step : List (ℕ × ℕ) → Option ℕ
last_step log = step_named (slice_get log (length log - 1))

-- the visits of the slot of step s that come before that step
abbrev pub AreEarlier : Setting → List (ℕ × ℕ) → ℕ → List Visit → Type 0
AreEarlier setting log s visits = (b : ℕ) × IsBegin setting log s b × (visits ≡ visits_to setting log b s)

-- the visits of the slot of step s from that step on
abbrev pub AreVisits : Setting → List (ℕ × ℕ) → ℕ → List Visit → Type 0
AreVisits setting log s visits = (n : ℕ) × IsSlot setting log s n × (visits ≡ visits_to setting log s n)

-- the step of the same visit, if it comes
abbrev pub step_in : Visit → List Visit → Option ℕ
step_in v [] = None
step_in v (w ∷ visits) = if same_visit v w then Some w.step else step_in v visits

-- what is told of visit i of one of both runs, its own, which is v; the statement behind it by the visits of the whole slot, those before
-- the step and its own
abbrev pub told_of : Design → List Visit → List Visit → List Visit → List Visit → ℕ → Visit → Blamed
told_of design run parent earlier own i v = record {
  actor = v.actor;
  place = v.place;
  statement = statement_behind design (earlier ++ own) (length earlier + i) v;
  in_run = step_in v run;
  in_parent = step_in v parent;
}

-- what is told of visit i of the run, which is v, and of visit j of the parent, which is w
abbrev pub cause_by : Design → ℕ → List Visit → List Visit → List Visit → List Visit → ℕ → ℕ → Visit → Visit → Cause
cause_by design step run_earlier run parent_earlier parent i j v w = record {
  step = step;
  first = told_of design run parent run_earlier run i v;
  second = told_of design run parent parent_earlier parent j w;
  things = things_in_both run parent v w;
}

-- it tells the first swap of the visits of both runs from the step on, before which these come
pub record IsCauseIn (design : Design) (step : ℕ) (run_earlier run parent_earlier parent : List Visit) (cause : Cause) : Type 0 where
  pub i : ℕ
  pub j : ℕ
  pub is : IsFirstSwap run parent i j
  pub v : Visit
  pub at_i : slice_get run i ≡ Some v
  pub w : Visit
  pub at_j : slice_get parent j ≡ Some w
  pub told : cause ≡ cause_by design step run_earlier run parent_earlier parent i j v w

-- the cause of what the run under the log has, and its parent hasn't
pub record IsCause (setting : Setting) (log : List (ℕ × ℕ)) (cause : Cause) : Type 0 where
  pub named : last_step log ≡ Some cause.step
  pub same : state_after setting log cause.step ≡ state_after setting (parent_of log) cause.step
  pub run_earlier : List Visit
  pub before_run : AreEarlier setting log cause.step run_earlier
  pub run : List Visit
  pub of_run : AreVisits setting log cause.step run
  pub parent_earlier : List Visit
  pub before_parent : AreEarlier setting (parent_of log) cause.step parent_earlier
  pub parent : List Visit
  pub of_parent : AreVisits setting (parent_of log) cause.step parent
  pub is : IsCauseIn setting.design cause.step run_earlier run parent_earlier parent cause

-- the slot doesn't end before so many steps
abbrev pub HasNoSlot : Setting → List (ℕ × ℕ) → ℕ → ℕ → Type 0
HasNoSlot setting log s steps = (n : ℕ) → n < steps → IsSlot setting log s n → ⊥

-- there is no cause where both slots end before so many steps
abbrev pub HasNoCause : Setting → List (ℕ × ℕ) → ℕ → Type 0
HasNoCause setting log steps =
    (s n m : ℕ) → last_step log ≡ Some s → n < steps → IsSlot setting log s n → m < steps → IsSlot setting (parent_of log) s m →
    HasNoSwap (visits_to setting log s n) (visits_to setting (parent_of log) s m)

-- what is told of a log: its cause, or that it has none
abbrev pub IsTold : Setting → List (ℕ × ℕ) → ℕ → Option Cause → Type 0
IsTold setting log steps (Some cause) = IsCause setting log cause
IsTold setting log steps None = HasNoCause setting log steps

-- what is told of the departures of a run, in order, each by the log up to its member: of all of them, unless the run under the log ends
-- before a step that it names
pub record AreCauses (setting : Setting) (log : List (ℕ × ℕ)) (steps : ℕ) (causes : List (Option Cause)) : Type 0 where
  pub each : (k : ℕ) (told : Option Cause) → slice_get causes k ≡ Some told → IsTold setting (take (suc k) log) steps told
  pub whole : (n : ℕ) → IsRun (rules_of setting) log n → NamesBelow log n → length causes ≡ length log
