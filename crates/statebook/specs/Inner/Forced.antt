-- *internal*: What a walk along forced steps comes to.
use Rattle.std.specs.Prelude.{◌≡◌, ℕ, ◌+◌, ◌<◌, ◌≤◌, zero, suc, true, false, List, [], ◌∷◌, ◌++◌, Option, Result, IfOk, IfSome, IfNone}
use Rattle.sched_core.specs.Rules.{Rules}
use Rattle.statebook.specs.ExplorerCore.{IsEntry, budget_after}
use Rattle.statebook.specs.Stations.{is_station, forced_state, IsNextStation}
use Rattle.statebook.specs.declared.entry.Entry.{Entry}
use Rattle.statebook.specs.declared.limits.Limits.{Limits}

-- what an answer says where it has a value, and where it has none
abbrev pub IfReached : {A E : Type 0} → Result (Option A) E → (A → Type 0) → Type 0
IfReached answer P = IfOk answer (λ reached. IfSome reached P)

abbrev pub IfPast : {A E : Type 0} → Result (Option A) E → Type 0 → Type 0
IfPast answer P = IfOk answer (λ reached. IfNone reached P)

-- The state is equal to the opening one.
abbrev pub IsFirst : {S : Type 0} → Rules S → S → Type 0
IsFirst r s = r.same s r.first ≡ true

-- The state stands so many forced steps from s.
abbrev pub IsForced : {S : Type 0} → Rules S → S → ℕ → S → Type 0
IsForced r s n t = r.same t (forced_state r s n) ≡ true

-- The forced way from s comes to t in m steps, and passes no station before.
pub record Passes {S : Type 0} (r : Rules S) (s t : S) (m : ℕ) : Type 0 where
  pub same : r.same t (forced_state r s m) ≡ true
  pub passes : (j : ℕ) → j < m → is_station r (forced_state r s j) ≡ false

-- From s, after some steps, the forced way came to its next station after n steps in all.
pub record ComesTo {S : Type 0} (r : Rules S) (s : S) (taken : ℕ) (t : S) (n : ℕ) : Type 0 where
  pub forced_steps : ℕ
  pub count : n ≡ taken + forced_steps
  pub next : IsNextStation r s forced_steps
  pub same : r.same t (forced_state r s forced_steps) ≡ true

-- The entry is that of the next station after choice c of e.
pub record Follows {S : Type 0} (r : Rules S) (e : Entry S) (c : ℕ) (next : Entry S) : Type 0 where
  pub steps : ℕ
  pub station : IsNextStation r (r.after e.state c) steps
  pub same : r.same next.state (forced_state r (r.after e.state c) steps) ≡ true
  pub budget : next.budget ≡ budget_after e.budget c

-- The entry is one that may be added within the limits.
abbrev pub MayBeAdded : {S : Type 0} → Rules S → Limits → Entry S → Type 0
MayBeAdded r limits e = IsEntry r limits.depart limits.steps e

-- the log of a run that goes on by this choice at this step
abbrev pub log_of : List (ℕ × ℕ) → ℕ → ℕ → List (ℕ × ℕ)
log_of log step zero = log
log_of log step (suc c) = log ++ (step, suc c) ∷ []

-- The run of the next entry is that of e, which goes on by the choice.
pub record GoesOn {S : Type 0} (e : Entry S) (c : ℕ) (next : Entry S) : Type 0 where
  pub log : next.log ≡ log_of e.log e.steps c
  pub later : e.steps ≤ next.steps
