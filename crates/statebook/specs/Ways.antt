-- *product rule*: The ways that an entry's choices lead to, up to the limit of steps. Only `SomeRunExceeds` has to be believed.
use Rattle.std.specs.Prelude.{◌≡◌, ℕ, ◌+◌, ◌<◌, ◌≤◌, false, List, length}
use Rattle.sched_core.specs.Rules.{Rules, IsRun}
use Rattle.statebook.specs.ExplorerCore.{choices_of}
use Rattle.statebook.specs.Stations.{is_station, forced_state}
use Rattle.statebook.specs.declared.entry.Entry.{Entry}
use Rattle.statebook.specs.declared.limits.Limits.{Limits}

-- The entry's budget allows choice c.
abbrev pub Allows : {S : Type 0} → Rules S → Entry S → ℕ → Type 0
Allows r e c = c < choices_of (r.width e.state) e.budget

-- From s, after some steps, the forced way has no station up to the step limit.
abbrev pub GoesPast : {S : Type 0} → Rules S → S → ℕ → ℕ → Type 0
GoesPast r s taken limit = (j : ℕ) → taken + j ≤ limit → is_station r (forced_state r s j) ≡ false

-- So it is after choice c of the entry.
abbrev pub ChoiceGoesPast : {S : Type 0} → Rules S → Limits → Entry S → ℕ → Type 0
ChoiceGoesPast r limits e c = GoesPast r (r.after e.state c) (e.steps + 1) limits.steps

-- Some run within the limit of departures takes more steps than the limit.
pub record SomeRunExceeds {S : Type 0} (r : Rules S) (limits : Limits) : Type 0 where
  pub log : List (ℕ × ℕ)
  pub steps : ℕ
  pub short : length log ≤ limits.depart
  pub run : IsRun r log steps
  pub more : limits.steps < steps
