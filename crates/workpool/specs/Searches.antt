-- *internal*: What workers search for, and what they meet.
use Rattle.std.specs.Prelude.{◌≡◌, ℕ, ◌<◌, true, [], Option, Some}
use Rattle.sched_core.specs.Rules.{Rules}
use Rattle.statebook.specs.ExplorerCore.{IsEntry}
use Rattle.statebook.specs.declared.entry.Entry.{Entry}
use Rattle.statebook.specs.declared.limits.Limits.{Limits}

-- A book's search parameters are those of the runs of these rules within these limits.
pub record AreParametersOf {S : Type 0} (rules : Option (Rules S)) (depart steps : ℕ) (r : Rules S) (limits : Limits) : Type 0 where
  pub rules_are : rules ≡ Some r
  pub depart_is : depart ≡ limits.depart
  pub steps_are : steps ≡ limits.steps

-- The entry is the root's: the opening state, with all departures left, after no step.
pub record IsRootOf {S : Type 0} (r : Rules S) (limits : Limits) (e : Entry S) : Type 0 where
  pub same : r.same e.state r.first ≡ true
  pub budget : e.budget ≡ limits.depart
  pub log : e.log ≡ []
  pub steps : e.steps ≡ 0

-- Some run within the limits comes back to the opening state, as an entry that may be added.
pub record SomeRunComesBack {S : Type 0} (r : Rules S) (limits : Limits) : Type 0 where
  pub entry : Entry S
  pub allowed : IsEntry r limits.depart limits.steps entry
  pub same : r.same entry.state r.first ≡ true
  pub later : 0 < entry.steps
