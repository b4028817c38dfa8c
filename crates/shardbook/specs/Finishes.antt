-- *internal*: What is asked of an entry that is to be finished.
use Rattle.std.specs.Prelude.{◌≡◌, ℕ, List, length, slice_get, Option, Some}
use Rattle.sched_core.specs.Rules.{Rules}
use Rattle.statebook.specs.Books.{Dominates}
use Rattle.statebook.specs.ExplorerCore.{budget_after, choices_of}
use Rattle.statebook.specs.Stations.{forced_state, IsNextStation}
use Rattle.statebook.specs.declared.entry.Entry.{Entry}

-- The entry that was found dominates the next station after choice c of e.
pub record IsSuccessor {S : Type 0} (r : Rules S) (e : Entry S) (c : ℕ) (found : Entry S) : Type 0 where
  pub steps : ℕ
  pub next : IsNextStation r (r.after e.state c) steps
  pub dominates : Dominates r.same found (forced_state r (r.after e.state c) steps) (budget_after e.budget c)

-- One entry was found for each choice that the budget allows, in order.
pub record HasAllSuccessors {S : Type 0} (r : Rules S) (e : Entry S) (found : List (Entry S)) : Type 0 where
  pub count : length found ≡ choices_of (r.width e.state) e.budget
  pub met : (c : ℕ) (f : Entry S) → slice_get found c ≡ Some f → IsSuccessor r e c f

-- So it is by the rules, if they are known.
abbrev pub HasSuccessors : {S : Type 0} → Option (Rules S) → Entry S → List (Entry S) → Type 0
HasSuccessors {S} rules e found = (r : Rules S) → rules ≡ Some r → HasAllSuccessors r e found
