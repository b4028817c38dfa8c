-- *product rule*: The explorer's core: a pure machine that knows no hash, no lock and no order of work. Only `IsEntry` has to be
-- believed.
use Rattle.std.specs.Prelude.{◌≡◌, ℕ, ◌+◌, ◌-◌, ◌<◌, ◌≤◌, ◌==◌, zero, suc, min, Bool, true, false, if◌then◌else◌, List, [], ◌∷◌, ◌++◌, length, replicate, Contains, slice_get, slice_set, slice_index, unwrap_or, Some, None}
use Rattle.sched_core.specs.Logs.{IsLog}
use Rattle.sched_core.specs.Rules.{Rules, stands, IsRun, NamesBelow}
use Rattle.statebook.specs.Stations.{is_station, forced_state, IsNextStation}
use Rattle.statebook.specs.Books.{Book, Dominates, no_entries, add, finish}
use Rattle.statebook.specs.declared.entry.Entry.{Entry}

-- What may be added, whatever stands in the book: the run under the entry's log is lawful for so many
-- steps as the entry says, no more than the limit, and has come to the entry's state, which is a station;
-- the log, each of whose members is a departure, names nothing later; budget and departures are k together.
pub record IsEntry {S : Type 0} (r : Rules S) (k limit : ℕ) (e : Entry S) : Type 0 where
  pub run : IsRun r e.log e.steps
  pub at : r.same e.state (stands r e.log e.steps) ≡ true
  pub station : is_station r e.state ≡ true
  pub within : e.steps ≤ limit
  pub log : IsLog e.log
  pub names : NamesBelow e.log e.steps
  pub budget : e.budget + length e.log ≡ k

-- how many choices the budget allows: choice 0, and the others where a departure is left
abbrev pub choices_of : ℕ → ℕ → ℕ
choices_of width zero = min 1 width
choices_of width (suc b) = width

-- the budget after a choice: less 1 where it departs
abbrev pub budget_after : ℕ → ℕ → ℕ
budget_after b zero = b
budget_after b (suc c) = b - 1

-- The entry at place j dominates the next station after choice c of e.
pub record IsSuccessorAt {S : Type 0} (r : Rules S) (entries : List (Entry S)) (e : Entry S) (c j : ℕ) : Type 0 where
  pub found : Entry S
  pub at : slice_get entries j ≡ Some found
  pub steps : ℕ
  pub next : IsNextStation r (r.after e.state c) steps
  pub dominates : Dominates r.same found (forced_state r (r.after e.state c) steps) (budget_after e.budget c)

-- Finish, save that i isn't finished: one place for each choice that the budget allows, in order.
pub record HasSuccessorsAt {S : Type 0} (r : Rules S) (entries : List (Entry S)) (i : ℕ) (places : List ℕ) : Type 0 where
  pub entry : Entry S
  pub at : slice_get entries i ≡ Some entry
  pub count : length places ≡ choices_of (r.width entry.state) entry.budget
  pub met : (c j : ℕ) → slice_get places c ≡ Some j → IsSuccessorAt r entries entry c j

-- The book, the jobs of each worker, what each seat has counted, and the stop mark.
pub record Core (S : Type 0) : Type 0 where
  pub book : Book S
  pub jobs : List (List ℕ)
  pub opens : List ℕ
  pub shuts : List ℕ
  pub stopped : Bool

pub data Event (S : Type 0) : Type 0 where
  Add : Entry S → Event S
  Finish : (place : ℕ) (places : List ℕ) → Event S
  Give : (worker job : ℕ) → Event S
  Take : (worker job : ℕ) → Event S
  Open : (seat : ℕ) → Event S
  Shut : (seat : ℕ) → Event S
  Stop : Event S

abbrev pub without : List ℕ → ℕ → List ℕ
without [] job = []
without (x ∷ xs) job = if x == job then xs else x ∷ without xs job

abbrev pub jobs_of : List (List ℕ) → ℕ → List ℕ
jobs_of jobs worker = unwrap_or (slice_get jobs worker) []

-- what an event changes: Add puts an entry last, Finish sets a list, the other five change no entry
abbrev pub happens : {S : Type 0} → Core S → Event S → Core S
happens w (Add e) = record w { book = add w.book e }
happens w (Finish i places) = record w { book = finish w.book i places }
happens w (Give worker job) = record w { jobs = slice_set w.jobs worker (jobs_of w.jobs worker ++ job ∷ []) }
happens w (Take worker job) = record w { jobs = slice_set w.jobs worker (without (jobs_of w.jobs worker) job) }
happens w (Open seat) = record w { opens = slice_set w.opens seat (slice_index w.opens seat + 1) }
happens w (Shut seat) = record w { shuts = slice_set w.shuts seat (slice_index w.shuts seat + 1) }
happens w Stop = record w { stopped = true }

-- when an event may happen, dominance in Add aside
abbrev pub IsAllowed : {S : Type 0} → Rules S → ℕ → ℕ → Core S → Event S → Type 0
IsAllowed r k limit w (Add e) = IsEntry r k limit e
IsAllowed r k limit w (Finish i places) = (slice_get w.book.finished i ≡ Some None) × HasSuccessorsAt r w.book.entries i places
IsAllowed r k limit w (Give worker job) = worker < length w.jobs
IsAllowed r k limit w (Take worker job) = Contains (jobs_of w.jobs worker) job
IsAllowed r k limit w (Open seat) = seat < length w.opens
IsAllowed r k limit w (Shut seat) = seat < length w.shuts
IsAllowed r k limit w Stop = Unit {0}

-- each event of the list may happen after those before it
abbrev pub AreAllowed : {S : Type 0} → Rules S → ℕ → ℕ → Core S → List (Event S) → Type 0
AreAllowed r k limit w [] = Unit {0}
AreAllowed r k limit w (e ∷ es) = IsAllowed r k limit w e × AreAllowed r k limit (happens w e) es

-- the core after the events
abbrev pub after_all : {S : Type 0} → Core S → List (Event S) → Core S
after_all w [] = w
after_all w (e ∷ es) = after_all (happens w e) es

-- no entry, no job, nothing counted
abbrev pub empty : {S : Type 0} → ℕ → ℕ → Core S
empty workers seats = record {
  book = no_entries;
  jobs = replicate workers [];
  opens = replicate seats 0;
  shuts = replicate seats 0;
  stopped = false;
}

-- Some list of events, allowed from the empty core on, leads to the book.
pub record IsReached {S : Type 0} (r : Rules S) (k limit : ℕ) (b : Book S) : Type 0 where
  pub workers : ℕ
  pub seats : ℕ
  pub events : List (Event S)
  pub allowed : AreAllowed r k limit (empty workers seats) events
  pub leads : (after_all (empty workers seats) events).book ≡ b

-- The entries list the state, or one equal to it, under a log of at most d departures.
pub record IsListed {S : Type 0} (r : Rules S) (entries : List (Entry S)) (s : S) (d : ℕ) : Type 0 where
  pub place : ℕ
  pub entry : Entry S
  pub at : slice_get entries place ≡ Some entry
  pub same : r.same entry.state s ≡ true
  pub departures : length entry.log ≤ d

-- What every allowed list of events keeps: each entry is one that Add allows, and each finished
-- one has met what Finish asks.
pub record IsSound {S : Type 0} (r : Rules S) (k limit : ℕ) (b : Book S) : Type 0 where
  pub entry : (i : ℕ) (e : Entry S) → slice_get b.entries i ≡ Some e → IsEntry r k limit e
  pub met : (i : ℕ) (places : List ℕ) → slice_get b.finished i ≡ Some (Some places) → HasSuccessorsAt r b.entries i places
