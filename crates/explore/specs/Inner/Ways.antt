-- *internal*: What an explorer remembers of forced ways, so that ways that join needn't each be walked to the end.
use Rattle.std.specs.Prelude.{◌≡◌, ℕ, ◌+◌, ◌-◌, ◌<◌, ◌≤◌, ◌⊎◌, Bool, true, false, List, length, Option, Some, None, slice_get}
use Rattle.sched_core.specs.Rules.{Rules}
use Rattle.statebook.specs.Stations.{is_station, forced_state}
use Rattle.statebook.specs.declared.entry.Entry.{Entry}
use Rattle.statebook.specs.declared.limits.Limits.{Limits}
use Rattle.statebook.specs.Ways.{ChoiceGoesPast, GoesPast}
use Rattle.statebook.specs.Inner.Forced.{ComesTo}
use Rattle.explore.specs.Inner.Exploring.{IsUnderWay, OfEntry}
use Rattle.explore.specs.declared.halt.Halt.{Halt}
use Rattle.explore.specs.declared.halt.Halt.TheVariants.{Entries, Steps, Stopped}
use Rattle.explore.specs.declared.search.Onward.{Onward}
use Rattle.explore.specs.declared.search.Checkpoint.{Checkpoint}
use Rattle.explore.specs.declared.search.Search.{Search}
use Rattle.explore.specs.declared.ways.TheConstants.{ROOM}
use Rattle.explore.specs.declared.way.Ahead.{Ahead}
use Rattle.explore.specs.declared.way.Ahead.TheVariants.{Station, Past, Unknown}

-- The watcher said that the search is to stop.
abbrev pub IsTold : Type 0 → Halt → Type 0
IsTold IsStopped Entries = ⊥
IsTold IsStopped Steps = ⊥
IsTold IsStopped Stopped = IsStopped

-- From s on there is no station for so many steps; with a place, there is one then, the state of the entry at the place.
abbrev pub LeadsTo : {S : Type 0} → Rules S → List (Entry S) → S → ℕ → Option ℕ → Type 0
LeadsTo {S} r entries s steps (Some place) = (e : Entry S) × (slice_get entries place ≡ Some e) × ComesTo r s 0 e.state steps
LeadsTo r entries s steps None = (j : ℕ) → j < steps → is_station r (forced_state r s j) ≡ false

-- Each remembered state leads where it is said to.
abbrev pub AllLead : {S : Type 0} → Rules S → List (Entry S) → List (S × Onward) → Type 0
AllLead {S} r entries ways = (i : ℕ) (p : S × Onward) → slice_get ways i ≡ Some p → LeadsTo r entries p.0 p.1.steps p.1.station

-- After choice c of the entry at the place the way goes past the step limit.
abbrev pub PastFrom : {S : Type 0} → Rules S → Limits → Search S → ℕ → ℕ → Type 0
PastFrom r limits s place c = OfEntry s.book place (λ e. ChoiceGoesPast r limits e c)

-- With so many more, no more states are remembered than there are entries and room beside.
abbrev pub HasRoomFor : {S : Type 0} → Search S → ℕ → Type 0
HasRoomFor s more = length s.ways.entries + more ≤ length s.book.entries + ROOM

-- What a search is at any time: its book is under way, and what it remembers is so, and not too much.
pub record IsSearching {S : Type 0} (r : Rules S) (limits : Limits) (s : Search S) : Type 0 where
  pub under_way : IsUnderWay r limits s.book
  pub lead : AllLead r s.book.entries s.ways.entries
  pub room : HasRoomFor s 0

-- A state equal to this one is remembered so.
abbrev pub IsKnownAs : {S : Type 0} → (S → S → Bool) → List (S × Onward) → S → Onward → Type 0
IsKnownAs {S} same ways s onward = (i : ℕ) × (p : S × Onward) × (slice_get ways i ≡ Some p) × (same s p.0 ≡ true) × (p.1 ≡ onward)

-- No state equal to this one is remembered.
abbrev pub IsUnknown : {S : Type 0} → (S → S → Bool) → List (S × Onward) → S → Type 0
IsUnknown {S} same ways s = (i : ℕ) (p : S × Onward) → slice_get ways i ≡ Some p → same s p.0 ≡ false

-- Something is remembered of a state equal to this one.
abbrev pub IsKnown : {S : Type 0} → (S → S → Bool) → List (S × Onward) → S → Type 0
IsKnown same ways s = (onward : Onward) × IsKnownAs same ways s onward

-- Something is remembered of each checkpoint's state.
abbrev pub AreKnown : {S : Type 0} → (S → S → Bool) → List (Checkpoint S) → List (S × Onward) → Type 0
AreKnown {S} same checkpoints ways = (i : ℕ) (l : Checkpoint S) → slice_get checkpoints i ≡ Some l → IsKnown same ways l.state

-- From each checkpoint the way comes to t, after n steps in all.
abbrev pub AllCome : {S : Type 0} → Rules S → List (Checkpoint S) → S → ℕ → Type 0
AllCome {S} r checkpoints t n = (i : ℕ) (l : Checkpoint S) → slice_get checkpoints i ≡ Some l → ComesTo r l.state l.taken t n

-- From each checkpoint the way comes to the entry, after its steps in all.
abbrev pub AllComeTo : {S : Type 0} → Rules S → List (Checkpoint S) → Entry S → Type 0
AllComeTo r checkpoints e = AllCome r checkpoints e.state e.steps

-- The checkpoint is within the limit of steps, and no station stands on the way from it up to that limit.
abbrev pub CheckpointGoesPast : {S : Type 0} → Rules S → Limits → Checkpoint S → Type 0
CheckpointGoesPast r limits l = (l.taken ≤ limits.steps) × GoesPast r l.state l.taken limits.steps

-- Each checkpoint is within the limit of steps, and no station stands on the way from it up to that limit.
abbrev pub AllGoPast : {S : Type 0} → Rules S → List (Checkpoint S) → Limits → Type 0
AllGoPast {S} r checkpoints limits = (i : ℕ) (l : Checkpoint S) → slice_get checkpoints i ≡ Some l → CheckpointGoesPast r limits l

-- No checkpoint stands behind so many steps.
abbrev pub AllBefore : {S : Type 0} → List (Checkpoint S) → ℕ → Type 0
AllBefore {S} checkpoints end = (i : ℕ) (l : Checkpoint S) → slice_get checkpoints i ≡ Some l → l.taken ≤ end

-- What is known ahead of s, after n steps: the station that t is now, that there is none up to the limit, or nothing, and then t is s.
abbrev pub IsAhead : {S : Type 0} → Rules S → S → ℕ → Limits → S → Ahead → Type 0
IsAhead r s n limits t (Station reached) = ComesTo r s n t reached × (reached ≤ limits.steps)
IsAhead r s n limits t Past = GoesPast r s n limits.steps
IsAhead r s n limits t Unknown = t ≡ s

-- What is remembered of the state is of a checkpoint that is equal, and leads on to the end.
pub record IsOfCheckpoint {S : Type 0} (same : S → S → Bool) (checkpoints : List (Checkpoint S)) (end : ℕ) (station : Option ℕ) (known : S × Onward) : Type 0 where
  pub place : ℕ
  pub checkpoint : Checkpoint S
  pub at : slice_get checkpoints place ≡ Some checkpoint
  pub equal : same checkpoint.state known.0 ≡ true
  pub onward : known.1 ≡ record { steps = end - checkpoint.taken; station = station }

-- It was remembered before, or is of a checkpoint.
abbrev pub IsOldOrOfCheckpoint : {S : Type 0} → (S → S → Bool) → List (S × Onward) → List (Checkpoint S) → ℕ → Option ℕ → S × Onward → Type 0
IsOldOrOfCheckpoint same old checkpoints end station p = ((j : ℕ) × (slice_get old j ≡ Some p)) ⊎ IsOfCheckpoint same checkpoints end station p

-- So it is of all that is remembered.
abbrev pub AreRemembered : {S : Type 0} → (S → S → Bool) → List (S × Onward) → List (Checkpoint S) → ℕ → Option ℕ → List (S × Onward) → Type 0
AreRemembered {S} same old checkpoints end station new =
    (i : ℕ) (p : S × Onward) → slice_get new i ≡ Some p → IsOldOrOfCheckpoint same old checkpoints end station p

-- The search remembers nothing more.
abbrev pub RemembersNoMore : {S : Type 0} → (S → S → Bool) → Search S → List (Checkpoint S) → ℕ → Option ℕ → Search S → Type 0
RemembersNoMore same old checkpoints end station new = AreRemembered same old.ways.entries checkpoints end station new.ways.entries

-- With room for all, something is remembered of each checkpoint.
abbrev pub RemembersAll : {S : Type 0} → (S → S → Bool) → Search S → List (Checkpoint S) → Search S → Type 0
RemembersAll same old checkpoints new = HasRoomFor old (length checkpoints) → AreKnown same checkpoints new.ways.entries
