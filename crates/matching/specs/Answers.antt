-- *product rule*: What an answer says of the runs of a space and of what a reference showed.
use Rattle.std.specs.Prelude.{◌≡◌, ℕ, ◌-◌, ◌<◌, ◌≤◌, ◌⊎◌, suc, true, List, [], ◌∷◌, ◌++◌, length, slice_get, Option}
use Rattle.std.specs.Prelude.{Some, None, IfSome}
use Rattle.sched_core.specs.Rules.{Rules, stands, IsRun, NamesBelow}
use Rattle.explore.specs.declared.ranked_findings.RankedReason.TheVariants.{Entries, Steps, Stopped}
use Rattle.statebook.specs.declared.limits.Limits.{Limits}
use Rattle.matching.specs.Explained.{Piece, differ_at, latest_time, departures_within, IsAtEnd, IsExplained, NoEndWithin}
use Rattle.matching.specs.Slots.{IsFull, IsTooLong}
use Rattle.matching.specs.declared.answer.Explanation.{Explanation}
use Rattle.matching.specs.declared.answer.Unexplained.{Unexplained as UnexplainedAt}
use Rattle.matching.specs.declared.answer.Cut.{Cut as CutShort}
use Rattle.matching.specs.declared.answer.Matching.{Matching}
use Rattle.matching.specs.declared.answer.Matching.TheVariants.{Explained, Unexplained, Cut}

-- what an answer says of each kind
abbrev pub IfExplained : {S : Type 0} → Matching S → (Explanation S → Type 0) → Type 0
IfExplained (Explained e) P = P e
IfExplained (Unexplained u) P = Unit {0}
IfExplained (Cut c) P = Unit {0}

abbrev pub IfUnexplained : {S : Type 0} → Matching S → (UnexplainedAt S → Type 0) → Type 0
IfUnexplained (Explained e) P = Unit {0}
IfUnexplained (Unexplained u) P = P u
IfUnexplained (Cut c) P = Unit {0}

abbrev pub IfCut : {S : Type 0} → Matching S → (CutShort → Type 0) → Type 0
IfCut (Explained e) P = Unit {0}
IfCut (Unexplained u) P = Unit {0}
IfCut (Cut c) P = P c

-- The next piece, if there is one, is later than the time.
abbrev pub IsLater : Option ℕ → ℕ → Type 0
IsLater next v = (t : ℕ) → next ≡ Some t → v < t

-- Some run is explained up to the time.
pub record SomeIsExplained {S : Type 0} (r : Rules S) (rank : S → ℕ) (shown : ℕ → S → ℕ) (most upto : ℕ) : Type 0 where
  pub log : List (ℕ × ℕ)
  pub steps : ℕ
  pub explained : IsExplained r rank shown most upto log steps

-- The reference was read to its end. The run under the log is explained up to the last time of a piece, and no other that is has fewer
-- departures.
pub record Explains {S : Type 0} (r : Rules S) (rank : S → ℕ) (most : ℕ) (first : Piece S) (Reads : List (Piece S) → Type 0)
    (Done : Type 0) (e : Explanation S) : Type 0 where
  pub pieces : List (Piece S)
  pub read : Reads pieces
  pub done : Done
  pub explained : IsExplained r rank (differ_at first pieces) most (latest_time (rank r.first) pieces) e.log e.steps
  pub state : r.same e.state (stands r e.log e.steps) ≡ true
  pub fewest : (log : List (ℕ × ℕ)) (k : ℕ) →
      IsExplained r rank (differ_at first pieces) most (latest_time (rank r.first) pieces) log k → length e.log ≤ length log

-- The run under the log shows what is shown at each time before this one. It stands at the end of a slot that has begun by then, and no
-- slot has more departures than `most`.
pub record ComesNear {S : Type 0} (r : Rules S) (rank : S → ℕ) (shown : ℕ → S → ℕ) (most time : ℕ)
    (log : List (ℕ × ℕ)) (k : ℕ) : Type 0 where
  pub run : IsRun r log k
  pub names : NamesBelow log k
  pub mark : r.mark (stands r log k) ≡ true
  pub begun : rank (stands r log k) ≤ time
  pub fits : (j v : ℕ) → IsAtEnd r rank log k j v → v < time → shown v (stands r log j) ≡ 0
  pub few : (i j : ℕ) → i ≤ j → j ≤ k → NoEndWithin r log i j → departures_within log i j ≤ most

-- So does a run, and it stands at the state.
abbrev pub IsNearRun : {S : Type 0} → Rules S → (S → ℕ) → (ℕ → S → ℕ) → ℕ → ℕ → Explanation S → Type 0
IsNearRun r rank shown most time e = ComesNear r rank shown most time e.log e.steps × (r.same e.state (stands r e.log e.steps) ≡ true)

-- No run at all is explained up to the time. All pieces up to it were read, `next` is the time of the one that isn't, and none was read
-- beyond it; where none is left, it is the time of the last one, or that at which runs open. It is the time at which runs open, or some run is
-- explained up to the time before. The nearest is a run
-- that shows what is shown before the time, with few departures in each slot.
pub record Refutes {S : Type 0} (r : Rules S) (rank : S → ℕ) (most : ℕ) (first : Piece S) (Reads : List (Piece S) → Type 0)
    (next : Option ℕ) (u : UnexplainedAt S) : Type 0 where
  pub pieces : List (Piece S)
  pub read : Reads pieces
  pub unexplained : (log : List (ℕ × ℕ)) (k : ℕ) → IsExplained r rank (differ_at first pieces) most u.time log k → ⊥
  pub read_to : latest_time (rank r.first) pieces ≤ u.time
  pub ahead : IsLater next u.time
  pub ended : next ≡ None → u.time ≡ latest_time (rank r.first) pieces
  pub reached : (u.time ≡ rank r.first) ⊎ SomeIsExplained r rank (differ_at first pieces) most (u.time - 1)
  pub nearest : IfSome u.nearest (IsNearRun r rank (differ_at first pieces) most u.time)

-- All of these pieces but the last, if they are any, had come by the time.
abbrev pub HaveComeButLast : {S : Type 0} → List (Piece S) → ℕ → Type 0
HaveComeButLast {S} pieces v = (i : ℕ) (p : Piece S) → slice_get pieces i ≡ Some p → suc i < length pieces → p.from ≤ v

-- Up to the time that was closed some run is explained, and all pieces up to it were read, and at most one behind it; `next` is the time of
-- the one that isn't. Where no time was closed none was read behind the time at which runs open.
pub record ClosesTo {S : Type 0} (r : Rules S) (rank : S → ℕ) (most : ℕ) (first : Piece S) (Reads : List (Piece S) → Type 0)
    (next : Option ℕ) (c : CutShort) : Type 0 where
  pub pieces : List (Piece S)
  pub read : Reads pieces
  pub closed : IfSome c.closed (SomeIsExplained r rank (differ_at first pieces) most)
  pub ahead : IfSome c.closed (IsLater next)
  pub read_to : IfSome c.closed (HaveComeButLast pieces)
  pub unread : c.closed ≡ None → latest_time (rank r.first) pieces ≤ rank r.first

-- that a limit was met is said only where it was
abbrev pub TellsOfEntries : {S : Type 0} → Rules S → Limits → CutShort → Type 0
TellsOfEntries r limits c = c.reason ≡ Entries → IsFull r limits

abbrev pub TellsOfSteps : {S : Type 0} → Rules S → Limits → CutShort → Type 0
TellsOfSteps r limits c = c.reason ≡ Steps → IsTooLong r limits

-- that it was stopped is said only where the watcher said so
abbrev pub TellsOfStop : Type 0 → CutShort → Type 0
TellsOfStop IsStopped c = c.reason ≡ Stopped → IsStopped

-- A further piece was read behind whatever was before.
abbrev pub ReadsMore : {R S : Type 0} → (R → List (Piece S) → R → Type 0) → R → Piece S → R → Type 0
ReadsMore {R} {S} reads old p new = (first : R) (pieces : List (Piece S)) → reads first pieces old →
    reads first (pieces ++ p ∷ []) new

-- States that are equal differ in as many.
abbrev pub DiffersAlike : {S : Type 0} → (S → S → Type 0) → Piece S → Type 0
DiffersAlike {S} Same p = (s t : S) → Same s t → p.differ s ≡ p.differ t
