-- *product rule*: What a search that goes by rank hands on: the marks of one rank after another, each under the log of a run that
-- reaches it; and of which marks it has handed on all. The rank of a state is the time of a simulation, or another number that no
-- step lowers.
use Rattle.std.specs.Prelude.{◌≡◌, ℕ, ◌<◌, ◌≤◌, List, [], ◌∷◌, ◌++◌, slice_get, map, Option, Some, IfSome}
use Rattle.sched_core.specs.Rules.{Rules}
use Rattle.statebook.specs.Covered.{IsCovered, IsCoveredTo}
use Rattle.statebook.specs.declared.limits.Limits.{Limits}
use Rattle.statebook.specs.Ways.{SomeRunExceeds}
use Rattle.explore.specs.Found.{AllFewest, AreFound, HasEntries, IsListedMark}
use Rattle.explore.specs.declared.rank_marks.FoundMark.{FoundMark}
use Rattle.explore.specs.declared.rank_marks.RankMarks.{RankMarks}
use Rattle.explore.specs.declared.ranked_findings.RankedFindings.{RankedFindings}
use Rattle.explore.specs.declared.ranked_findings.RankedReason.TheVariants.{Entries, Steps, Stopped}
use Rattle.explore.specs.declared.ranked_findings.RankedStatus.TheVariants.{Exhausted, Cut}

-- The marks that were handed on as a rank was closed, each with its log.
pub record Closing (S : Type 0) : Type 0 where
  pub rank : ℕ
  pub marks : List (S × List (ℕ × ℕ))

-- The marks of a list, each with its log.
abbrev pub pairs_of : {S : Type 0} → List (FoundMark S) → List (S × List (ℕ × ℕ))
pairs_of marks = map (λ found. (found.state, found.log)) marks

-- The marks of a rank as they are handed on.
abbrev pub closing_of : {S : Type 0} → RankMarks S → Closing S
closing_of closed = record { rank = closed.rank; marks = pairs_of closed.marks.items }

-- It is so of each closing.
abbrev pub OfEach : {S : Type 0} → List (Closing S) → (Closing S → Type 0) → Type 0
OfEach {S} closings P = (i : ℕ) (c : Closing S) → slice_get closings i ≡ Some c → P c

-- Each mark was handed on under its own rank.
abbrev pub HasItsRank : {S : Type 0} → (S → ℕ) → Closing S → Type 0
HasItsRank {S} rank c = (i : ℕ) (found : S × List (ℕ × ℕ)) → slice_get c.marks i ≡ Some found → rank found.0 ≡ c.rank

-- A state equal to s was handed on, under a log of at most d departures.
abbrev pub WasHandedOn : {S : Type 0} → Rules S → List (Closing S) → S → ℕ → Type 0
WasHandedOn {S} r closings s d = (i : ℕ) × (c : Closing S) × (slice_get closings i ≡ Some c) × IsListedMark r c.marks s d

-- each mark that was handed on is one, under its log
abbrev pub HandsOnFound : {S : Type 0} → Rules S → Limits → List (Closing S) → Type 0
HandsOnFound r limits closings = OfEach closings (λ c. AreFound r limits c.marks)

-- no run at all that reaches it has fewer departures than its log
abbrev pub HandsOnFewest : {S : Type 0} → Rules S → List (Closing S) → Type 0
HandsOnFewest r closings = OfEach closings (λ c. AllFewest r c.marks)

-- every mark of every run within the limit of departures was handed on, of those of rank top and below
abbrev pub HandsOnAllTo : {S : Type 0} → Rules S → Limits → (S → ℕ) → List (Closing S) → ℕ → Type 0
HandsOnAllTo r limits rank closings top = IsCoveredTo r limits.depart rank top (WasHandedOn r closings)

-- Each rank was closed once, a lower one before a higher.
abbrev pub RanksRise : {S : Type 0} → List (Closing S) → Type 0
RanksRise {S} closings = (i j : ℕ) (c d : Closing S) → i < j → slice_get closings i ≡ Some c → slice_get closings j ≡ Some d → c.rank < d.rank

-- None was closed beyond this rank; where there is none, none at all.
abbrev pub NoneBeyond : {S : Type 0} → Option ℕ → List (Closing S) → Type 0
NoneBeyond closed closings = OfEach closings (λ c. (top : ℕ) × (closed ≡ Some top) × (c.rank ≤ top))

-- `Exhausted` is said only where that is so of all marks
abbrev pub HandsOnAll : {S : Type 0} → Rules S → Limits → List (Closing S) → RankedFindings → Type 0
HandsOnAll r limits closings findings = findings.status ≡ Exhausted → IsCovered r limits.depart (WasHandedOn r closings)

-- `Cut(Entries)` is said only where there are so many entries
abbrev pub TellsOfEntries : {S : Type 0} → Rules S → Limits → RankedFindings → Type 0
TellsOfEntries r limits findings = findings.status ≡ Cut Entries → HasEntries r limits

-- `Cut(Steps)` is said only where a run takes more steps
abbrev pub TellsOfSteps : {S : Type 0} → Rules S → Limits → RankedFindings → Type 0
TellsOfSteps r limits findings = findings.status ≡ Cut Steps → SomeRunExceeds r limits

-- `Cut(Stopped)` is said only where the watcher said so
abbrev pub TellsOfStop : Type 0 → RankedFindings → Type 0
TellsOfStop IsStopped findings = findings.status ≡ Cut Stopped → IsStopped

-- The marks of a rank were collected behind whatever was before.
abbrev pub CollectsMore : {C S : Type 0} → (C → List (Closing S) → C → Type 0) → C → Closing S → C → Type 0
CollectsMore {C} {S} collects old closing new = (first : C) (closings : List (Closing S)) → collects first closings old → collects first (closings ++ closing ∷ []) new

-- No more was collected than before.
abbrev pub StaysAs : {C S : Type 0} → (C → List (Closing S) → C → Type 0) → C → C → Type 0
StaysAs {C} {S} collects old new = (first : C) (closings : List (Closing S)) → collects first closings old → collects first closings new

-- What was handed on in the end: closings, rank by rank, of which it is known what collecting them made of the collector.
-- [found] Each mark that was handed on is one, under its log; [ranks] under its own rank. [rise] Each rank was closed once, in
-- rising order, and [last] none beyond `closed`. [fewest] No run at all that reaches a mark has fewer departures than its log.
-- [covered] Every mark of the rank `closed` and below that a run within the limit of departures reaches was handed on, and
-- [exhausted] where the status says so every mark.
pub record HandsOn {S : Type 0} (r : Rules S) (limits : Limits) (rank : S → ℕ) (Collected : List (Closing S) → Type 0) (findings : RankedFindings) : Type 0 where
  pub closings : List (Closing S)
  pub collected : Collected closings
  pub found : HandsOnFound r limits closings
  pub ranks : OfEach closings (HasItsRank rank)
  pub rise : RanksRise closings
  pub last : NoneBeyond findings.closed closings
  pub fewest : HandsOnFewest r closings
  pub covered : IfSome findings.closed (HandsOnAllTo r limits rank closings)
  pub exhausted : HandsOnAll r limits closings findings
