-- *internal*: What a search that goes by rank keeps, and what it leaves behind.
use Rattle.std.specs.Prelude.{◌≡◌, ◌≢◌, ℕ, ◌<◌, ◌≤◌, ◌⊎◌, Bool, true, false, List, length, slice_get, insert, Option, Some, IfSome}
use Rattle.sched_core.specs.Rules.{Rules, stands, IsRun}
use Rattle.statebook.specs.Books.{Dominates}
use Rattle.statebook.specs.Covered.{IsCovered}
use Rattle.statebook.specs.declared.entry.Entry.{Entry}
use Rattle.statebook.specs.declared.limits.Limits.{Limits}
use Rattle.statebook.specs.Ways.{SomeRunExceeds}
use Rattle.statebook.specs.Inner.Forced.{MayBeAdded}
use Rattle.statebook.specs.Inner.Frontiers.{HasSuccessorIn, IsFrontier, LeadsInto}
use Rattle.explore.specs.Found.{Differ, HasEntries}
use Rattle.explore.specs.Ranked.{Closing, HandsOnAllTo, HandsOnFewest, HandsOnFound, HasItsRank, NoneBeyond, OfEach, RanksRise, WasHandedOn}
use Rattle.explore.specs.Inner.Exploring.{BookGrows, EachWith, IsSameOrAdded, OfEntry}
use Rattle.explore.specs.Inner.Ways.{IsSearching}
use Rattle.explore.specs.declared.halt.Halt.{Halt}
use Rattle.explore.specs.declared.halt.Halt.TheVariants.{Entries, Steps, Stopped}
use Rattle.explore.specs.declared.rank_book.RankBook.{RankBook}
use Rattle.explore.specs.declared.ranked_search.RankedSearch.{RankedSearch}

-- The entry is in the list.
abbrev pub IsIn : {S : Type 0} → List (Entry S) → Entry S → Type 0
IsIn entries e = (i : ℕ) × (slice_get entries i ≡ Some e)

-- The entry is in a book of the list.
abbrev pub IsWaiting : {S : Type 0} → List (RankBook S) → Entry S → Type 0
IsWaiting {S} later e = (i : ℕ) × (b : RankBook S) × (slice_get later i ≡ Some b) × IsIn b.book.entries e

-- So it is in a book of this rank.
abbrev pub IsWaitingAt : {S : Type 0} → List (RankBook S) → ℕ → Entry S → Type 0
IsWaitingAt {S} later rank e = (i : ℕ) × (b : RankBook S) × (slice_get later i ≡ Some b) × (b.rank ≡ rank) × IsIn b.book.entries e

-- No entry of the list dominates this one.
abbrev pub HasNone : {S : Type 0} → (S → S → Bool) → (Entry S → Type 0) → Entry S → Type 0
HasNone {S} same In entry = (f : Entry S) → In f → ¬ Dominates same f entry.state entry.budget

-- An entry of the set dominates this one.
pub record HasDominator {S : Type 0} (same : S → S → Bool) (In : Entry S → Type 0) (entry : Entry S) : Type 0 where
  pub found : Entry S
  pub inside : In found
  pub dominates : Dominates same found entry.state entry.budget

-- The book of a rank met the entry. Where it is new, no entry of the book dominated it, and now it is one of them.
pub record Opens {S : Type 0} (same : S → S → Bool) (old : RankBook S) (entry : Entry S) (new : RankBook S) (is_new : Bool) : Type 0 where
  pub rank : new.rank ≡ old.rank
  pub grown : IsSameOrAdded old.book entry new.book
  pub dominated : HasDominator same (IsIn new.book.entries) entry
  pub none : is_new ≡ true → HasNone same (IsIn old.book.entries) entry
  pub there : is_new ≡ true → IsIn new.book.entries entry

-- The books before the place have higher ranks than this one.
abbrev pub AreAfter : {S : Type 0} → List (RankBook S) → ℕ → ℕ → Type 0
AreAfter {S} later place rank = (i : ℕ) (b : RankBook S) → i < place → slice_get later i ≡ Some b → rank < b.rank

-- The book at the place has this rank or a lower one.
abbrev pub AreFrom : {S : Type 0} → List (RankBook S) → ℕ → ℕ → Type 0
AreFrom {S} later place rank = (b : RankBook S) → slice_get later place ≡ Some b → b.rank ≤ rank

-- The book at the place has this rank, or has not.
abbrev pub IsRankAt : {S : Type 0} → List (RankBook S) → ℕ → ℕ → Type 0
IsRankAt {S} later place rank = (b : RankBook S) × (slice_get later place ≡ Some b) × (b.rank ≡ rank)

abbrev pub IsNoRankAt : {S : Type 0} → List (RankBook S) → ℕ → ℕ → Type 0
IsNoRankAt {S} later place rank = (b : RankBook S) → slice_get later place ≡ Some b → b.rank ≢ rank

-- Ranks fall from book to book.
abbrev pub AreInOrder : {S : Type 0} → List (RankBook S) → Type 0
AreInOrder {S} later = (i j : ℕ) (b c : RankBook S) → i < j → slice_get later i ≡ Some b → slice_get later j ≡ Some c → c.rank < b.rank

-- A book of the rank that has the entry alone was put in at the place.
pub record KeepsAt {S : Type 0} (same : S → S → Bool) (old : List (RankBook S)) (place rank : ℕ) (entry : Entry S) (new : List (RankBook S)) (is_new : Bool) : Type 0 where
  pub book : RankBook S
  pub items : new ≡ insert old place book
  pub of_rank : book.rank ≡ rank
  pub alone : (f : Entry S) → IsIn book.book.entries f → f ≡ entry
  pub dominated : HasDominator same (IsIn book.book.entries) entry
  pub there : is_new ≡ true → IsIn book.book.entries entry

-- The book is an old one, or is of this rank, and has the entry beside those that waited there.
abbrev pub IsFromBook : {S : Type 0} → List (RankBook S) → ℕ → Entry S → RankBook S → Type 0
IsFromBook {S} old rank entry b = ((j : ℕ) × (slice_get old j ≡ Some b)) ⊎ ((b.rank ≡ rank) × ((e : Entry S) → IsIn b.book.entries e → (e ≡ entry) ⊎ IsWaitingAt old rank e))

-- The books met the entry of this rank.
pub record Keeps {S : Type 0} (same : S → S → Bool) (old : List (RankBook S)) (rank : ℕ) (entry : Entry S) (new : List (RankBook S)) (is_new : Bool) : Type 0 where
  pub order : AreInOrder new
  pub stays : (e : Entry S) → IsWaiting old e → IsWaiting new e
  pub from : (i : ℕ) (b : RankBook S) → slice_get new i ≡ Some b → IsFromBook old rank entry b
  pub dominated : HasDominator same (IsWaiting new) entry
  pub none : is_new ≡ true → HasNone same (IsWaitingAt old rank) entry
  pub there : is_new ≡ true → IsWaiting new entry

-- A mark of the rank was met, or of a later rank: the rank's book met the entry, and what waits stays; or the other way round.
abbrev pub Meets : {S : Type 0} → (S → S → Bool) → ℕ → RankBook S → List (RankBook S) → Entry S → RankBook S → List (RankBook S) → Bool → Type 0
Meets same rank current later entry new_current new_later is_new =
    ((rank ≡ current.rank) × Opens same current entry new_current is_new × (new_later ≡ later)) ⊎ ((rank ≢ current.rank) × Keeps same later rank entry new_later is_new × (new_current ≡ current))

-- The entry is of the rank under way, or waits.
abbrev pub AreHeld : {S : Type 0} → RankBook S → List (RankBook S) → Entry S → Type 0
AreHeld current later e = IsIn current.book.entries e ⊎ IsWaiting later e

abbrev pub IsHeld : {S : Type 0} → RankedSearch S → Entry S → Type 0
IsHeld s = AreHeld s.current s.later.items

-- Each entry of the book may be added, and has its rank.
abbrev pub IsOfRank : {S : Type 0} → Rules S → Limits → (S → ℕ) → RankBook S → Type 0
IsOfRank {S} r limits rank b = (e : Entry S) → IsIn b.book.entries e → MayBeAdded r limits e × (rank e.state ≡ b.rank)

-- Each book is of its rank, ranks fall from book to book, down to one above that of the book under way; and their entries are a frontier.
pub record IsAFrontier {S : Type 0} (r : Rules S) (limits : Limits) (rank : S → ℕ) (now : RankBook S) (waiting : List (RankBook S)) : Type 0 where
  pub current : IsOfRank r limits rank now
  pub later : (i : ℕ) (b : RankBook S) → slice_get waiting i ≡ Some b → IsOfRank r limits rank b
  pub above : (i : ℕ) (b : RankBook S) → slice_get waiting i ≡ Some b → now.rank < b.rank
  pub order : AreInOrder waiting
  pub frontier : IsFrontier r limits.depart rank now.rank (AreHeld now waiting)

-- These entries were opened, no fewer than were counted: they may be added, no two are alike, and those of the rank under way and of
-- later ones are held.
pub record HasOpened {S : Type 0} (r : Rules S) (limits : Limits) (rank : S → ℕ) (s : RankedSearch S) (seen : List (Entry S)) : Type 0 where
  pub count : s.opened ≤ length seen
  pub allowed : (i : ℕ) (e : Entry S) → slice_get seen i ≡ Some e → MayBeAdded r limits e
  pub differ : (i j : ℕ) (e f : Entry S) → i < j → slice_get seen i ≡ Some e → slice_get seen j ≡ Some f → Differ r e f
  pub held : (i : ℕ) (e : Entry S) → slice_get seen i ≡ Some e → s.current.rank ≤ rank e.state → IsHeld s e

abbrev pub HasOpenedSome : {S : Type 0} → Rules S → Limits → (S → ℕ) → RankedSearch S → Type 0
HasOpenedSome {S} r limits rank s = (seen : List (Entry S)) × HasOpened r limits rank s seen

-- What a search that goes by rank is at any time.
pub record IsRankedSearch {S : Type 0} (r : Rules S) (limits : Limits) (rank : S → ℕ) (s : RankedSearch S) : Type 0 where
  pub known : IsSearching r limits s.known
  pub held : IsAFrontier r limits rank s.current s.later.items
  pub opened : HasOpenedSome r limits rank s

-- It grew: what was held is held, and what was added to the book of the rank has at most this budget.
pub record RankGrows {S : Type 0} (old new : RankedSearch S) (budget : ℕ) : Type 0 where
  pub current : BookGrows old.current.book new.current.book budget
  pub held : (e : Entry S) → IsHeld old e → IsHeld new e
  pub rank : new.current.rank ≡ old.current.rank

-- It grew so by the choices of the entry at the place.
abbrev pub RankGrowsFrom : {S : Type 0} → RankedSearch S → RankedSearch S → ℕ → Type 0
RankGrowsFrom old new place = OfEntry old.current.book place (λ e. RankGrows old new e.budget)

-- After choice c of the entry at the place, an entry that is held dominates the next station.
abbrev pub IsMetAt : {S : Type 0} → Rules S → RankedSearch S → ℕ → ℕ → Type 0
IsMetAt r s place c = OfEntry s.current.book place (λ e. HasSuccessorIn r (IsHeld s) e c)

-- So it is after each choice that the entry's budget allows.
pub record IsLedOn {S : Type 0} (r : Rules S) (s : RankedSearch S) (place : ℕ) : Type 0 where
  pub entry : Entry S
  pub at : slice_get s.current.book.entries place ≡ Some entry
  pub leads : LeadsInto r (IsHeld s) entry

-- So it is of each entry of the rank with just this budget, or of each.
abbrev pub AreLedOnWith : {S : Type 0} → Rules S → RankedSearch S → ℕ → Type 0
AreLedOnWith r s budget = EachWith s.current.book budget (IsLedOn r s)

abbrev pub AllAreLedOn : {S : Type 0} → Rules S → RankedSearch S → Type 0
AllAreLedOn {S} r s = (i : ℕ) (e : Entry S) → slice_get s.current.book.entries i ≡ Some e → IsLedOn r s i

-- Why a search stops short: there are so many entries, some run takes more steps, or it was told to stop.
abbrev pub IsWhy : {S : Type 0} → Rules S → Limits → Type 0 → Halt → Type 0
IsWhy r limits IsTold Entries = HasEntries r limits
IsWhy r limits IsTold Steps = SomeRunExceeds r limits
IsWhy r limits IsTold Stopped = IsTold

-- No run of at most k departures comes to a mark of a rank above the one and below the other.
abbrev pub NoneBetween : {S : Type 0} → Rules S → ℕ → (S → ℕ) → ℕ → ℕ → Type 0
NoneBetween r k rank least above =
    (log : List (ℕ × ℕ)) (n : ℕ) → length log ≤ k → IsRun r log n → r.mark (stands r log n) ≡ true → least < rank (stands r log n) → above ≤ rank (stands r log n)

-- No run of at most k departures comes to a mark of a rank above this one.
abbrev pub NoneAbove : {S : Type 0} → Rules S → ℕ → (S → ℕ) → ℕ → Type 0
NoneAbove r k rank least = (log : List (ℕ × ℕ)) (n : ℕ) → length log ≤ k → IsRun r log n → r.mark (stands r log n) ≡ true → rank (stands r log n) ≤ least

-- No run comes to a rank below this one.
abbrev pub NoneBelow : {S : Type 0} → Rules S → (S → ℕ) → ℕ → Type 0
NoneBelow r rank least = (log : List (ℕ × ℕ)) (n : ℕ) → IsRun r log n → least ≤ rank (stands r log n)

-- The next rank is under way: it is higher than the one before, and no mark stands between the two.
pub record GoesOnTo {S : Type 0} (r : Rules S) (limits : Limits) (rank : S → ℕ) (least : ℕ) (s : RankedSearch S) : Type 0 where
  pub searching : IsRankedSearch r limits rank s
  pub higher : least < s.current.rank
  pub none : NoneBetween r limits.depart rank least s.current.rank

-- The search goes on to a next rank, or no mark stands above the last.
abbrev pub IsFollowed : {S : Type 0} → Rules S → Limits → (S → ℕ) → ℕ → RankedSearch S → Bool → Type 0
IsFollowed r limits rank least s true = GoesOnTo r limits rank least s
IsFollowed r limits rank least s false = NoneAbove r limits.depart rank least

-- Each closing is of marks under their logs, of its rank, and no run reaches one of them with fewer departures; and ranks rise.
pub record AreLawful {S : Type 0} (r : Rules S) (limits : Limits) (rank : S → ℕ) (closings : List (Closing S)) : Type 0 where
  pub found : HandsOnFound r limits closings
  pub ranks : OfEach closings (HasItsRank rank)
  pub rise : RanksRise closings
  pub fewest : HandsOnFewest r closings

-- So it is, all are of ranks below this one, and all marks of ranks below it were handed on.
pub record HasHandedOn {S : Type 0} (r : Rules S) (limits : Limits) (rank : S → ℕ) (least : ℕ) (closings : List (Closing S)) : Type 0 where
  pub lawful : AreLawful r limits rank closings
  pub earlier : OfEach closings (λ c. c.rank < least)
  pub below : IsCovered r limits.depart (λ s d. rank s < least → WasHandedOn r closings s d)

-- The same up to this rank.
pub record HasClosed {S : Type 0} (r : Rules S) (limits : Limits) (rank : S → ℕ) (top : ℕ) (closings : List (Closing S)) : Type 0 where
  pub lawful : AreLawful r limits rank closings
  pub up_to : OfEach closings (λ c. c.rank ≤ top)
  pub all : HandsOnAllTo r limits rank closings top

-- The rank is under way, and those up to `closed` were closed.
pub record IsUnderWay {S : Type 0} (r : Rules S) (limits : Limits) (rank : S → ℕ) (least : ℕ) (closed : Option ℕ) (closings : List (Closing S)) : Type 0 where
  pub handed : HasHandedOn r limits rank least closings
  pub last : NoneBeyond closed closings
  pub covered : IfSome closed (HandsOnAllTo r limits rank closings)

-- What was collected is of this kind.
pub record HasCollected {S : Type 0} (Collected : List (Closing S) → Type 0) (P : List (Closing S) → Type 0) : Type 0 where
  pub closings : List (Closing S)
  pub collected : Collected closings
  pub so : P closings

-- Whatever was collected before: it was of the one kind, and is of the other.
abbrev pub GoesFrom : {C S : Type 0} → (C → List (Closing S) → C → Type 0) → (List (Closing S) → Type 0) → (List (Closing S) → Type 0) → C → C → Type 0
GoesFrom {C} collects P Q old new = (first : C) → HasCollected (λ closings. collects first closings old) P → HasCollected (λ closings. collects first closings new) Q
