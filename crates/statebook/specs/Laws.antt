-- *internal*: The laws that exploring rests on, as they are claimed.
use Rattle.std.specs.Prelude.{ℕ, Bool, List}
use Rattle.sched_core.specs.Rules.{Rules}
use Rattle.statebook.specs.Books.{Book, IsClosed, Inserts, finish}
use Rattle.statebook.specs.Covered.{IsCovered}
use Rattle.statebook.specs.ExplorerCore.{HasSuccessorsAt, AreAllowed, Event, IsEntry, IsListed, IsSound, after_all, empty}
use Rattle.statebook.specs.declared.book.Met.{Met}
use Rattle.statebook.specs.declared.entry.Entry.{Entry}

-- Whatever events are allowed, for every number of workers and seats, the book is sound after them.
abbrev pub AllowedKeepSound : {S : Type 0} → Rules S → Type 0
AllowedKeepSound {S} r = (k limit workers seats : ℕ) (events : List (Event S)) → AreAllowed r k limit (empty workers seats) events → IsSound r k limit (after_all (empty workers seats) events).book

-- Where the book closes after them, its entries cover every run of at most k departures.
abbrev pub ClosedCovers : {S : Type 0} → Rules S → Type 0
ClosedCovers {S} r = (k limit workers seats root : ℕ) (events : List (Event S)) (all : List ℕ) → AreAllowed r k limit (empty workers seats) events → IsClosed (after_all (empty workers seats) events).book root all → IsCovered r k (IsListed r (after_all (empty workers seats) events).book.entries)

-- A sound book that meets an entry that Add allows, dominance aside, stays sound.
abbrev pub InsertKeepsSound : {S : Type 0} → Rules S → (S → S → Bool) → Type 0
InsertKeepsSound {S} r same = (k limit : ℕ) (old new : Book S) (entry : Entry S) (met : Met) → IsSound r k limit old → IsEntry r k limit entry → Inserts same old entry met new → IsSound r k limit new

-- A sound book of which an entry is finished as Finish asks stays sound.
abbrev pub FinishKeepsSound : {S : Type 0} → Rules S → Type 0
FinishKeepsSound {S} r = (k limit place : ℕ) (old : Book S) (places : List ℕ) → IsSound r k limit old → HasSuccessorsAt r old.entries place places → IsSound r k limit (finish old place places)
