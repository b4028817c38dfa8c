-- *internal*: The book that an explorer keeps: its entries, and what each of them has met.
use Rattle.std.specs.Prelude.{◌≡◌, ◌<◌, ◌≤◌, Vec, ℕ, Bool, true, List, [], ◌∷◌, ◌++◌, slice_get, slice_set, length, Contains, Option, Some, None, map}
use Rattle.statebook.specs.declared.entry.Entry.{Entry}
use Rattle.statebook.specs.declared.book.Met.{Met}
use Rattle.statebook.specs.declared.book.Met.TheVariants.{New, Known}

-- The entries in the order in which they were added, and for each the places of its successors
-- once it is finished.
pub record Book (S : Type 0) : Type 0 where
  pub entries : List (Entry S)
  pub finished : List (Option (List ℕ))

abbrev pub no_entries : {S : Type 0} → Book S
no_entries = record { entries = []; finished = [] }

-- one entry more, last and not finished
abbrev pub add : {S : Type 0} → Book S → Entry S → Book S
add b e = record { entries = b.entries ++ e ∷ []; finished = b.finished ++ None ∷ [] }

-- the entry at the place is finished, with these successors
abbrev pub finish : {S : Type 0} → Book S → ℕ → List ℕ → Book S
finish b place places = record { entries = b.entries; finished = slice_set b.finished place (Some places) }

-- the entry at the place is finished, or is not
abbrev pub IsFinished : {S : Type 0} → Book S → ℕ → Type 0
IsFinished b place = (places : List ℕ) × (slice_get b.finished place ≡ Some (Some places))

abbrev pub IsUnfinished : {S : Type 0} → Book S → ℕ → Type 0
IsUnfinished b place = slice_get b.finished place ≡ Some None

-- The entry dominates (s, b): its state is equal, and its budget at least b.
pub record Dominates {S : Type 0} (same : S → S → Bool) (e : Entry S) (s : S) (b : ℕ) : Type 0 where
  pub state : same e.state s ≡ true
  pub budget : b ≤ e.budget

-- The place is that of the root's entry: no departure and no step.
pub record IsRootAt {S : Type 0} (entries : List (Entry S)) (place : ℕ) : Type 0 where
  pub entry : Entry S
  pub at : slice_get entries place ≡ Some entry
  pub log : entry.log ≡ []
  pub steps : entry.steps ≡ 0

-- An entry at the place dominates this one.
pub record IsFoundAt {S : Type 0} (same : S → S → Bool) (entries : List (Entry S)) (e : Entry S) (place : ℕ) : Type 0 where
  pub entry : Entry S
  pub at : slice_get entries place ≡ Some entry
  pub dominates : Dominates same entry e.state e.budget

-- each of the places is in the list
abbrev pub AllIn : List ℕ → List ℕ → Type 0
AllIn all places = (c j : ℕ) → slice_get places c ≡ Some j → Contains all j

-- The place is that of a finished entry, and all that its list names are in the list.
pub record IsClosedAt (finished : List (Option (List ℕ))) (all : List ℕ) (place : ℕ) : Type 0 where
  pub places : List ℕ
  pub at : slice_get finished place ≡ Some (Some places)
  pub inside : AllIn all places

abbrev pub AllClosed : List (Option (List ℕ)) → List ℕ → Type 0
AllClosed finished all = (c j : ℕ) → slice_get all c ≡ Some j → IsClosedAt finished all j

-- closed: a set of places, as a list, that holds the root's, and with each member all that its
-- list names; each member is finished.
pub record IsClosed {S : Type 0} (b : Book S) (root : ℕ) (all : List ℕ) : Type 0 where
  pub root_entry : IsRootAt b.entries root
  pub root_inside : Contains all root
  pub members : AllClosed b.finished all

-- What a book answers on meeting an entry: New with the last place only where no entry dominates
-- it, and then it stands there; Known with the place of one that does, and the book stays.
abbrev pub Inserts : {S : Type 0} → (S → S → Bool) → Book S → Entry S → Met → Book S → Type 0
Inserts {S} same old e (New place) new = (place ≡ length old.entries) × (new ≡ add old e) × ((i : ℕ) (f : Entry S) → slice_get old.entries i ≡ Some f → ¬ Dominates same f e.state e.budget)
Inserts same old e (Known place) new = IsFoundAt same old.entries e place × (new ≡ old)

-- No entry comes behind one that dominates it: met in this order, each of them would be new.
pub record IsUndominated {S : Type 0} (same : S → S → Bool) (entries : List (Entry S)) : Type 0 where
  pub later : (i j : ℕ) (e f : Entry S) → i < j → slice_get entries i ≡ Some e → slice_get entries j ≡ Some f → ¬ Dominates same e f.state f.budget

-- the list of an entry's successors, once it is finished
abbrev pub places_of : {A : Type 0} → Option (Vec ℕ A) → Option (List ℕ)
places_of None = None
places_of (Some v) = Some v.items

-- the book that these lists show
abbrev pub book_of : {S A : Type 0} → List (Entry S) → List (Option (Vec ℕ A)) → Book S
book_of entries items = record { entries = entries; finished = map places_of items }
