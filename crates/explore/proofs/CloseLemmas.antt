-- A complete book is closed by the list of all places.
use Rattle.std.proofs.Common.{◌≡◌, ℕ, ◌<◌, List, length, slice_get, Contains, Some, arith, sym, ◌∙◌}
use Rattle.std.proofs.lemmas.Option.{same_Some, slice_get_within, get_or_from_slice_get}
use Rattle.statebook.specs.Books.{Book, IsClosed, IsClosedAt}
use Rattle.explore.specs.Inner.Exploring.{IsComplete}

-- the list has each place of the book, in order
pub record ListsAll (all : List ℕ) (count : ℕ) : Type 0 where
  pub count_is : length all ≡ count
  pub itself : (c : ℕ) → c < count → slice_get all c ≡ Some c

has_place : (all : List ℕ) (count place : ℕ) → ListsAll all count → place < count → Contains all place
has_place all count place l lt = (place, omega (arith, l.count_is, lt), get_or_from_slice_get all place place place (l.itself place lt))

closed_at : {S : Type 0} (b : Book S) (all : List ℕ) (place : ℕ) → IsComplete b → ListsAll all (length b.entries) → place < length b.entries → IsClosedAt b.finished all place
closed_at b all place k l lt =
    let p = k.places place lt in
    record { places = p.0; at = p.1; inside = λ c j h. has_place all (length b.entries) j l (p.2 c j h) }

pub complete_closes : {S : Type 0} (b : Book S) (all : List ℕ) → IsComplete b → ListsAll all (length b.entries) → IsClosed b 0 all
complete_closes {S} b all k l = record {
  root_entry = k.root;
  root_inside = has_place all (length b.entries) 0 l (slice_get_within b.entries 0 k.root.entry k.root.at);
  members = λ c j h.
      (let lt = slice_get_within all c j h in
      let same : c ≡ j = same_Some c j (sym (l.itself c (omega (arith, lt, l.count_is))) ∙ h) in
      closed_at b all j k l (omega (arith, lt, l.count_is, same)));
}
