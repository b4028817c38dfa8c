use Rattle.std.proofs.Common.{◌≡◌, ◌<◌, ℕ, map, slice_get, Some}
use Rattle.statebook.specs.Books.{IsClosedAt, places_of}
use Rattle.statebook.proofs.book.are_closed.Given as goal

abbrev pub invariant-loop-place : goal.invariant-loop-place
invariant-loop-place l = (c j : ℕ) → c < l.place-index → slice_get l.all c ≡ Some j → IsClosedAt (map places_of l.finished) l.all j
