use Rattle.std.proofs.Common.{◌≡◌, ◌<◌, ℕ, Contains, slice_get, Some}
use Rattle.statebook.proofs.book.are_among.Given as goal

abbrev pub invariant-loop-place : goal.invariant-loop-place
invariant-loop-place l = (c j : ℕ) → c < l.place-index → slice_get l.places c ≡ Some j → Contains l.all j
