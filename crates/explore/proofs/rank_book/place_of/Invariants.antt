use Rattle.std.proofs.Common.{◌≡◌}
use Rattle.explore.specs.Inner.RankedSearches.{AreAfter}
use Rattle.explore.proofs.rank_book.place_of.Given as goal

abbrev pub invariant-loop-of_rank : goal.invariant-loop-of_rank
invariant-loop-of_rank g l = record {
  count : l.place ≡ l.of_rank-index;
  before : AreAfter l.later l.place l.rank;
}
