use Rattle.std.proofs.Common.{◌≡◌, ◌+◌, ◌-◌, ◌≤◌, true, false, length}
use Rattle.statebook.specs.Books.{IsFinished}
use Rattle.explore.specs.BookFindings.{IsBounded, SomeWayGoesPast}
use Rattle.explore.specs.Inner.Exploring.{WasVisited, width_limit}
use Rattle.explore.specs.Inner.Ways.{IsSearching}
use Rattle.explore.proofs.ClassLemmas.{EachFrom}
use Rattle.explore.proofs.classes.visit_all.Given as goal

abbrev pub invariant-loop-departures : goal.invariant-loop-departures
invariant-loop-departures g l = record {
  searching : IsSearching (g.P.Space.rules l.space) l.limits l.search;
  few : length l.search.book.entries ≤ l.limits.entries + width_limit;
  bounded : IsBounded (g.P.Space.rules l.space) l.limits.entries l.search.book.entries;
  finished : l.within ≡ true → EachFrom (IsFinished l.search.book) l.search.book (l.limits.depart + 1 - l.departures);
  visited : EachFrom (WasVisited (g.P.Space.rules l.space) l.limits l.search.book.entries) l.search.book (l.limits.depart + 1 - l.departures);
  past : l.within ≡ false → SomeWayGoesPast (g.P.Space.rules l.space) l.limits l.search.book.entries;
}
