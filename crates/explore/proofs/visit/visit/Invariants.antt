use Rattle.std.proofs.Common.{◌≡◌, ◌+◌, ◌≤◌, true, false, length, slice_get, Some}
use Rattle.statebook.specs.declared.entry.Entry.{Entry}
use Rattle.explore.specs.BookFindings.{SomeChoiceGoesPast}
use Rattle.explore.specs.Inner.Exploring.{GrowsFrom}
use Rattle.explore.specs.Inner.Ways.{IsSearching}
use Rattle.explore.proofs.VisitLemmas.{HasSuccessors, LeadUpTo}
use Rattle.explore.proofs.visit.visit.Given as goal

abbrev pub invariant-loop-choice : goal.invariant-loop-choice
invariant-loop-choice g l = record {
  searching : IsSearching (g.P.Space.rules l.space) l.limits l.search;
  few : length l.search.book.entries ≤ length l.initial.search.book.entries + l.choice;
  grows : GrowsFrom l.initial.search.book l.search.book l.place;
  met : l.within ≡ true → HasSuccessors (g.P.Space.rules l.space) l.initial.search.book l.search.book l.place l.choice l.next.items;
  leads : LeadUpTo (g.P.Space.rules l.space) l.limits l.initial.search.book l.search.book l.place l.choice;
  past : l.within ≡ false → (e : Entry g.row.P-State.Denot) → slice_get l.initial.search.book.entries l.place ≡ Some e → SomeChoiceGoesPast (g.P.Space.rules l.space) l.limits e;
}
