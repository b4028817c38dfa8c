use Rattle.std.proofs.Common.{◌+◌, ◌-◌}
use Rattle.explore.specs.Inner.Exploring.{width_limit}
use Rattle.explore.specs.Inner.Ways.{IsSearching}
use Rattle.explore.proofs.ClassLemmas.{InClass}
use Rattle.explore.proofs.classes.visit_class.Given as goal

abbrev pub invariant-loop-place : goal.invariant-loop-place
invariant-loop-place g l = record {
  class : InClass (g.P.Space.rules l.space) l.limits l.initial.search.book l.search.book l.budget l.place l.within;
  searching : IsSearching (g.P.Space.rules l.space) l.limits l.search;
}

abbrev pub decreases-loop-place : goal.decreases-loop-place
decreases-loop-place g l = l.limits.entries + width_limit - l.place
