use Rattle.std.proofs.Common.{◌≡◌, drop}
use Rattle.vvalue.specs.Cases.{places_at}
use Rattle.vvalue.proofs.cases.places_at.Given as goal

abbrev pub invariant-loop-branch : goal.invariant-loop-branch
invariant-loop-branch l =
    places_at l.fn.environment l.fn.kind l.fn.here l.fn.value (drop l.branch-index l.fn.branches) l.fn.otherwise
    ≡ places_at l.fn.environment l.fn.kind l.fn.here l.fn.value l.fn.branches l.fn.otherwise
