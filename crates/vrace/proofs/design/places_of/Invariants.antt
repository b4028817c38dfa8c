use Rattle.std.proofs.Common.{◌≡◌, map, take}
use Rattle.vrace.specs.Refusals.{word_place}
use Rattle.vrace.proofs.design.places_of.Given as goal

abbrev pub invariant-loop-number : goal.invariant-loop-number
invariant-loop-number l = l.places.items ≡ map (word_place l.tokens) (take l.number-index l.numbers)
