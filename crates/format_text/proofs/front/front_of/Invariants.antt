use Rattle.std.proofs.Common.{◌≡◌, length}
use Rattle.format_text.specs.Formats.{front_by, front_of}
use Rattle.format_text.proofs.front.front_of.Given as goal

abbrev pub invariant-letters : goal.invariant-letters
invariant-letters l = front_by l.path l.letters.items l.rest ≡ front_of l.path l.initial.rest

abbrev pub decreases-letters : goal.decreases-letters
decreases-letters l = length l.rest
