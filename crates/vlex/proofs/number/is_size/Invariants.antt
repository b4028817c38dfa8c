use Rattle.std.proofs.Common.{◌≡◌, min, take}
use Rattle.vlex.specs.Forms.{spelled_number}
use Rattle.std.proofs.Common.{◌∷◌}
use Rattle.vlex.proofs.number.is_size.Given as goal

-- the size so far, cut to 65
abbrev pub invariant-loop-digit : goal.invariant-loop-digit
invariant-loop-digit l = l.size ≡ min 65 (spelled_number (l.first ∷ take l.digit-index l.digits))
