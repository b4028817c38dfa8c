use Rattle.std.proofs.Common.{◌≡◌, drop}
use Rattle.velab_declaration.specs.ActionFlaws.{first_flaw, piece_flaw}
use Rattle.velab_declaration.proofs.width.pieces_flaw.Given as goal

abbrev pub invariant-loop-piece : goal.invariant-loop-piece
invariant-loop-piece l = first_flaw (piece_flaw l.environment) l.pieces ≡ first_flaw (piece_flaw l.environment) (drop l.piece-index l.pieces)
