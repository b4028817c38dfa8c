use Rattle.std.proofs.Common.{◌≡◌, ◌++◌, drop}
use Rattle.line_text.specs.LineText.{pieces_text}
use Rattle.line_text.proofs.line.put_pieces.Given as goal

abbrev pub invariant-loop-piece : goal.invariant-loop-piece
invariant-loop-piece l =
    l.text.items ++ pieces_text l.environment (drop l.piece-index l.pieces) ≡ l.initial.text.items ++ pieces_text l.environment l.pieces
