use Rattle.std.proofs.Common.{◌≡◌, ◌++◌, drop}
use Rattle.line_text.specs.LineText.{values_watched}
use Rattle.line_text.proofs.line.put_watched.Given as goal

abbrev pub invariant-loop-piece : goal.invariant-loop-piece
invariant-loop-piece l =
    l.values.items ++ values_watched l.environment (drop l.piece-index l.pieces) ≡ l.initial.values.items ++ values_watched l.environment l.pieces
