use Rattle.std.proofs.Common.{◌≡◌, ◌++◌, drop}
use Rattle.std.specs.List.{flat_map}
use Rattle.footprints.specs.Footprints.{named_in_piece}
use Rattle.footprints.proofs.footprint.put_pieces.Given as goal

abbrev pub invariant-loop-piece : goal.invariant-loop-piece
invariant-loop-piece l = l.things.items ++ flat_map named_in_piece (drop l.piece-index l.pieces) ≡ l.initial.things.items ++ flat_map named_in_piece l.pieces
