use Rattle.std.proofs.Common.{All, false, ◌≡◌, ◌-◌, ◌≤◌, ◌++◌, List, length, drop, map}
use Rattle.vlex.specs.Lexed.{Cut, Piece, Reaches}
use Rattle.vlex.specs.Tokenized.{piece_at, AreInOrder, IsTokenAt}
use Rattle.vlex.proofs.lexer.cut.Given as goal

-- the tokens so far and those of what is left are those of the whole, and the other way round
abbrev pub invariant-loop-at : goal.invariant-loop-at
invariant-loop-at l = record {
  within : l.at ≤ length l.text;
  reached : Reaches l.text l.delay l.at;
  stands : All (IsTokenAt l.text) l.spans.items;
  order : AreInOrder 0 l.spans.items l.at;
  few : length l.spans.items ≤ l.at;
  onward : (pieces : List Piece) → Cut l.delay (drop l.at l.text) pieces → Cut false l.text (map (piece_at l.text) l.spans.items ++ pieces);
  back : (pieces : List Piece) → Cut false l.text pieces → (left : List Piece) × ((pieces ≡ map (piece_at l.text) l.spans.items ++ left) × Cut l.delay (drop l.at l.text) left);
}

abbrev pub decreases-loop-at : goal.decreases-loop-at
decreases-loop-at l = length l.text - l.at
