-- *internal*: The only tokens of a text, and its only tree.
use Rattle.std.specs.Prelude.{◌≡◌, ℕ, List}
use Rattle.vsrc.specs.Source.{Source}
use Rattle.vlex.specs.Lexed.{IsOnlyLexed}
use Rattle.vlex.specs.Tokenized.{Tokenized, pieces_of}
use Rattle.vast.specs.NumberedModules.{SourceTree}
use Rattle.vrace.specs.Replays.{AreTokens, IsTreeOf}

pub record IsCut (source : Source) (tokens : Tokenized) : Type 0 where
  pub are_tokens : AreTokens source tokens
  pub only : IsOnlyLexed source.text (pieces_of tokens)

pub record IsReadAs (text : List ℕ) (tree : SourceTree) : Type 0 where
  pub is_tree : IsTreeOf text tree
  pub only : (other : SourceTree) → IsTreeOf text other → other ≡ tree
