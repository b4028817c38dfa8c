-- *product rule*: Where in the files the statements of a design's actions stand.
use Rattle.std.specs.Prelude.{◌≡◌, ℕ, List, Option, Ok, map}
use Rattle.vsrc.specs.Source.{Source}
use Rattle.vsrc.specs.Expansion.{expansion}
use Rattle.vsrc.specs.declared.expanded.Place.{Place}
use Rattle.vlex.specs.Tokenized.{Tokenized}
use Rattle.vwords.specs.Words.{Text}
use Rattle.vast.specs.NumberedModules.{SourceTree}
use Rattle.vexpr_parse.specs.Texts.{words_of}
use Rattle.action_origins.specs.Origins.{design_origins}
use Rattle.vrace.specs.Replays.{AreTokens, IsTreeOf}
use Rattle.vrace.specs.Refusals.{word_place}

-- For each action of the design of a text: the place of the word with which its statement begins.
pub record ArePlaced (source : Source) (top : Option Text) (places : List (Option Place)) : Type 0 where
  pub tokens : Tokenized
  pub are_tokens : AreTokens source tokens
  pub tree : SourceTree
  pub is_tree : IsTreeOf source.text tree
  pub places_are : places ≡ map (word_place tokens) (design_origins (words_of tokens) tree top)

-- and so of files, by the text that they are expanded to
pub record ArePlacedInFiles (files : List (List ℕ)) (top : Option Text) (places : List (Option Place)) : Type 0 where
  pub source : Source
  pub expanded : expansion files ≡ Ok source
  pub placed : ArePlaced source top places
