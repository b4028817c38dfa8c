-- *product rule*: The tree of a text with the number of each word that it keeps.
use Rattle.std.specs.Prelude.{◌≡◌, List}
use Rattle.vwords.specs.Words.{Text, without_backslash}
use Rattle.vast.specs.Modules.{SourceTree, SourceOf}
use Rattle.vast.specs.NumberedWords.{Word, words_from}
use Rattle.vast.specs.TreeWords.{source_with, source_words}

-- without its numbers it is this tree without backslashes (3.7.1), and its words are those of the text, in their order
pub record IsNumbered (words : List Text) (tree : SourceTree) (numbered : SourceOf Word) : Type 0 where
  pub is_tree : source_with (λ word. word.letters) numbered ≡ source_with without_backslash tree
  pub are_words : source_words numbered ≡ words_from 0 words
