use Rattle.std.proofs.Common.{◌≡◌, codes, length, map, ◌++◌, ◌∷◌, []}
use Rattle.vexpr_parse.specs.Texts.{words_of}
use Rattle.vexpr_parse.specs.Answers.{ahead, leaves_ahead}
use Rattle.vast.specs.TokenTexts.{token_text}
use Rattle.vexpr_parse.specs.Readers.{past, is_front}
use Rattle.vstatement_parse.specs.Gives.{names_behind}
use Rattle.vgrammar.specs.Statements.{name_word}
use Rattle.vgrammar.proofs.ManyTurns.{goes_on}
use Rattle.vstatement_parse.proofs.paths.more_names.Given as goal

-- the names so far, and those that are read of the words that are left, are all that is read
abbrev pub invariant-names : goal.invariant-names
invariant-names l = record {
  read :
      goes_on (is_front (codes ".")) (λ list. past (codes ".") name_word) (map (token_text (words_of l.tokens)) l.names.items) (ahead l.tokens l.cursor)
      ≡ names_behind (token_text (words_of l.tokens) l.fn.first) (ahead l.tokens l.fn.cursor);
  kept :
      (l.fn.first ∷ []) ++ leaves_ahead l.tokens l.fn.cursor ≡ l.names.items ++ leaves_ahead l.tokens l.cursor;
}

abbrev pub decreases-names : goal.decreases-names
decreases-names l = length (ahead l.tokens l.cursor)
