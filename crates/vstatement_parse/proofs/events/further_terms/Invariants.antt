use Rattle.std.proofs.Common.{◌≡◌, length, map, ◌++◌}
use Rattle.std.specs.List.{flat_map}
use Rattle.vast.specs.Leaves.{further_leaves}
use Rattle.vexpr_parse.specs.Texts.{words_of}
use Rattle.vexpr_parse.specs.Answers.{ahead, leaves_ahead}
use Rattle.vast.specs.StatementTrees.{further_term as further_tree}
use Rattle.vstatement_parse.specs.Gives.{further_terms}
use Rattle.vgrammar.specs.Statements.{further_term}
use Rattle.vgrammar.specs.Starts.{comma_of, is_meant}
use Rattle.vgrammar.proofs.ManyTurns.{goes_on}
use Rattle.vstatement_parse.proofs.events.further_terms.Given as goal

-- the names so far, and those that are read of the words that are left, are all that is read
abbrev pub invariant-terms : goal.invariant-terms
invariant-terms l = record {
  read :
      goes_on (is_meant comma_of) (λ list. further_term) (map (further_tree (words_of l.tokens)) l.terms.items) (ahead l.tokens l.cursor) ≡ further_terms (ahead l.tokens l.fn.cursor);
  kept :
      leaves_ahead l.tokens l.fn.cursor ≡ flat_map further_leaves l.terms.items ++ leaves_ahead l.tokens l.cursor;
}

abbrev pub decreases-terms : goal.decreases-terms
decreases-terms l = length (ahead l.tokens l.cursor)
