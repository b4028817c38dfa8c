use Rattle.std.proofs.Common.{◌≡◌, ◌++◌, drop, flat_map, map}
use Rattle.vast.specs.TokenTexts.{texts}
use Rattle.vspell.specs.Spellings.{texts_of}
use Rattle.vast.specs.Statements.{spell_further_term}
use Rattle.vast.specs.StatementTrees.{further_term}
use Rattle.vspell.proofs.statement_parts_spelling.put_further.Given as goal

abbrev pub invariant-loop-one : goal.invariant-loop-one
invariant-loop-one l =
    texts_of l.out.items ++ flat_map spell_further_term (map (further_term (texts l.words)) (drop l.one-index l.further))
    ≡ texts_of l.initial.out.items ++ flat_map spell_further_term (map (further_term (texts l.words)) l.further)
