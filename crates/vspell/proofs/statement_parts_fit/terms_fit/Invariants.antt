use Rattle.std.proofs.Common.{◌≡◌, drop, map}
use Rattle.std.specs.List.{list_all}
use Rattle.vast.specs.TokenTexts.{texts}
use Rattle.vast.specs.Statements.{fits_further_term}
use Rattle.vast.specs.StatementTrees.{further_term}
use Rattle.vspell.proofs.statement_parts_fit.terms_fit.Given as goal

abbrev pub invariant-loop-one : goal.invariant-loop-one
invariant-loop-one l =
    list_all fits_further_term (map (further_term (texts l.words)) (drop l.one-index l.further)) ≡ list_all fits_further_term (map (further_term (texts l.words)) l.further)
