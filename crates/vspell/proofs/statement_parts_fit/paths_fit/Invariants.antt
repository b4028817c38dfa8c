use Rattle.std.proofs.Common.{◌≡◌, drop, map}
use Rattle.std.specs.List.{list_all}
use Rattle.vast.specs.TokenTexts.{texts}
use Rattle.vast.specs.Statements.{fits_path}
use Rattle.vast.specs.StatementTrees.{path_tree}
use Rattle.vspell.proofs.statement_parts_fit.paths_fit.Given as goal

abbrev pub invariant-loop-path : goal.invariant-loop-path
invariant-loop-path l =
    list_all fits_path (map (path_tree (texts l.words)) (drop l.path-index l.paths)) ≡ list_all fits_path (map (path_tree (texts l.words)) l.paths)
