use Rattle.std.proofs.Common.{◌≡◌, drop, map}
use Rattle.std.specs.List.{list_all}
use Rattle.vast.specs.TokenTexts.{texts}
use Rattle.vast.specs.Modules.{fits_value}
use Rattle.vast.specs.ExpressionTrees.{tree_of}
use Rattle.vspell.proofs.module_parts_fit.values_fit.Given as goal

abbrev pub invariant-loop-value : goal.invariant-loop-value
invariant-loop-value l =
    list_all (fits_value l.levels) (map (tree_of (texts l.words)) (drop l.value-index l.values))
    ≡ list_all (fits_value l.levels) (map (tree_of (texts l.words)) l.values)
