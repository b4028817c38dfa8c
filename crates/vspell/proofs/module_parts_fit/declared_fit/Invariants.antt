use Rattle.std.proofs.Common.{◌≡◌, drop, map}
use Rattle.std.specs.List.{list_all}
use Rattle.vast.specs.TokenTexts.{texts}
use Rattle.vast.specs.Modules.{fits_declared}
use Rattle.vast.specs.ModuleTrees.{declared_tree}
use Rattle.vspell.proofs.module_parts_fit.declared_fit.Given as goal

abbrev pub invariant-loop-one : goal.invariant-loop-one
invariant-loop-one l =
    list_all (fits_declared l.levels) (map (declared_tree (texts l.words)) (drop l.one-index l.declared))
    ≡ list_all (fits_declared l.levels) (map (declared_tree (texts l.words)) l.declared)
