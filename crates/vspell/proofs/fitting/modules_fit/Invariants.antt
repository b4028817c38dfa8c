use Rattle.std.proofs.Common.{◌≡◌, drop, map}
use Rattle.std.specs.List.{list_all}
use Rattle.vast.specs.TokenTexts.{texts}
use Rattle.vast.specs.Modules.{fits_module}
use Rattle.vast.specs.ModuleTrees.{module_tree}
use Rattle.vspell.proofs.fitting.modules_fit.Given as goal

abbrev pub invariant-loop-unit : goal.invariant-loop-unit
invariant-loop-unit l =
    list_all (fits_module 64) (map (module_tree (texts l.words)) (drop l.unit-index l.modules))
    ≡ list_all (fits_module 64) (map (module_tree (texts l.words)) l.modules)
