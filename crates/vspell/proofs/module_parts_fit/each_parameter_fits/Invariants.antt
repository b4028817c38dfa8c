use Rattle.std.proofs.Common.{◌≡◌, drop, map}
use Rattle.std.specs.List.{list_all}
use Rattle.vast.specs.TokenTexts.{texts}
use Rattle.vast.specs.Modules.{fits_head_parameter}
use Rattle.vast.specs.ModuleTrees.{head_parameter}
use Rattle.vspell.proofs.module_parts_fit.each_parameter_fits.Given as goal

abbrev pub invariant-loop-parameter : goal.invariant-loop-parameter
invariant-loop-parameter l =
    list_all (fits_head_parameter l.levels) (map (head_parameter (texts l.words)) (drop l.parameter-index l.parameters))
    ≡ list_all (fits_head_parameter l.levels) (map (head_parameter (texts l.words)) l.parameters)
