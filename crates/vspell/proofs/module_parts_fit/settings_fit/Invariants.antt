use Rattle.std.proofs.Common.{◌≡◌, drop, map}
use Rattle.std.specs.List.{list_all}
use Rattle.vast.specs.TokenTexts.{texts}
use Rattle.vast.specs.Modules.{fits_setting}
use Rattle.vast.specs.ModuleTrees.{setting_tree}
use Rattle.vspell.proofs.module_parts_fit.settings_fit.Given as goal

abbrev pub invariant-loop-setting : goal.invariant-loop-setting
invariant-loop-setting l =
    list_all (fits_setting l.levels) (map (setting_tree (texts l.words)) (drop l.setting-index l.settings))
    ≡ list_all (fits_setting l.levels) (map (setting_tree (texts l.words)) l.settings)
