use Rattle.std.proofs.Common.{◌≡◌, ◌++◌, drop, map}
use Rattle.vast.specs.TokenTexts.{texts}
use Rattle.vspell.specs.Spellings.{texts_of}
use Rattle.vast.specs.Statements.{with_commas}
use Rattle.vast.specs.Modules.{spell_setting}
use Rattle.vast.specs.ModuleTrees.{setting_tree}
use Rattle.vspell.specs.Inner.{listed_from}
use Rattle.vspell.proofs.module_parts_spelling.put_settings.Given as goal

abbrev pub invariant-loop-setting : goal.invariant-loop-setting
invariant-loop-setting l =
    texts_of l.out.items ++ listed_from l.first spell_setting (map (setting_tree (texts l.words)) (drop l.setting-index l.settings))
    ≡ texts_of l.initial.out.items ++ with_commas spell_setting (map (setting_tree (texts l.words)) l.settings)
