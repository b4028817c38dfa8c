use Rattle.std.proofs.Common.{◌≡◌, ◌++◌, drop}
use Rattle.vexpr_parse.specs.Texts.{words_of}
use Rattle.vmodules.specs.Inner.{setting_names, words_told}
use Rattle.vmodules.proofs.blocks.add_settings.Given as goal

abbrev pub invariant-loop-setting : goal.invariant-loop-setting
invariant-loop-setting l =
    words_told (words_of l.tokens) l.into.items ++ setting_names (words_of l.tokens) (drop l.setting-index l.settings)
    ≡ words_told (words_of l.tokens) l.initial.into.items ++ setting_names (words_of l.tokens) l.settings
