use Rattle.std.proofs.Common.{◌≡◌, drop}
use Rattle.vexpr_parse.specs.Texts.{words_of}
use Rattle.vmodules.specs.Names.{again_behind}
use Rattle.vmodules.specs.Inner.{setting_names, with_words}
use Rattle.vmodules.proofs.parameters.add_settings.Given as goal

abbrev pub invariant-loop-setting : goal.invariant-loop-setting
invariant-loop-setting l = record {
  names : with_words l.into (setting_names (words_of l.tokens) (drop l.setting-index l.settings)) ≡ with_words l.initial.into (setting_names (words_of l.tokens) l.settings);
  again : again_behind l.into (setting_names (words_of l.tokens) (drop l.setting-index l.settings)) ≡ again_behind l.initial.into (setting_names (words_of l.tokens) l.settings);
}
