use Rattle.std.proofs.Common.{◌≡◌, ◌-◌, drop, map, List}
use Rattle.vwords.specs.Words.{Text}
use Rattle.vast.specs.NumberedTrees.{setting_tree}
use Rattle.module_size.specs.Sizes.{setting_size, size_of}
use Rattle.module_size.proofs.modules.take_settings.Given as goal

abbrev pub invariant-loop-one : goal.invariant-loop-one
invariant-loop-one l =
    (words : List Text) → l.left - size_of setting_size (map (setting_tree words) (drop l.one-index l.settings)) ≡ l.initial.left - size_of setting_size (map (setting_tree words) l.settings)
