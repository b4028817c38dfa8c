use Rattle.std.proofs.Common.{◌≡◌, ◌-◌, drop, map, List}
use Rattle.vwords.specs.Words.{Text}
use Rattle.vast.specs.NumberedTrees.{setting_tree}
use Rattle.action_origins.specs.Lengths.{length_of_each, setting_length}
use Rattle.action_origins.proofs.modules.past_each_setting.Given as goal

abbrev pub invariant-loop-one : goal.invariant-loop-one
invariant-loop-one l =
    (words : List Text) → l.left - length_of_each setting_length (map (setting_tree words) (drop l.one-index l.settings)) ≡ l.initial.left - length_of_each setting_length (map (setting_tree words) l.settings)
