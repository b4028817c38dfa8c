use Rattle.std.proofs.Common.{◌≡◌, drop, map}
use Rattle.vast.specs.NumberedTrees.{module_tree}
use Rattle.vexpr_parse.specs.Texts.{words_of}
use Rattle.vmodules.specs.Inner.{units_tree}
use Rattle.vmodules.specs.Misdeclared.{first_misdeclared}
use Rattle.vmodules.proofs.misdeclared.check_names.Given as goal

abbrev pub invariant-loop-unit : goal.invariant-loop-unit
invariant-loop-unit l = first_misdeclared (map (module_tree (words_of l.tokens)) (drop l.unit-index l.list)) ≡ first_misdeclared (units_tree l.modules)
