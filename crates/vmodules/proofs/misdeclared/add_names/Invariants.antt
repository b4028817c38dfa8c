use Rattle.std.proofs.Common.{◌≡◌, ◌++◌, List, drop, map}
use Rattle.vwords.specs.Words.{Text}
use Rattle.vast.specs.NumberedModules.{DeclaredTree}
use Rattle.vast.specs.NumberedTrees.{declared_tree}
use Rattle.vmodules.specs.Inner.{words_told}
use Rattle.vmodules.proofs.misdeclared.add_names.Given as goal

abbrev pub invariant-loop-one : goal.invariant-loop-one
invariant-loop-one l = (words : List Text) →
    words_told words l.into.items ++ map (λ (one : DeclaredTree). one.name) (map (declared_tree words) (drop l.one-index l.list))
    ≡ words_told words l.initial.into.items ++ map (λ (one : DeclaredTree). one.name) (map (declared_tree words) l.list)
