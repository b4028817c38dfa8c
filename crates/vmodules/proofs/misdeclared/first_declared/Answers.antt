use Rattle.std.proofs.Common.{Some, refl, sym}
use Rattle.vast.specs.NumberedWords.{word_of}
use Rattle.vast.specs.NumberedTrees.{declared_tree, direction_tree}
use Rattle.vast.specs.declared.module.Declared.{Declared}
use Rattle.vmodules.specs.Misdeclared.{valued_net}
use Rattle.vmodules.specs.Inner.{declared_valued}
use Rattle.vmodules.proofs.ListLemmas.{first_later}
use Rattle.vmodules.proofs.misdeclared.first_declared.Goals as goal

pub loop-one-preserved : goal.loop-one-preserved
loop-one-preserved c words =
    let direction = c.args.direction.now in
    first_later c.args.list.now c.loop-one.one-index c.one-item.result c.loop-one-test.true c.one-item.is (declared_valued words direction)
    (λ (x : Declared). valued_net (Some (direction_tree words direction)) (declared_tree words x).name (declared_tree words x).value) (λ y ys. refl)
    (word_of words) c.valued_net-found.result _ (sym c.if-is_some.ensures) (c.valued_net-found.ensures words) (c.loop-one.invariant words)
