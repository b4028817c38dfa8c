use Rattle.std.proofs.Common.{refl, sym, arith}
use Rattle.vast.specs.NumberedWords.{word_of}
use Rattle.vast.specs.NumberedTrees.{item_tree}
use Rattle.vast.specs.declared.module.ModuleItem.{ModuleItem}
use Rattle.vmodules.specs.Misdeclared.{valued_by}
use Rattle.vmodules.specs.Inner.{items_valued}
use Rattle.vmodules.proofs.ListLemmas.{first_here, first_later, no_first}
use Rattle.vmodules.proofs.misdeclared.first_valued.Goals as goal

pub loop-item-preserved : goal.loop-item-preserved
loop-item-preserved c words =
    first_later c.args.items.now c.loop-item.item-index c.item-item.result c.loop-item-test.true c.item-item.is (items_valued words) (λ (x : ModuleItem). valued_by (item_tree words x)) (λ y ys. refl)
    (word_of words) c.first_by-found.result _ (sym c.if-is_some.ensures) (c.first_by-found.ensures words) (c.loop-item.invariant words)

pub returns-then-is_some : goal.returns-then-is_some
returns-then-is_some c words =
    first_here c.args.items.now c.loop-item.item-index c.item-item.result c.loop-item-test.true c.item-item.is (items_valued words) (λ (x : ModuleItem). valued_by (item_tree words x)) (λ y ys. refl)
    (word_of words) c.first_by-found.result _ (sym c.if-is_some.ensures) (c.first_by-found.ensures words) (c.loop-item.invariant words)

pub returns : goal.returns
returns c words = no_first c.args.items.now c.loop-item.item-index (omega (arith, c.loop-item-test.false)) (items_valued words) refl _ (c.loop-item.invariant words)
