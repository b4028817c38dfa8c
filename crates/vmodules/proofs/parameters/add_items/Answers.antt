use Rattle.std.proofs.Common.{refl, arith}
use Rattle.vast.specs.NumberedTrees.{item_tree}
use Rattle.vexpr_parse.specs.Texts.{words_of}
use Rattle.vmodules.specs.Names.{again_behind}
use Rattle.vmodules.specs.Connected.{open_by}
use Rattle.vmodules.specs.Inner.{open_in, IsTold}
use Rattle.vmodules.proofs.ListLemmas.{handed_on, words_names, words_new, words_again, words_all, none_again}
use Rattle.vmodules.proofs.parameters.add_items.Goals as goal

pub loop-item-preserved : goal.loop-item-preserved
loop-item-preserved c =
    let words = words_of c.args.tokens.now in
    record {
      names = words_names c.args.items.now c.loop-item.item-index c.item-item.result c.loop-item-test.true c.item-item.is (open_in words) (λ y. open_by (item_tree words y)) (λ y ys. refl)
          c.loop-item.into c.add_item.new.into _ c.in_ok-add_item.ensures.ok c.loop-item.invariant.names;
      again = words_new c.args.items.now c.loop-item.item-index c.item-item.result c.loop-item-test.true c.item-item.is (open_in words) (λ y. open_by (item_tree words y)) (λ y ys. refl)
          c.loop-item.into c.add_item.new.into _ c.in_ok-add_item.ensures.ok c.in_ok-add_item.ensures.once c.loop-item.invariant.again;
    }

pub returns-in_err-add_item-clause-err : goal.returns-in_err-add_item-clause-err
returns-in_err-add_item-clause-err c =
    let words = words_of c.args.tokens.now in
    handed_on (λ f. IsTold (again_behind c.loop-item.into (open_by (item_tree words c.item-item.result))) f.at) (λ f. IsTold (again_behind c.args.into.now (open_in words c.args.items.now)) f.at)
    c.from_residual.result c.in_err-add_item.field-0.0 c.from_residual.ensures.1
    (λ f told. words_again c.args.items.now c.loop-item.item-index c.item-item.result c.loop-item-test.true c.item-item.is (open_in words) (λ y. open_by (item_tree words y)) (λ y ys. refl)
    c.loop-item.into _ f.at told c.loop-item.invariant.again)
    c.in_err-add_item.ensures.err

pub returns-clause-ok : goal.returns-clause-ok
returns-clause-ok c =
    words_all c.args.items.now c.loop-item.item-index (omega (arith, c.loop-item-test.false)) (open_in (words_of c.args.tokens.now)) refl c.loop-item.into _ c.loop-item.invariant.names

pub returns-clause-once : goal.returns-clause-once
returns-clause-once c =
    none_again c.args.items.now c.loop-item.item-index (omega (arith, c.loop-item-test.false)) (open_in (words_of c.args.tokens.now)) refl c.loop-item.into _ c.loop-item.invariant.again
