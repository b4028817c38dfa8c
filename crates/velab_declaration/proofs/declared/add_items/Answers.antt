use Rattle.std.proofs.Common.{refl, arith}
use Rattle.vexpr_parse.specs.Texts.{words_of}
use Rattle.vmodules.proofs.ListLemmas.{handed_on, words_names, words_new, opened_again, words_all, none_again}
use Rattle.velab_expr.specs.declared.fault.Rule.TheVariants.{Doubled}
use Rattle.vmodules.specs.Inner.{own_in}
use Rattle.velab_declaration.specs.Inner.{declared_in, names_of, own_tree, DoublesIn}
use Rattle.velab_expr.proofs.FaultLemmas.{part_told}
use Rattle.velab_declaration.proofs.VariableLemmas.{in_order}
use Rattle.velab_declaration.proofs.declared.add_items.Goals as goal

pub loop-item-preserved : goal.loop-item-preserved
loop-item-preserved c =
    let words = words_of c.args.tokens.now in
    let made = c.args.made.now in
    record {
      names = words_names c.args.items.now c.loop-item.item-index c.item-item.result c.loop-item-test.true c.item-item.is (λ items. declared_in (own_in words made items)) (λ y. names_of (own_tree words made y)) (in_order words made)
          c.loop-item.into c.add_item.new.into _ c.in_ok-add_item.ensures.ok c.loop-item.invariant.names;
      again = words_new c.args.items.now c.loop-item.item-index c.item-item.result c.loop-item-test.true c.item-item.is (λ items. declared_in (own_in words made items)) (λ y. names_of (own_tree words made y)) (in_order words made)
          c.loop-item.into c.add_item.new.into _ c.in_ok-add_item.ensures.ok c.in_ok-add_item.ensures.right c.loop-item.invariant.again;
    }

pub returns-in_err-add_item-clause-err : goal.returns-in_err-add_item-clause-err
returns-in_err-add_item-clause-err c =
    let words = words_of c.args.tokens.now in
    let made = c.args.made.now in
    handed_on (DoublesIn c.loop-item.into (names_of (own_tree words made c.item-item.result))) (DoublesIn c.args.into.now (declared_in (own_in words made c.args.items.now)))
    c.from_residual.result c.in_err-add_item.field-0.0 c.from_residual.ensures.1
    (λ f told. part_told Doubled _ _ _ (opened_again c.args.items.now c.loop-item.item-index c.item-item.result c.loop-item-test.true c.item-item.is (λ items. declared_in (own_in words made items)) (λ y. names_of (own_tree words made y)) (in_order words made)
    c.loop-item.into _ c.loop-item.invariant.again) f told)
    c.in_err-add_item.ensures.err

pub returns-clause-ok : goal.returns-clause-ok
returns-clause-ok c =
    words_all c.args.items.now c.loop-item.item-index (omega (arith, c.loop-item-test.false)) (λ items. declared_in (own_in (words_of c.args.tokens.now) c.args.made.now items)) refl c.loop-item.into _ c.loop-item.invariant.names

pub returns-clause-right : goal.returns-clause-right
returns-clause-right c =
    none_again c.args.items.now c.loop-item.item-index (omega (arith, c.loop-item-test.false)) (λ items. declared_in (own_in (words_of c.args.tokens.now) c.args.made.now items)) refl c.loop-item.into _ c.loop-item.invariant.again
