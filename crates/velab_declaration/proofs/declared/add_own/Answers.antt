use Rattle.std.proofs.Common.{[], ◌∷◌, refl, arith}
use Rattle.vexpr_parse.specs.Texts.{words_of}
use Rattle.vmodules.proofs.ListLemmas.{handed_on, words_names, words_new, opened_again, words_all, none_again}
use Rattle.velab_expr.specs.declared.fault.Rule.TheVariants.{Doubled}
use Rattle.velab_declaration.specs.Inner.{own_texts, DoublesIn}
use Rattle.velab_expr.proofs.FaultLemmas.{part_told}
use Rattle.velab_declaration.proofs.VariableLemmas.{own_first}
use Rattle.velab_declaration.proofs.declared.add_own.Goals as goal

pub loop-one-preserved : goal.loop-one-preserved
loop-one-preserved c =
    let words = words_of c.args.tokens.now in
    let made = c.args.made.now in
    record {
      names = words_names c.args.list.now c.loop-one.one-index c.one-item.result c.loop-one-test.true c.one-item.is (own_texts words made) (λ y. own_texts words made (y ∷ [])) (own_first words made)
          c.loop-one.into c.add_one.new.into _ c.in_ok-add_one.ensures.ok c.loop-one.invariant.names;
      again = words_new c.args.list.now c.loop-one.one-index c.one-item.result c.loop-one-test.true c.one-item.is (own_texts words made) (λ y. own_texts words made (y ∷ [])) (own_first words made)
          c.loop-one.into c.add_one.new.into _ c.in_ok-add_one.ensures.ok c.in_ok-add_one.ensures.right c.loop-one.invariant.again;
    }

pub returns-in_err-add_one-clause-err : goal.returns-in_err-add_one-clause-err
returns-in_err-add_one-clause-err c =
    let words = words_of c.args.tokens.now in
    let made = c.args.made.now in
    handed_on (DoublesIn c.loop-one.into (own_texts words made (c.one-item.result ∷ []))) (DoublesIn c.args.into.now (own_texts words made c.args.list.now))
    c.from_residual.result c.in_err-add_one.field-0.0 c.from_residual.ensures.1
    (λ f told. part_told Doubled _ _ _ (opened_again c.args.list.now c.loop-one.one-index c.one-item.result c.loop-one-test.true c.one-item.is (own_texts words made) (λ y. own_texts words made (y ∷ [])) (own_first words made)
    c.loop-one.into _ c.loop-one.invariant.again) f told)
    c.in_err-add_one.ensures.err

pub returns-clause-ok : goal.returns-clause-ok
returns-clause-ok c =
    words_all c.args.list.now c.loop-one.one-index (omega (arith, c.loop-one-test.false)) (own_texts (words_of c.args.tokens.now) c.args.made.now) refl c.loop-one.into _ c.loop-one.invariant.names

pub returns-clause-right : goal.returns-clause-right
returns-clause-right c =
    none_again c.args.list.now c.loop-one.one-index (omega (arith, c.loop-one-test.false)) (own_texts (words_of c.args.tokens.now) c.args.made.now) refl c.loop-one.into _ c.loop-one.invariant.again
