use Rattle.std.proofs.Common.{◌≡◌, true, refl, arith}
use Rattle.vast.specs.NumberedWords.{word_of}
use Rattle.vexpr_parse.specs.Texts.{words_of}
use Rattle.vmodules.specs.Names.{is_declared, first_again}
use Rattle.vmodules.specs.Inner.{unit_names, IsTold}
use Rattle.vmodules.proofs.ListLemmas.{handed_on, word_names, word_new, word_again, words_all, none_again}
use Rattle.vmodules.proofs.hierarchy.names_of.Goals as goal

pub loop-unit-preserved : goal.loop-unit-preserved
loop-unit-preserved c =
    let words = words_of c.args.tokens.now in
    record {
      names = word_names c.args.list.now c.loop-unit.unit-index c.unit-item.result c.loop-unit-test.true c.unit-item.is (unit_names words) (λ y. word_of words y.name) (λ y ys. refl)
          c.loop-unit.names c.letters.result.now c.letters.ensures c.add_new.new.self _ c.in_ok-add_new.ensures.added c.loop-unit.invariant.names;
      again = word_new c.args.list.now c.loop-unit.unit-index c.unit-item.result c.loop-unit-test.true c.unit-item.is (unit_names words) (λ y. word_of words y.name) (λ y ys. refl)
          c.loop-unit.names c.letters.result.now c.letters.ensures c.add_new.new.self _ c.in_ok-add_new.ensures.added c.in_ok-add_new.ensures.fresh c.loop-unit.invariant.again;
    }

pub returns-in_err-add_new-clause-err : goal.returns-in_err-add_new-clause-err
returns-in_err-add_new-clause-err c =
    let words = words_of c.args.tokens.now in
    handed_on (λ f. (is_declared c.loop-unit.names c.letters.result.now ≡ true) × (f.at ≡ c.unit-item.result.name.number)) (λ f. IsTold (first_again (unit_names words c.args.list.now)) f.at)
    c.from_residual.result c.in_err-add_new.field-0.0 c.from_residual.ensures.1
    (λ f there. word_again c.args.list.now c.loop-unit.unit-index c.unit-item.result c.loop-unit-test.true c.unit-item.is (unit_names words) (λ y. word_of words y.name) (λ y ys. refl)
    c.loop-unit.names c.letters.result.now c.letters.ensures _ f.at there.1 there.0 c.loop-unit.invariant.again)
    c.in_err-add_new.ensures.err

pub returns-clause-ok : goal.returns-clause-ok
returns-clause-ok c =
    words_all c.args.list.now c.loop-unit.unit-index (omega (arith, c.loop-unit-test.false)) (unit_names (words_of c.args.tokens.now)) refl c.loop-unit.names _ c.loop-unit.invariant.names

pub returns-clause-once : goal.returns-clause-once
returns-clause-once c =
    none_again c.args.list.now c.loop-unit.unit-index (omega (arith, c.loop-unit-test.false)) (unit_names (words_of c.args.tokens.now)) refl c.loop-unit.names _ c.loop-unit.invariant.again
