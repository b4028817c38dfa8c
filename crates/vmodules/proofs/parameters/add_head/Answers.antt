use Rattle.std.proofs.Common.{◌≡◌, true, refl, arith}
use Rattle.vast.specs.NumberedWords.{word_of}
use Rattle.vexpr_parse.specs.Texts.{words_of}
use Rattle.vmodules.specs.Names.{is_declared, again_behind}
use Rattle.vmodules.specs.Inner.{head_names, IsTold}
use Rattle.vmodules.proofs.ListLemmas.{handed_on, word_names, word_new, word_again, words_all, none_again}
use Rattle.vmodules.proofs.parameters.add_head.Goals as goal

pub loop-head-preserved : goal.loop-head-preserved
loop-head-preserved c =
    let words = words_of c.args.tokens.now in
    record {
      names = word_names c.args.list.now c.loop-head.head-index c.head-item.result c.loop-head-test.true c.head-item.is (head_names words) (λ y. word_of words y.setting.name) (λ y ys. refl)
          c.loop-head.into c.letters.result.now c.letters.ensures c.add_new.new.self _ c.in_ok-add_new.ensures.added c.loop-head.invariant.names;
      again = word_new c.args.list.now c.loop-head.head-index c.head-item.result c.loop-head-test.true c.head-item.is (head_names words) (λ y. word_of words y.setting.name) (λ y ys. refl)
          c.loop-head.into c.letters.result.now c.letters.ensures c.add_new.new.self _ c.in_ok-add_new.ensures.added c.in_ok-add_new.ensures.fresh c.loop-head.invariant.again;
    }

pub returns-in_err-add_new-clause-err : goal.returns-in_err-add_new-clause-err
returns-in_err-add_new-clause-err c =
    let words = words_of c.args.tokens.now in
    handed_on (λ f. (is_declared c.loop-head.into c.letters.result.now ≡ true) × (f.at ≡ c.head-item.result.setting.name.number)) (λ f. IsTold (again_behind c.args.into.now (head_names words c.args.list.now)) f.at)
    c.from_residual.result c.in_err-add_new.field-0.0 c.from_residual.ensures.1
    (λ f there. word_again c.args.list.now c.loop-head.head-index c.head-item.result c.loop-head-test.true c.head-item.is (head_names words) (λ y. word_of words y.setting.name) (λ y ys. refl)
    c.loop-head.into c.letters.result.now c.letters.ensures _ f.at there.1 there.0 c.loop-head.invariant.again)
    c.in_err-add_new.ensures.err

pub returns-clause-ok : goal.returns-clause-ok
returns-clause-ok c =
    words_all c.args.list.now c.loop-head.head-index (omega (arith, c.loop-head-test.false)) (head_names (words_of c.args.tokens.now)) refl c.loop-head.into _ c.loop-head.invariant.names

pub returns-clause-once : goal.returns-clause-once
returns-clause-once c =
    none_again c.args.list.now c.loop-head.head-index (omega (arith, c.loop-head-test.false)) (head_names (words_of c.args.tokens.now)) refl c.loop-head.into _ c.loop-head.invariant.again
