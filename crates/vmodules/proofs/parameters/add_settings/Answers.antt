use Rattle.std.proofs.Common.{◌≡◌, true, refl, arith}
use Rattle.vast.specs.NumberedWords.{word_of}
use Rattle.vexpr_parse.specs.Texts.{words_of}
use Rattle.vmodules.specs.Names.{is_declared, again_behind}
use Rattle.vmodules.specs.Inner.{setting_names, IsTold}
use Rattle.vmodules.proofs.ListLemmas.{handed_on, word_names, word_new, word_again, words_all, none_again}
use Rattle.vmodules.proofs.parameters.add_settings.Goals as goal

pub loop-setting-preserved : goal.loop-setting-preserved
loop-setting-preserved c =
    let words = words_of c.args.tokens.now in
    record {
      names = word_names c.args.settings.now c.loop-setting.setting-index c.setting-item.result c.loop-setting-test.true c.setting-item.is (setting_names words) (λ y. word_of words y.name) (λ y ys. refl)
          c.loop-setting.into c.letters.result.now c.letters.ensures c.add_new.new.self _ c.in_ok-add_new.ensures.added c.loop-setting.invariant.names;
      again = word_new c.args.settings.now c.loop-setting.setting-index c.setting-item.result c.loop-setting-test.true c.setting-item.is (setting_names words) (λ y. word_of words y.name) (λ y ys. refl)
          c.loop-setting.into c.letters.result.now c.letters.ensures c.add_new.new.self _ c.in_ok-add_new.ensures.added c.in_ok-add_new.ensures.fresh c.loop-setting.invariant.again;
    }

pub returns-in_err-add_new-clause-err : goal.returns-in_err-add_new-clause-err
returns-in_err-add_new-clause-err c =
    let words = words_of c.args.tokens.now in
    handed_on (λ f. (is_declared c.loop-setting.into c.letters.result.now ≡ true) × (f.at ≡ c.setting-item.result.name.number)) (λ f. IsTold (again_behind c.args.into.now (setting_names words c.args.settings.now)) f.at)
    c.from_residual.result c.in_err-add_new.field-0.0 c.from_residual.ensures.1
    (λ f there. word_again c.args.settings.now c.loop-setting.setting-index c.setting-item.result c.loop-setting-test.true c.setting-item.is (setting_names words) (λ y. word_of words y.name) (λ y ys. refl)
    c.loop-setting.into c.letters.result.now c.letters.ensures _ f.at there.1 there.0 c.loop-setting.invariant.again)
    c.in_err-add_new.ensures.err

pub returns-clause-ok : goal.returns-clause-ok
returns-clause-ok c =
    words_all c.args.settings.now c.loop-setting.setting-index (omega (arith, c.loop-setting-test.false)) (setting_names (words_of c.args.tokens.now)) refl c.loop-setting.into _ c.loop-setting.invariant.names

pub returns-clause-once : goal.returns-clause-once
returns-clause-once c =
    none_again c.args.settings.now c.loop-setting.setting-index (omega (arith, c.loop-setting-test.false)) (setting_names (words_of c.args.tokens.now)) refl c.loop-setting.into _ c.loop-setting.invariant.again
