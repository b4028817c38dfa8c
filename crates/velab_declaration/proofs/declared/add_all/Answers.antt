use Rattle.std.proofs.Common.{◌≡◌, true, Some, refl, arith}
use Rattle.vast.specs.NumberedWords.{word_of}
use Rattle.vexpr_parse.specs.Texts.{words_of}
use Rattle.vmodules.specs.Names.{is_declared, again_behind}
use Rattle.vmodules.proofs.ListLemmas.{handed_on, word_names, word_new, word_again, words_all, none_again}
use Rattle.velab_expr.specs.declared.fault.Rule.TheVariants.{Doubled}
use Rattle.velab_declaration.specs.Inner.{texts_of, DoublesIn}
use Rattle.velab_expr.proofs.FaultLemmas.{told_by}
use Rattle.velab_declaration.proofs.declared.add_all.Goals as goal

pub loop-one-preserved : goal.loop-one-preserved
loop-one-preserved c =
    let words = words_of c.args.tokens.now in
    record {
      names = word_names c.args.list.now c.loop-one.one-index c.one-item.result c.loop-one-test.true c.one-item.is (texts_of words) (λ y. word_of words y.name) (λ y ys. refl)
          c.loop-one.into c.letters.result.now c.letters.ensures c.note.new.names _ c.in_ok-note.ensures.added c.loop-one.invariant.names;
      again = word_new c.args.list.now c.loop-one.one-index c.one-item.result c.loop-one-test.true c.one-item.is (texts_of words) (λ y. word_of words y.name) (λ y ys. refl)
          c.loop-one.into c.letters.result.now c.letters.ensures c.note.new.names _ c.in_ok-note.ensures.added c.in_ok-note.ensures.fresh c.loop-one.invariant.again;
    }

pub returns-in_err-note-clause-err : goal.returns-in_err-note-clause-err
returns-in_err-note-clause-err c =
    let words = words_of c.args.tokens.now in
    handed_on (λ f. (is_declared c.loop-one.into c.letters.result.now ≡ true) × (f ≡ record { rule = Doubled; at = Some c.one-item.result.name.number })) (DoublesIn c.args.into.now (texts_of words c.args.list.now))
    c.from_residual.result c.in_err-note.field-0.0 c.from_residual.ensures.1
    (λ f there. told_by Doubled (again_behind c.args.into.now (texts_of words c.args.list.now)) c.one-item.result.name.number f
    (word_again c.args.list.now c.loop-one.one-index c.one-item.result c.loop-one-test.true c.one-item.is (texts_of words) (λ y. word_of words y.name) (λ y ys. refl)
    c.loop-one.into c.letters.result.now c.letters.ensures _ c.one-item.result.name.number refl there.0 c.loop-one.invariant.again) there.1)
    c.in_err-note.ensures.err

pub returns-clause-ok : goal.returns-clause-ok
returns-clause-ok c =
    words_all c.args.list.now c.loop-one.one-index (omega (arith, c.loop-one-test.false)) (texts_of (words_of c.args.tokens.now)) refl c.loop-one.into _ c.loop-one.invariant.names

pub returns-clause-right : goal.returns-clause-right
returns-clause-right c =
    none_again c.args.list.now c.loop-one.one-index (omega (arith, c.loop-one-test.false)) (texts_of (words_of c.args.tokens.now)) refl c.loop-one.into _ c.loop-one.invariant.again
