use Rattle.std.proofs.Common.{◌≡◌, true, Some, refl, arith}
use Rattle.vast.specs.NumberedWords.{word_of}
use Rattle.vexpr_parse.specs.Texts.{words_of}
use Rattle.vmodules.specs.Names.{is_declared, again_behind}
use Rattle.vmodules.proofs.ListLemmas.{handed_on, word_names, word_new, word_again, words_all, none_again}
use Rattle.velab_expr.specs.declared.fault.Rule.TheVariants.{Doubled}
use Rattle.velab_declaration.specs.Inner.{port_texts, DoublesIn}
use Rattle.velab_expr.proofs.FaultLemmas.{told_by}
use Rattle.velab_declaration.proofs.declared.add_ports.Goals as goal

pub loop-port-preserved : goal.loop-port-preserved
loop-port-preserved c =
    let words = words_of c.args.tokens.now in
    record {
      names = word_names c.args.ports.now c.loop-port.port-index c.port-item.result c.loop-port-test.true c.port-item.is (port_texts words) (λ y. word_of words y.name) (λ y ys. refl)
          c.loop-port.into c.letters.result.now c.letters.ensures c.note.new.names _ c.in_ok-note.ensures.added c.loop-port.invariant.names;
      again = word_new c.args.ports.now c.loop-port.port-index c.port-item.result c.loop-port-test.true c.port-item.is (port_texts words) (λ y. word_of words y.name) (λ y ys. refl)
          c.loop-port.into c.letters.result.now c.letters.ensures c.note.new.names _ c.in_ok-note.ensures.added c.in_ok-note.ensures.fresh c.loop-port.invariant.again;
    }

pub returns-in_err-note-clause-err : goal.returns-in_err-note-clause-err
returns-in_err-note-clause-err c =
    let words = words_of c.args.tokens.now in
    handed_on (λ f. (is_declared c.loop-port.into c.letters.result.now ≡ true) × (f ≡ record { rule = Doubled; at = Some c.port-item.result.name.number })) (DoublesIn c.args.into.now (port_texts words c.args.ports.now))
    c.from_residual.result c.in_err-note.field-0.0 c.from_residual.ensures.1
    (λ f there. told_by Doubled (again_behind c.args.into.now (port_texts words c.args.ports.now)) c.port-item.result.name.number f
    (word_again c.args.ports.now c.loop-port.port-index c.port-item.result c.loop-port-test.true c.port-item.is (port_texts words) (λ y. word_of words y.name) (λ y ys. refl)
    c.loop-port.into c.letters.result.now c.letters.ensures _ c.port-item.result.name.number refl there.0 c.loop-port.invariant.again) there.1)
    c.in_err-note.ensures.err

pub returns-clause-ok : goal.returns-clause-ok
returns-clause-ok c =
    words_all c.args.ports.now c.loop-port.port-index (omega (arith, c.loop-port-test.false)) (port_texts (words_of c.args.tokens.now)) refl c.loop-port.into _ c.loop-port.invariant.names

pub returns-clause-right : goal.returns-clause-right
returns-clause-right c =
    none_again c.args.ports.now c.loop-port.port-index (omega (arith, c.loop-port-test.false)) (port_texts (words_of c.args.tokens.now)) refl c.loop-port.into _ c.loop-port.invariant.again
