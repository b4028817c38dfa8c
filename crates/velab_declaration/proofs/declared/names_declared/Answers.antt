use Rattle.std.proofs.Common.{◌≡◌, None, List, [], ap, subst, ◌∙◌}
use Rattle.vast.specs.NumberedWords.{Word}
use Rattle.vexpr_parse.specs.Texts.{words_of}
use Rattle.vmodules.specs.Names.{first_again, letters_of}
use Rattle.vmodules.proofs.ListLemmas.{handed_on}
use Rattle.velab_declaration.specs.Inner.{names_declared, DoublesIn}
use Rattle.velab_declaration.proofs.VariableLemmas.{names_are}
use Rattle.velab_declaration.proofs.declared.names_declared.Goals as goal

pub returns-in_err-names-clause-err : goal.returns-in_err-names-clause-err
returns-in_err-names-clause-err c =
    let are = names_are (words_of c.args.tokens.now) c.in_ok-made.made c.args.ports.now c.args.unit.now c.deref.result.now c.deref.ensures.value c.in_ok-made.ensures in
    handed_on _ (DoublesIn [] (names_declared (words_of c.args.tokens.now) c.args.ports.now c.args.unit.now))
    c.from_residual-in_err-names.result c.in_err-names.field-0.0 c.from_residual-in_err-names.ensures.1
    (λ f told. subst (λ (l : List Word). DoublesIn [] l f) are told) c.in_err-names.ensures.err

pub returns-clause-ok : goal.returns-clause-ok
returns-clause-ok c =
    c.in_ok-names.ensures.ok ∙ ap (λ (l : List Word). letters_of l)
    (names_are (words_of c.args.tokens.now) c.in_ok-made.made c.args.ports.now c.args.unit.now c.deref.result.now c.deref.ensures.value c.in_ok-made.ensures)

pub returns-clause-right : goal.returns-clause-right
returns-clause-right c =
    subst (λ (l : List Word). first_again l ≡ None)
    (names_are (words_of c.args.tokens.now) c.in_ok-made.made c.args.ports.now c.args.unit.now c.deref.result.now c.deref.ensures.value c.in_ok-made.ensures)
    c.in_ok-names.ensures.right
