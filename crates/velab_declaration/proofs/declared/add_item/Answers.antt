use Rattle.std.proofs.Common.{◌≡◌, None, List, subst, OnOk}
use Rattle.basis.specs.Reasons.{IfFault}
use Rattle.vast.specs.NumberedWords.{Word}
use Rattle.vexpr_parse.specs.Texts.{words_of}
use Rattle.vmodules.specs.Names.{again_behind}
use Rattle.vmodules.specs.Inner.{with_words}
use Rattle.velab_declaration.specs.Inner.{DoublesIn}
use Rattle.velab_declaration.proofs.VariableLemmas.{item_of_names}
use Rattle.velab_declaration.proofs.declared.add_item.Goals as goal

pub returns-in-Declaration-clause-ok : goal.returns-in-Declaration-clause-ok
returns-in-Declaration-clause-ok c =
    subst (λ (l : List Word). OnOk c.add_kind.result (c.add_kind.new.into ≡ with_words c.args.into.now l))
    (item_of_names (words_of c.args.tokens.now) c.args.made.now c.args.item.now c.in-Declaration.at c.in-Declaration.kind c.in-Declaration.declared c.deref.result.now c.in-Declaration.is c.deref.ensures.value)
    c.add_kind.ensures.ok

pub returns-in-Declaration-clause-right : goal.returns-in-Declaration-clause-right
returns-in-Declaration-clause-right c =
    subst (λ (l : List Word). OnOk c.add_kind.result (again_behind c.args.into.now l ≡ None))
    (item_of_names (words_of c.args.tokens.now) c.args.made.now c.args.item.now c.in-Declaration.at c.in-Declaration.kind c.in-Declaration.declared c.deref.result.now c.in-Declaration.is c.deref.ensures.value)
    c.add_kind.ensures.right

pub returns-in-Declaration-clause-err : goal.returns-in-Declaration-clause-err
returns-in-Declaration-clause-err c =
    subst (λ (l : List Word). IfFault c.add_kind.result (DoublesIn c.args.into.now l))
    (item_of_names (words_of c.args.tokens.now) c.args.made.now c.args.item.now c.in-Declaration.at c.in-Declaration.kind c.in-Declaration.declared c.deref.result.now c.in-Declaration.is c.deref.ensures.value)
    c.add_kind.ensures.err
