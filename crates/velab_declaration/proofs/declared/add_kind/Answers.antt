use Rattle.std.proofs.Common.{◌≡◌, None, List, subst, OnOk}
use Rattle.basis.specs.Reasons.{IfFault}
use Rattle.vast.specs.NumberedWords.{Word}
use Rattle.vexpr_parse.specs.Texts.{words_of}
use Rattle.vmodules.specs.Names.{again_behind}
use Rattle.vmodules.specs.Inner.{with_words}
use Rattle.velab_declaration.specs.Inner.{DoublesIn}
use Rattle.velab_declaration.proofs.VariableLemmas.{variables_names, integers_names}
use Rattle.velab_declaration.proofs.declared.add_kind.Goals as goal

pub returns-in-Variables-clause-ok : goal.returns-in-Variables-clause-ok
returns-in-Variables-clause-ok c =
    subst (λ (l : List Word). OnOk c.add_own.result (c.add_own.new.into ≡ with_words c.args.into.now l))
    (variables_names (words_of c.args.tokens.now) c.args.made.now c.args.list.now c.args.kind.now _ _ c.in-Variables.is)
    c.add_own.ensures.ok

pub returns-in-Variables-clause-right : goal.returns-in-Variables-clause-right
returns-in-Variables-clause-right c =
    subst (λ (l : List Word). OnOk c.add_own.result (again_behind c.args.into.now l ≡ None))
    (variables_names (words_of c.args.tokens.now) c.args.made.now c.args.list.now c.args.kind.now _ _ c.in-Variables.is)
    c.add_own.ensures.right

pub returns-in-Variables-clause-err : goal.returns-in-Variables-clause-err
returns-in-Variables-clause-err c =
    subst (λ (l : List Word). IfFault c.add_own.result (DoublesIn c.args.into.now l))
    (variables_names (words_of c.args.tokens.now) c.args.made.now c.args.list.now c.args.kind.now _ _ c.in-Variables.is)
    c.add_own.ensures.err

pub returns-in-Integers-clause-ok : goal.returns-in-Integers-clause-ok
returns-in-Integers-clause-ok c =
    subst (λ (l : List Word). OnOk c.add_all.result (c.add_all.new.into ≡ with_words c.args.into.now l))
    (integers_names (words_of c.args.tokens.now) c.args.made.now c.args.list.now c.args.kind.now _ c.in-Integers.is)
    c.add_all.ensures.ok

pub returns-in-Integers-clause-right : goal.returns-in-Integers-clause-right
returns-in-Integers-clause-right c =
    subst (λ (l : List Word). OnOk c.add_all.result (again_behind c.args.into.now l ≡ None))
    (integers_names (words_of c.args.tokens.now) c.args.made.now c.args.list.now c.args.kind.now _ c.in-Integers.is)
    c.add_all.ensures.right

pub returns-in-Integers-clause-err : goal.returns-in-Integers-clause-err
returns-in-Integers-clause-err c =
    subst (λ (l : List Word). IfFault c.add_all.result (DoublesIn c.args.into.now l))
    (integers_names (words_of c.args.tokens.now) c.args.made.now c.args.list.now c.args.kind.now _ c.in-Integers.is)
    c.add_all.ensures.err
