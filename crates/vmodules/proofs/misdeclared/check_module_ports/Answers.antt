use Rattle.std.proofs.Common.{Option, ap, subst, sym, ◌∙◌}
use Rattle.basis.proofs.Results.{on_ok}
use Rattle.vast.specs.NumberedTrees.{module_tree}
use Rattle.vexpr_parse.specs.Texts.{words_of}
use Rattle.vmodules.specs.Misdeclared.{Misdeclared, port_flaw}
use Rattle.vmodules.specs.Inner.{items_told, words_told, IsFlaw}
use Rattle.vmodules.proofs.FlawLemmas.{none_told, told_behind, told_still, unit_is}
use Rattle.vmodules.proofs.misdeclared.check_module_ports.Goals as goal

pub returns-clause-ok : goal.returns-clause-ok
returns-clause-ok c =
    let words = words_of c.args.tokens.now in
    on_ok c.check_items.result
    (λ none. sym (unit_is words c.in_ok-names.names c.args.unit.now c.deref.result.now c.deref-2.result.now
    (ap (words_told words) c.deref.ensures.value ∙ c.in_ok-plain.ensures words) (ap (words_told words) c.deref-2.ensures.value ∙ c.in_ok-plain.ensures words)
    c.in_ok-names.ensures.ok)
    ∙ none_told _ _ c.in_ok-names.ensures.none none)
    c.check_items.ensures.ok

pub returns-clause-err : goal.returns-clause-err
returns-clause-err c =
    let words = words_of c.args.tokens.now in
    told_still (IsFlaw (items_told words c.in_ok-names.names c.deref-2.result.now c.args.unit.now)) (IsFlaw (port_flaw (module_tree words c.args.unit.now)))
    c.check_items.result
    (λ fault told. subst (λ (o : Option Misdeclared). IsFlaw o fault)
    (unit_is words c.in_ok-names.names c.args.unit.now c.deref.result.now c.deref-2.result.now
    (ap (words_told words) c.deref.ensures.value ∙ c.in_ok-plain.ensures words) (ap (words_told words) c.deref-2.ensures.value ∙ c.in_ok-plain.ensures words)
    c.in_ok-names.ensures.ok)
    (told_behind _ _ fault c.in_ok-names.ensures.none told))
    c.check_items.ensures.err
