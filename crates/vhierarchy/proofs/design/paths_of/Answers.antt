use Rattle.std.proofs.Common.{◌≡◌, true, Some, ap, sym, ◌∙◌, arith}
use Rattle.vast.specs.NumberedWords.{word_of}
use Rattle.vmodules.specs.Names.{has_double, is_declared}
use Rattle.vmodules.proofs.ListLemmas.{handed_on}
use Rattle.velab_expr.specs.Rules.{broken_if, IsBroken}
use Rattle.velab_expr.specs.declared.fault.Rule.TheVariants.{Doubled}
use Rattle.vdesign.specs.Design.{Variable}
use Rattle.vhierarchy.specs.Inner.{variable_names}
use Rattle.vhierarchy.proofs.DesignLemmas.{paths_again}
use Rattle.vhierarchy.proofs.design.paths_of.Goals as goal

pub returns-in_err-note-clause-err : goal.returns-in_err-note-clause-err
returns-in_err-note-clause-err c words =
    let named = c.deref.ensures.value ∙ ap (λ (one : Variable). one.name) c.variable.view_is in
    handed_on (λ f. (is_declared c.loop-variable.names c.deref.result.now ≡ true) × (f ≡ record { rule = Doubled; at = Some c.args.top.number }))
    (IsBroken (broken_if (has_double (variable_names c.args.variables.now)) Doubled (Some (word_of words c.args.top)))) c.from_residual.result c.in_err-note.field-0.0 c.from_residual.ensures.1
    (λ f there. ap (λ b. broken_if b Doubled (Some (word_of words c.args.top)))
    (paths_again c.args.variables.now c.loop-variable.variable-index c.variable-item.result c.loop-variable.names _ (omega arith) c.variable-item.is c.loop-variable.invariant
    (ap (is_declared c.loop-variable.names) (sym named) ∙ there.0))
    ∙ ap Some (sym there.1))
    c.in_err-note.ensures.err
