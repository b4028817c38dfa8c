use Rattle.std.proofs.Common.{◌≡◌, true, Some, ap, sym, ◌∙◌, arith}
use Rattle.vast.specs.NumberedWords.{word_of}
use Rattle.vmodules.specs.Names.{has_double, is_declared}
use Rattle.vmodules.proofs.ListLemmas.{handed_on}
use Rattle.velab_expr.specs.Rules.{broken_if, IsBroken}
use Rattle.velab_expr.specs.declared.fault.Rule.TheVariants.{Doubled}
use Rattle.vdesign.specs.Design.{Scope as Room}
use Rattle.vhierarchy.specs.Inner.{scope_names}
use Rattle.vhierarchy.proofs.DesignLemmas.{scopes_again}
use Rattle.vhierarchy.proofs.design.scopes_of.Goals as goal

pub returns-in_err-note-clause-err : goal.returns-in_err-note-clause-err
returns-in_err-note-clause-err c words =
    let named = c.deref.ensures.value ∙ ap (λ (one : Room). one.path) c.scope.view_is in
    handed_on (λ f. (is_declared c.loop-scope.names c.deref.result.now ≡ true) × (f ≡ record { rule = Doubled; at = Some c.args.top.number }))
    (IsBroken (broken_if (has_double (scope_names c.args.scopes.now)) Doubled (Some (word_of words c.args.top)))) c.from_residual.result c.in_err-note.field-0.0 c.from_residual.ensures.1
    (λ f there. ap (λ b. broken_if b Doubled (Some (word_of words c.args.top)))
    (scopes_again c.args.scopes.now c.loop-scope.scope-index c.scope-item.result c.loop-scope.names _ (omega arith) c.scope-item.is c.loop-scope.invariant
    (ap (is_declared c.loop-scope.names) (sym named) ∙ there.0))
    ∙ ap Some (sym there.1))
    c.in_err-note.ensures.err
