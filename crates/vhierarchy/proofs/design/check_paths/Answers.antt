use Rattle.std.proofs.Common.{◌≡◌, List, Option, None, Some, false, OnOk, ap, subst, sym, ◌∙◌}
use Rattle.basis.specs.Reasons.{Because, IfFault}
use Rattle.basis.proofs.Results.{on_ok}
use Rattle.vast.specs.NumberedWords.{Word, word_of}
use Rattle.vdesign.specs.Design.{Variable, Scope as Room}
use Rattle.vmodules.specs.Names.{has_double}
use Rattle.velab_expr.specs.declared.fault.Rule.TheVariants.{Doubled}
use Rattle.velab_expr.specs.declared.fault.ElabFault.{ElabFault}
use Rattle.velab_expr.specs.Rules.{broken_if, IsBroken}
use Rattle.velab_declaration.specs.ActionFlaws.{table_fault}
use Rattle.velab_process.specs.Statements.{Table}
use Rattle.velab_expr.proofs.FaultLemmas.{handed_on, first_breaks, then_breaks, then_told, both_right}
use Rattle.vhierarchy.specs.Instances.{PartialDesign, broken_paths, broken_selection}
use Rattle.vhierarchy.specs.Inner.{scope_names, variable_names}
use Rattle.vhierarchy.proofs.design.check_paths.Goals as goal

pub returns-in_err-variables-clause-err : goal.returns-in_err-variables-clause-err
returns-in_err-variables-clause-err c words =
    let top : Word = word_of words c.args.top in
    let e = c.in_err-variables.field-0.0 in
    subst (λ (p : PartialDesign). IfFault c.from_residual.result (IsBroken (broken_paths top p))) c.part.view_is
    (handed_on _ c.from_residual.result e c.from_residual.ensures.1
    (first_breaks (broken_if (has_double (variable_names c.part.inside.variables.items)) Doubled (Some top)) _ e
    (subst (λ (l : List Variable). Because (IsBroken (broken_if (has_double (variable_names l)) Doubled (Some top))) e) c.deref.ensures.value (c.in_err-variables.ensures.err words))))

pub returns-in_err-scopes-clause-err : goal.returns-in_err-scopes-clause-err
returns-in_err-scopes-clause-err c words =
    let top : Word = word_of words c.args.top in
    let e = c.in_err-scopes.field-0.0 in
    let variables : broken_if (has_double (variable_names c.part.inside.variables.items)) Doubled (Some top) ≡ None =
    ap (λ b. broken_if b Doubled (Some top)) (subst (λ (l : List Variable). has_double (variable_names l) ≡ false) c.deref.ensures.value c.in_ok-variables.ensures.once) in
    subst (λ (p : PartialDesign). IfFault c.from_residual-in_err-scopes.result (IsBroken (broken_paths top p))) c.part.view_is
    (handed_on _ c.from_residual-in_err-scopes.result e c.from_residual-in_err-scopes.ensures.1
    (then_breaks (broken_if (has_double (variable_names c.part.inside.variables.items)) Doubled (Some top)) _ variables e
    (first_breaks (broken_if (has_double (scope_names c.part.inside.scopes.items)) Doubled (Some top)) _ e
    (subst (λ (l : List Room). Because (IsBroken (broken_if (has_double (scope_names l)) Doubled (Some top))) e) c.deref-2.ensures.value (c.in_err-scopes.ensures.err words)))))

pub returns-clause-right : goal.returns-clause-right
returns-clause-right c words =
    let top : Word = word_of words c.args.top in
    let variables : broken_if (has_double (variable_names c.part.inside.variables.items)) Doubled (Some top) ≡ None =
    ap (λ b. broken_if b Doubled (Some top)) (subst (λ (l : List Variable). has_double (variable_names l) ≡ false) c.deref.ensures.value c.in_ok-variables.ensures.once) in
    let scopes : broken_if (has_double (scope_names c.part.inside.scopes.items)) Doubled (Some top) ≡ None =
    ap (λ b. broken_if b Doubled (Some top)) (subst (λ (l : List Room). has_double (scope_names l) ≡ false) c.deref-2.ensures.value c.in_ok-scopes.ensures.once) in
    let same : table_fault (broken_selection c.in_ok-scopes.scopes c.in_ok-variables.variables) c.deref-3.result.now c.deref-4.result.now
    ≡ table_fault (broken_selection (scope_names c.part.inside.scopes.items) (variable_names c.part.inside.variables.items)) c.part.inside.table.actions c.part.inside.table.words =
    λ i. table_fault (broken_selection ((c.in_ok-scopes.ensures.ok ∙ ap scope_names c.deref-2.ensures.value) i) ((c.in_ok-variables.ensures.ok ∙ ap variable_names c.deref.ensures.value) i))
    ((c.deref-3.ensures.value ∙ ap (λ (t : Table). t.actions) c.table.view_is) i) ((c.deref-4.ensures.value ∙ ap (λ (t : Table). t.words) c.table.view_is) i) in
    subst (λ (p : PartialDesign). OnOk c.check_selections.result (broken_paths top p ≡ None)) c.part.view_is
    (on_ok c.check_selections.result
    (λ fine. both_right (broken_if (has_double (variable_names c.part.inside.variables.items)) Doubled (Some top)) _ variables
    (both_right (broken_if (has_double (scope_names c.part.inside.scopes.items)) Doubled (Some top)) _ scopes (sym same ∙ fine)))
    c.check_selections.ensures.right)

pub returns-clause-err : goal.returns-clause-err
returns-clause-err c words =
    let top : Word = word_of words c.args.top in
    let variables : broken_if (has_double (variable_names c.part.inside.variables.items)) Doubled (Some top) ≡ None =
    ap (λ b. broken_if b Doubled (Some top)) (subst (λ (l : List Variable). has_double (variable_names l) ≡ false) c.deref.ensures.value c.in_ok-variables.ensures.once) in
    let scopes : broken_if (has_double (scope_names c.part.inside.scopes.items)) Doubled (Some top) ≡ None =
    ap (λ b. broken_if b Doubled (Some top)) (subst (λ (l : List Room). has_double (scope_names l) ≡ false) c.deref-2.ensures.value c.in_ok-scopes.ensures.once) in
    let same : table_fault (broken_selection c.in_ok-scopes.scopes c.in_ok-variables.variables) c.deref-3.result.now c.deref-4.result.now
    ≡ table_fault (broken_selection (scope_names c.part.inside.scopes.items) (variable_names c.part.inside.variables.items)) c.part.inside.table.actions c.part.inside.table.words =
    λ i. table_fault (broken_selection ((c.in_ok-scopes.ensures.ok ∙ ap scope_names c.deref-2.ensures.value) i) ((c.in_ok-variables.ensures.ok ∙ ap variable_names c.deref.ensures.value) i))
    ((c.deref-3.ensures.value ∙ ap (λ (t : Table). t.actions) c.table.view_is) i) ((c.deref-4.ensures.value ∙ ap (λ (t : Table). t.words) c.table.view_is) i) in
    subst (λ (p : PartialDesign). IfFault c.check_selections.result (IsBroken (broken_paths top p))) c.part.view_is
    (then_told c.check_selections.result (broken_if (has_double (variable_names c.part.inside.variables.items)) Doubled (Some top)) _ variables
    (then_told c.check_selections.result (broken_if (has_double (scope_names c.part.inside.scopes.items)) Doubled (Some top)) _ scopes
    (subst (λ (o : Option ElabFault). IfFault c.check_selections.result (IsBroken o)) same c.check_selections.ensures.err)))
