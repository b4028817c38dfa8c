use Rattle.std.proofs.Common.{◌≡◌, ◌+◌, ◌++◌, ◌∷◌, [], List, length, map, refl, sym, ap, ◌∙◌}
use Rattle.vwords.specs.Words.{Text}
use Rattle.vexpr_parse.specs.Texts.{words_of}
use Rattle.module_size.specs.Sizes.{module_size}
use Rattle.vmodules.specs.Ports.{Port}
use Rattle.vmodules.specs.Inner.{port_form}
use Rattle.velab_expr.specs.Answers.{behind}
use Rattle.velab_expr.specs.Scopes.{Scope}
use Rattle.velab_expr.proofs.AnswerLemmas.{hands_on, still_refused}
use Rattle.velab_process.specs.Processes.{with_begins_before}
use Rattle.vhierarchy.specs.Instances.{PartialDesign, Context, scope_of, lower_own_variables, lower_own_processes, lower_own}
use Rattle.vhierarchy.specs.Inner.{context_tree, few}
use Rattle.vhierarchy.proofs.StepLemmas.{same_refused}
use Rattle.vhierarchy.proofs.OwnLemmas.{variables_fault, processes_fault, own_is}
use Rattle.vhierarchy.proofs.own.put_own.Goals as goal

pub returns-in_err-put_own_variables : goal.returns-in_err-put_own_variables
returns-in_err-put_own_variables c =
    let words : List Text = words_of c.args.tokens.now in
    let context : Context = context_tree words c.args.context.now in
    let ports : List Port = map (port_form words) c.args.ports.now in
    let scope : Scope = c.args.scope.now in
    let before : PartialDesign = record {
      variables = c.part.inside.variables.items;
      scopes = c.part.inside.scopes.items;
      table = c.part.inside.table;
      begins = c.part.inside.begins.items;
      events = c.part.inside.events;
      size = c.part.inside.size;
    } in
    let variables = lower_own_variables context ports scope in
    hands_on c.from_residual.result c.in_err-put_own_variables.field-0.0 _ _ c.from_residual.ensures.1
    (same_refused _ _ (ap (λ (part : PartialDesign). lower_own context ports scope part) c.part.view_is) c.in_err-put_own_variables.field-0.0
    (still_refused (behind before.variables variables) (lower_own context ports scope before) (variables_fault before context.name context scope variables _)
    c.in_err-put_own_variables.field-0.0 c.in_err-put_own_variables.ensures))

pub returns-in_err-put_own_processes : goal.returns-in_err-put_own_processes
returns-in_err-put_own_processes c =
    let words : List Text = words_of c.args.tokens.now in
    let context : Context = context_tree words c.args.context.now in
    let ports : List Port = map (port_form words) c.args.ports.now in
    let scope : Scope = c.args.scope.now in
    let before : PartialDesign = record {
      variables = c.part.inside.variables.items;
      scopes = c.part.inside.scopes.items;
      table = c.part.inside.table;
      begins = c.part.inside.begins.items;
      events = c.part.inside.events;
      size = c.part.inside.size;
    } in
    let variables = lower_own_variables context ports scope in
    let processes = lower_own_processes context ports scope before.table in
    hands_on c.from_residual-in_err-put_own_processes.result c.in_err-put_own_processes.field-0.0 _ _ c.from_residual-in_err-put_own_processes.ensures.1
    (same_refused _ _ (ap (λ (part : PartialDesign). lower_own context ports scope part) c.part.view_is) c.in_err-put_own_processes.field-0.0
    (still_refused (with_begins_before before.begins processes) (lower_own context ports scope before)
    (λ fault is. processes_fault before context.name context scope variables processes c.put_own_variables.new.into.items fault c.in_ok-put_own_variables.ensures is)
    c.in_err-put_own_processes.field-0.0 c.in_err-put_own_processes.ensures))

pub returns-in_err-check_counts : goal.returns-in_err-check_counts
returns-in_err-check_counts c =
    let words : List Text = words_of c.args.tokens.now in
    let context : Context = context_tree words c.args.context.now in
    let ports : List Port = map (port_form words) c.args.ports.now in
    let scope : Scope = c.args.scope.now in
    let before : PartialDesign = record {
      variables = c.part.inside.variables.items;
      scopes = c.part.inside.scopes.items;
      table = c.part.inside.table;
      begins = c.part.inside.begins.items;
      events = c.part.inside.events;
      size = c.part.inside.size;
    } in
    let after : PartialDesign = record {
      variables = c.put_own_variables.new.into.items;
      scopes = c.put_scope.new.into.items;
      table = c.put_own_processes.new.table;
      begins = c.put_own_processes.new.into.items;
      events = scope.events;
      size = c.args.size;
    } in
    let named = ap (λ (name : Text). c.part.inside.scopes.items ++ record { name = name; path = c.args.context.now.path.now; depth = c.args.context.now.depth; variables = c.scope.inside.variables } ∷ []) c.letters.ensures in
    let scopes = c.in_ok-put_scope.ensures ∙ named ∙ ap (λ (s : Scope). c.part.inside.scopes.items ++ scope_of context s.variables ∷ []) c.scope.view_is in
    let variables = lower_own_variables context ports scope in
    let processes = lower_own_processes context ports scope before.table in
    let whole : c.args.size ≡ before.size + module_size (length context.path) context.unit = c.requires.whole ∙ ap (λ (p : PartialDesign). p.size + module_size (length context.path) context.unit) (sym c.part.view_is) in
    hands_on c.from_residual-in_err-check_counts.result c.in_err-check_counts.field-0.0 _ _ c.from_residual-in_err-check_counts.ensures.1
    (same_refused _ _
    ((λ i. few context.name (length (c.deref.ensures.value i)) (length (c.deref-2.ensures.value i)) after)
    ∙ own_is before context.name context scope variables processes after c.in_ok-put_own_variables.ensures c.in_ok-put_own_processes.ensures scopes refl whole
    ∙ ap (λ (part : PartialDesign). lower_own context ports scope part) c.part.view_is)
    c.in_err-check_counts.field-0.0 (c.in_err-check_counts.ensures words after))

pub returns : goal.returns
returns c =
    let words : List Text = words_of c.args.tokens.now in
    let context : Context = context_tree words c.args.context.now in
    let ports : List Port = map (port_form words) c.args.ports.now in
    let scope : Scope = c.args.scope.now in
    let before : PartialDesign = record {
      variables = c.part.inside.variables.items;
      scopes = c.part.inside.scopes.items;
      table = c.part.inside.table;
      begins = c.part.inside.begins.items;
      events = c.part.inside.events;
      size = c.part.inside.size;
    } in
    let after : PartialDesign = record {
      variables = c.put_own_variables.new.into.items;
      scopes = c.put_scope.new.into.items;
      table = c.put_own_processes.new.table;
      begins = c.put_own_processes.new.into.items;
      events = c.scope.inside.events;
      size = c.args.size;
    } in
    let named = ap (λ (name : Text). c.part.inside.scopes.items ++ record { name = name; path = c.args.context.now.path.now; depth = c.args.context.now.depth; variables = c.scope.inside.variables } ∷ []) c.letters.ensures in
    let scopes = c.in_ok-put_scope.ensures ∙ named ∙ ap (λ (s : Scope). c.part.inside.scopes.items ++ scope_of context s.variables ∷ []) c.scope.view_is in
    let variables = lower_own_variables context ports scope in
    let processes = lower_own_processes context ports scope before.table in
    let whole : c.args.size ≡ before.size + module_size (length context.path) context.unit = c.requires.whole ∙ ap (λ (p : PartialDesign). p.size + module_size (length context.path) context.unit) (sym c.part.view_is) in
    sym (ap (λ (part : PartialDesign). lower_own context ports scope part) c.part.view_is)
    ∙ sym (own_is before context.name context scope variables processes after c.in_ok-put_own_variables.ensures c.in_ok-put_own_processes.ensures scopes (ap (λ (s : Scope). s.events) c.scope.view_is) whole)
    ∙ sym (λ i. few context.name (length (c.deref.ensures.value i)) (length (c.deref-2.ensures.value i)) after)
    ∙ c.in_ok-check_counts.ensures words after
