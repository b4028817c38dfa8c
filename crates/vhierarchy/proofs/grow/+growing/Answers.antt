use Rattle.std.proofs.Common.{◌≡◌, ◌<◌, ◌+◌, ◌-◌, ◌^◌, ℕ, List, Ok, length, map, ap, sym, subst, ◌∙◌, arith}
use Rattle.vwords.specs.Words.{Text}
use Rattle.vast.specs.NumberedModules.{SourceTree}
use Rattle.vast.specs.NumberedTrees.{module_tree}
use Rattle.vast.specs.declared.module.ModuleItem.{ModuleItem}
use Rattle.vexpr_parse.specs.Texts.{words_of}
use Rattle.vmodules.specs.Ports.{Port, ports_of}
use Rattle.vmodules.specs.declared.ports.PortForm.{PortForm}
use Rattle.vmodules.specs.Inner.{units_tree, port_form}
use Rattle.velab_expr.specs.Answers.{Refuses}
use Rattle.velab_expr.specs.Scopes.{Scope, at}
use Rattle.velab_expr.specs.Inner.{symbols_in}
use Rattle.velab_expr.proofs.AnswerLemmas.{hands_on}
use Rattle.vhierarchy.specs.Instances.{Instantiation, Context, lower_names, lower_instances}
use Rattle.vhierarchy.specs.Inner.{instances_in, instances_below, own_part, context_tree, instantiation_trees, scope_at_head}
use Rattle.vhierarchy.proofs.StepLemmas.{same_refused, same_made}
use Rattle.vhierarchy.proofs.GrowLemmas.{one_put, one_refused, names_refused, instances_refused, own_refused, instance_is}
use Rattle.vhierarchy.proofs.grow.+growing.Goals as goal

pub put_each-loop-one-preserved : goal.put_each-loop-one-preserved
put_each-loop-one-preserved t c =
    one_put c.args.modules.now c.args.levels c.args.context.now c.args.scope.now c.args.list.now c.loop-one.one-index c.one-item.result (omega arith) c.one-item.is c.loop-one.part _
    c.loop-one.invariant c.put_child.new.part c.in_ok-put_child.ensures

pub put_each-returns-in_err-put_child : goal.put_each-returns-in_err-put_child
put_each-returns-in_err-put_child t c =
    hands_on c.from_residual.result c.in_err-put_child.field-0.0 c.put_child.new.part _ c.from_residual.ensures.1
    (one_refused c.args.modules.now c.args.levels c.args.context.now c.args.scope.now c.args.list.now c.loop-one.one-index c.one-item.result (omega arith) c.one-item.is c.loop-one.part _
    c.loop-one.invariant c.in_err-put_child.field-0.0 c.in_err-put_child.ensures)

pub put_unit-returns-in_err-known : goal.put_unit-returns-in_err-known
put_unit-returns-in_err-known t c =
    hands_on c.from_residual-in_err-known.result c.in_err-known.field-0.0 c.args.part.now _ c.from_residual-in_err-known.ensures.1
    (names_refused (units_tree c.args.modules.now) c.args.part.now (context_tree c.args.modules.now.words c.args.context.now) c.args.levels (c.args.levels - 1) (omega arith) c.in_err-known.field-0.0
    (subst (λ (words : List Text). Refuses c.in_err-known.field-0.0 (lower_names c.args.part.now (context_tree words c.args.context.now))) c.tokens-tokens.ensures c.in_err-known.ensures.gives))

pub put_unit-instantiations_in-requires : goal.put_unit-instantiations_in-requires
put_unit-instantiations_in-requires t c = record {
  small = subst (λ (n : ℕ). c.in_ok-known.known.head + n < 2 ^ 64) (λ i. length (symbols_in (c.tokens-tokens.ensures i) ((sym c.deref-2.ensures.value) i))) c.in_ok-known.ensures.small;
}

pub put_unit-returns-in_err-instantiation : goal.put_unit-returns-in_err-instantiation
put_unit-returns-in_err-instantiation t c =
    let modules : SourceTree = units_tree c.args.modules.now in
    let context : Context = context_tree c.args.modules.now.words c.args.context.now in
    let named : lower_names c.args.part.now context ≡ Ok (scope_at_head c.in_ok-known.known) =
    ap (λ (words : List Text). lower_names c.args.part.now (context_tree words c.args.context.now)) (sym c.tokens-tokens.ensures) ∙ c.in_ok-known.ensures.gives in
    hands_on c.from_residual-in_err-instantiation.result c.in_err-instantiation.field-0.0 c.args.part.now _ c.from_residual-in_err-instantiation.ensures.1
    (instances_refused modules c.args.part.now context c.args.levels (c.args.levels - 1) (omega arith) (scope_at_head c.in_ok-known.known) named c.in_err-instantiation.field-0.0
    (subst (λ (items : List ModuleItem). Refuses c.in_err-instantiation.field-0.0 (instances_in c.args.modules.now 0 c.in_ok-known.known.head items)) c.deref-2.ensures.value c.in_err-instantiation.ensures))

pub put_unit-put_own-requires : goal.put_unit-put_own-requires
put_unit-put_own-requires t c = record {
  small = subst (λ (n : ℕ). n + length (symbols_in (words_of c.tokens-tokens.result.now) c.args.context.now.unit.now.items.items) < 2 ^ 64)
      (sym (ap (λ (s : Scope). s.known) c.at-scope.ensures)) c.in_ok-known.ensures.small;
  whole = c.in_ok-known.ensures.whole;
}

pub put_unit-returns-in_err-put_own : goal.put_unit-returns-in_err-put_own
put_unit-returns-in_err-put_own t c =
    let modules : SourceTree = units_tree c.args.modules.now in
    let words : List Text = c.args.modules.now.words in
    let context : Context = context_tree words c.args.context.now in
    let ports : List Port = map (port_form words) c.deref-3.result.now in
    let children : List Instantiation = instantiation_trees words c.in_ok-instantiation.instantiation.items in
    let scope : Scope = scope_at_head c.in_ok-known.known in
    let named : lower_names c.args.part.now context ≡ Ok scope =
    ap (λ (ws : List Text). lower_names c.args.part.now (context_tree ws c.args.context.now)) (sym c.tokens-tokens.ensures) ∙ c.in_ok-known.ensures.gives in
    let found : lower_instances modules 0 scope.known context.unit.items ≡ Ok children =
    ap (λ (items : List ModuleItem). instances_in c.args.modules.now 0 c.in_ok-known.known.head items) (sym c.deref-2.ensures.value) ∙ c.in_ok-instantiation.ensures in
    let ports_are : ports ≡ ports_of context.unit = ap (λ (l : List PortForm). map (port_form words) l) c.deref-3.ensures.value ∙ ap (λ (ws : List Text). map (port_form ws) c.in_ok-ports.ports.items) (sym c.tokens-tokens.ensures) ∙ c.in_ok-ports.ensures ∙ ap (λ (ws : List Text). ports_of (module_tree ws c.args.context.now.unit.now)) c.tokens-tokens.ensures in
    let scope_is : c.at-scope.result ≡ scope = c.at-scope.ensures ∙ (λ i. at (c.scope.ensures.same i) c.in_ok-known.known.head) in
    hands_on c.from_residual-in_err-put_own.result c.in_err-put_own.field-0.0 c.put_own.new.part _ c.from_residual-in_err-put_own.ensures.1
    (own_refused modules c.args.part.now context c.args.levels (c.args.levels - 1) (omega arith) scope named children found ports ports_are c.in_err-put_own.field-0.0
    (same_refused _ _ (λ i. own_part (c.tokens-tokens.ensures i) c.args.context.now c.deref-3.result.now (scope_is i) c.args.part.now) c.in_err-put_own.field-0.0 c.in_err-put_own.ensures))

pub put_unit-returns : goal.put_unit-returns
put_unit-returns t c =
    let modules : SourceTree = units_tree c.args.modules.now in
    let words : List Text = c.args.modules.now.words in
    let context : Context = context_tree words c.args.context.now in
    let ports : List Port = map (port_form words) c.deref-3.result.now in
    let children : List Instantiation = instantiation_trees words c.deref-4.result.now in
    let scope : Scope = scope_at_head c.in_ok-known.known in
    let named : lower_names c.args.part.now context ≡ Ok scope =
    ap (λ (ws : List Text). lower_names c.args.part.now (context_tree ws c.args.context.now)) (sym c.tokens-tokens.ensures) ∙ c.in_ok-known.ensures.gives in
    let found : lower_instances modules 0 scope.known context.unit.items ≡ Ok children =
    ap (λ (items : List ModuleItem). instances_in c.args.modules.now 0 c.in_ok-known.known.head items) (sym c.deref-2.ensures.value) ∙ c.in_ok-instantiation.ensures
    ∙ ap (λ (list : List _). Ok (instantiation_trees words list)) (sym c.deref-4.ensures.value) in
    let ports_are : ports ≡ ports_of context.unit = ap (λ (l : List PortForm). map (port_form words) l) c.deref-3.ensures.value ∙ ap (λ (ws : List Text). map (port_form ws) c.in_ok-ports.ports.items) (sym c.tokens-tokens.ensures) ∙ c.in_ok-ports.ensures ∙ ap (λ (ws : List Text). ports_of (module_tree ws c.args.context.now.unit.now)) c.tokens-tokens.ensures in
    let scope_is : c.at-scope.result ≡ scope = c.at-scope.ensures ∙ (λ i. at (c.scope.ensures.same i) c.in_ok-known.known.head) in
    same_made c.put_each.result c.put_each.new.part _ _
    ((λ i. instances_below c.args.modules.now (c.args.levels - 1) c.args.context.now (scope_is i) c.put_own.new.part c.deref-4.result.now)
    ∙ instance_is modules c.args.part.now context c.args.levels (c.args.levels - 1) (omega arith) scope named children found ports ports_are c.put_own.new.part
    ((λ i. own_part ((sym c.tokens-tokens.ensures) i) c.args.context.now c.deref-3.result.now ((sym scope_is) i) c.args.part.now) ∙ c.in_ok-put_own.ensures))
    c.put_each.ensures
