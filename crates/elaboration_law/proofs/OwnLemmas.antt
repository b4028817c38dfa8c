-- What an instance's own steps add to a design.
use Rattle.std.proofs.Common.{◌≡◌, nat_le, true, List, [], ◌∷◌, ◌++◌, map, length, Some, Result, Ok, ◌⊎◌, inl, inr, Err, refl, sym, ap, ◌∙◌}
use Rattle.std.specs.List.{flat_map}
use Rattle.std.proofs.lemmas.List.{map-append}
use Rattle.vwords.specs.Words.{Text}
use Rattle.vast.specs.NumberedWords.{Word}
use Rattle.vast.specs.NumberedModules.{DeclarationKind, variables, integers, directed, DeclaredTree, ItemTree, parameters, declaration, events, assignments, initial, always, instances, SourceTree}
use Rattle.vmodules.specs.Ports.{Port, ports_of, own_items}
use Rattle.vdesign.specs.Design.{Variable}
use Rattle.vdesign.specs.declared.design.Kind.{Kind}
use Rattle.velab_expr.specs.declared.fault.Rule.TheVariants.{TooMany}
use Rattle.velab_expr.specs.declared.fault.ElabFault.{ElabFault}
use Rattle.velab_expr.specs.Answers.{◌>>=◌, require}
use Rattle.velab_expr.specs.Ranges.{lower_bounds}
use Rattle.velab_expr.specs.Scopes.{Scope}
use Rattle.velab_expr.specs.Symbols.{behind_item}
use Rattle.velab_declaration.specs.declared.variable.Form.{Form}
use Rattle.velab_declaration.specs.Variables.{Declaration, all_declared, declared_as, declarations_of, variable_in, variables_in, variables_as, port_form, lower_kind, lower_again, port_scope, lower_declaration, lower_variables, lower_port, lower_ports, declared_names, port_names, declarations}
use Rattle.velab_process.specs.Processes.{Processes}
use Rattle.vhierarchy.specs.Instances.{lower_own, lower_own_variables, lower_own_processes, with_own, few_enough, scope_of, PartialDesign, Context}
use Rattle.elaboration_law.proofs.StepLemmas.{same_value, then_ok, then_err, provided_ok, required_ok}
use Rattle.elaboration_law.proofs.HierarchyLemmas.{Own}

-- the steps behind the names and the instances
pub record OwnSteps (modules : SourceTree) (part : PartialDesign) (context : Context) (own : Own modules part context) : Type 0 where
  pub variables_made : List Variable
  pub processes : Processes
  pub ports_are : List Variable
  pub others_are : List Variable
  pub ports_made : lower_ports context.path (port_scope context.unit own.scope) (ports_of context.unit) ≡ Ok ports_are
  pub others_made : lower_variables context.path own.scope (own_items context.unit) ≡ Ok others_are
  pub both_made : ports_are ++ others_are ≡ variables_made
  pub processes_made : lower_own_processes context (ports_of context.unit) own.scope part.table ≡ Ok processes
  pub few_processes : nat_le (length (part.begins ++ processes.begins)) 256 ≡ true
  pub few_instances : nat_le (length (part.scopes ++ scope_of context own.scope.variables ∷ [])) 1025 ≡ true
  pub whole_is : with_own context own.scope part variables_made processes ≡ own.whole

module _ (modules : SourceTree) (part : PartialDesign) (context : Context) (own : Own modules part context) where
  abbrev ports : List Port
  ports = ports_of context.unit

  abbrev path : Text
  path = context.path

  pub own_steps : OwnSteps modules part context own
  own_steps =
      let made = then_ok (lower_own_variables context ports own.scope)
      (λ vs. lower_own_processes context ports own.scope part.table >>= λ ps. few_enough context.name (with_own context own.scope part vs ps)) own.whole own.own_is in
      let processes = then_ok (lower_own_processes context ports own.scope part.table) (λ ps. few_enough context.name (with_own context own.scope part made.0 ps)) own.whole made.2 in
      let whole = with_own context own.scope part made.0 processes.0 in
      let few = provided_ok (nat_le (length whole.begins) 256) TooMany (Some context.name) (require (nat_le (length whole.scopes) 1025) TooMany (Some context.name) whole) own.whole processes.2 in
      let enough = required_ok (nat_le (length whole.scopes) 1025) TooMany (Some context.name) whole own.whole few.1 in
      let front = then_ok (lower_ports path (port_scope context.unit own.scope) ports) (λ front. lower_variables path own.scope (own_items context.unit) >>= λ others. Ok (front ++ others)) made.0 made.1 in
      let others = then_ok (lower_variables path own.scope (own_items context.unit)) (λ others. Ok (front.0 ++ others)) made.0 front.2 in
      record {
        variables_made = made.0;
        processes = processes.0;
        ports_are = front.0;
        others_are = others.0;
        ports_made = front.1;
        others_made = others.1;
        both_made = same_value (front.0 ++ others.0) made.0 others.2;
        processes_made = processes.1;
        few_processes = few.0;
        few_instances = enough.0;
        whole_is = enough.1;
      }

-- ---- the names of its variables

abbrev pub dotted : Text → Word → Text
dotted path word = path ++ 46 ∷ word.letters

abbrev names : List Variable → List Text
names = map (λ v. v.name)

module _ (path : Text) where
  ports_named : (scope : Scope) (list : List Port) (vs : List Variable) → lower_ports path scope list ≡ Ok vs → names vs ≡ map (dotted path) (map (λ p. p.name) list)
  ports_named scope [] vs is = sym (ap names (same_value [] vs is))
  ports_named scope (p ∷ more) vs is =
      let one = then_ok (lower_port path scope p) (λ one. lower_ports path scope more >>= λ others. Ok (one ∷ others)) vs is in
      let others = then_ok (lower_ports path scope more) (λ others. Ok (one.0 ∷ others)) vs one.2 in
      let bounds = then_ok (lower_bounds scope p.type.range) (λ bounds. lower_again scope p.again bounds >>= λ whole. Ok (variable_in path (port_form p whole) p.name.letters)) one.0 one.1 in
      let whole = then_ok (lower_again scope p.again bounds.0) (λ whole. Ok (variable_in path (port_form p whole) p.name.letters)) one.0 bounds.2 in
      sym (ap names (same_value (one.0 ∷ others.0) vs others.2))
      ∙ (λ i. (sym (same_value (variable_in path (port_form p whole.0) p.name.letters) one.0 whole.2) i).name ∷ ports_named scope more others.0 others.1 i)

  in_named : (form : Form) (kind : Kind) (signed : _) (range : _) (list : List DeclaredTree) →
      names (variables_in path form list) ≡ map (dotted path) (map (λ (d : Declaration). d.name) (all_declared kind signed range list))
  in_named form kind signed range [] = refl
  in_named form kind signed range (one ∷ more) = ap (λ (l : List Text). (path ++ 46 ∷ one.name.letters) ∷ l) (in_named form kind signed range more)

  kind_named : (form : Form) (kind : DeclarationKind) (list : List DeclaredTree) →
      names (variables_as path form kind list) ≡ map (dotted path) (map (λ (d : Declaration). d.name) (declared_as kind list))
  kind_named form (variables word type) list = in_named form _ _ _ list
  kind_named form (integers long) list = in_named form _ _ _ list
  kind_named form (directed direction) list = refl

  abbrev declared_by : ItemTree → List Text
  declared_by item = map (dotted path) (map (λ (d : Declaration). d.name) (declarations_of item))

  item_named : (scope : Scope) (item : ItemTree) (vs : List Variable) → lower_declaration path scope item ≡ Ok vs → names vs ≡ declared_by item
  item_named scope (parameters local type settings) vs is = sym (ap names (same_value [] vs is))
  item_named scope (declaration kind list) vs is =
      let form = then_ok (lower_kind scope kind) (λ form. Ok (variables_as path form kind list)) vs is in
      sym (ap names (same_value (variables_as path form.0 kind list) vs form.2)) ∙ kind_named form.0 kind list
  item_named scope (events list) vs is = sym (ap names (same_value [] vs is))
  item_named scope (assignments settings) vs is = sym (ap names (same_value [] vs is))
  item_named scope (initial statement) vs is = sym (ap names (same_value [] vs is))
  item_named scope (always statement) vs is = sym (ap names (same_value [] vs is))
  item_named scope (instances letters overrides list) vs is = sym (ap names (same_value [] vs is))

  variables_named : (scope : Scope) (items : List ItemTree) (vs : List Variable) → lower_variables path scope items ≡ Ok vs →
      names vs ≡ map (dotted path) (map (λ (d : Declaration). d.name) (flat_map declarations_of items))
  variables_named scope [] vs is = sym (ap names (same_value [] vs is))
  variables_named scope (item ∷ more) vs is =
      let front = then_ok (lower_declaration path scope item) (λ front. lower_variables path (behind_item scope item) more >>= λ others. Ok (front ++ others)) vs is in
      let others = then_ok (lower_variables path (behind_item scope item) more) (λ others. Ok (front.0 ++ others)) vs front.2 in
      let rest = flat_map declarations_of more in
      sym (ap names (same_value (front.0 ++ others.0) vs others.2))
      ∙ map-append (λ (v : Variable). v.name) front.0 others.0
      ∙ (λ i. item_named scope item front.0 front.1 i ++ variables_named (behind_item scope item) more others.0 others.1 i)
      ∙ sym (ap (map (dotted path)) (map-append (λ (d : Declaration). d.name) (declarations_of item) rest)
      ∙ map-append (dotted path) (map (λ (d : Declaration). d.name) (declarations_of item)) (map (λ (d : Declaration). d.name) rest))

module _ (modules : SourceTree) (part : PartialDesign) (context : Context) (own : Own modules part context) where
  pub own_named : (let s = own_steps modules part context own in names s.variables_made ≡ map (dotted context.path) (declared_names context.unit))
  own_named =
      let s = own_steps modules part context own in
      let d = context.path in
      sym (ap names s.both_made)
      ∙ map-append (λ (v : Variable). v.name) s.ports_are s.others_are
      ∙ (λ i. ports_named d (port_scope context.unit own.scope) (ports_of context.unit) s.ports_are s.ports_made i ++ variables_named d own.scope (own_items context.unit) s.others_are s.others_made i)
      ∙ sym (map-append (dotted context.path) (port_names context.unit) (map (λ (d : Declaration). d.name) (declarations context.unit)))

-- ---- where its own tells a fault

module _ (context : Context) (scope : Scope) where
  pub data OwnTold (part : PartialDesign) (fault : ElabFault) : Type 0 where
    in_variables : lower_own_variables context (ports_of context.unit) scope ≡ Err fault → OwnTold part fault
    in_processes : lower_own_processes context (ports_of context.unit) scope part.table ≡ Err fault → OwnTold part fault
    too_many : (vs : List Variable) (processes : Processes) → lower_own_processes context (ports_of context.unit) scope part.table ≡ Ok processes →
        few_enough context.name (with_own context scope part vs processes) ≡ Err fault → OwnTold part fault

  module _ (part : PartialDesign) (fault : ElabFault) where
    abbrev behind_variables : List Variable → Result PartialDesign ElabFault
    behind_variables vs = lower_own_processes context (ports_of context.unit) scope part.table >>= λ processes. few_enough context.name (with_own context scope part vs processes)

    told_behind : (vs : List Variable) →
        (lower_own_processes context (ports_of context.unit) scope part.table ≡ Err fault)
        ⊎ ((processes : Processes) × (lower_own_processes context (ports_of context.unit) scope part.table ≡ Ok processes) × (few_enough context.name (with_own context scope part vs processes) ≡ Err fault)) →
        OwnTold part fault
    told_behind vs (inl err) = in_processes err
    told_behind vs (inr (processes, ok, err)) = too_many vs processes ok err

    told_by_own : (lower_own_variables context (ports_of context.unit) scope ≡ Err fault)
        ⊎ ((vs : List Variable) × (lower_own_variables context (ports_of context.unit) scope ≡ Ok vs) × (behind_variables vs ≡ Err fault)) → OwnTold part fault
    told_by_own (inl err) = in_variables err
    told_by_own (inr (vs, ok, err)) =
        told_behind vs (then_err (lower_own_processes context (ports_of context.unit) scope part.table) (λ processes. few_enough context.name (with_own context scope part vs processes)) fault err)

    pub own_told : lower_own context (ports_of context.unit) scope part ≡ Err fault → OwnTold part fault
    own_told is = told_by_own (then_err (lower_own_variables context (ports_of context.unit) scope) behind_variables fault is)
