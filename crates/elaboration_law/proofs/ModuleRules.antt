-- The rules that an instance's own names, parameters, variables and counts tell, and a finished design.
use Rattle.std.proofs.Common.{◌≡◌, ℕ, ◌+◌, nat_le, nat_lt, Bool, true, false, not, List, [], ◌∷◌, length, Option, Some, None, Result, Ok, refl}
use Rattle.std.specs.List.{flat_map}
use Rattle.vast.specs.NumberedExpressions as text
use Rattle.vwords.specs.Words.{Text}
use Rattle.vast.specs.NumberedWords.{Word}
use Rattle.vast.specs.NumberedModules.{ParameterType, integer, typed, SettingTree, DeclarationKind, variables, integers, directed, ConnectionsTree, InstanceTree, ItemTree, parameters, declaration, events, assignments, initial, always, instances, ModuleTree, SourceTree}
use Rattle.vmodules.specs.Names.{is_declared, letters_of, first_again}
use Rattle.vmodules.specs.Hierarchy.{module_of}
use Rattle.vmodules.specs.Ports.{Second, Port, type_in, own_items}
use Rattle.vmodules.specs.Placed.{placed_items}
use Rattle.vdesign.specs.declared.expression.Bounds.{Bounds}
use Rattle.vmodules.specs.Connected.{open_names, misfit, misfit_if, value_for}
use Rattle.velab_expr.specs.declared.fault.Rule.{Rule}
use Rattle.velab_expr.specs.declared.fault.Rule.TheVariants.{Top, Doubled, Unknown, Drivers, Ports, Width, Constant, Depth, TooMany, Kind}
use Rattle.velab_expr.specs.declared.fault.ElabFault.{ElabFault}
use Rattle.velab_expr.specs.declared.scope.Meaning.TheVariants.{Event}
use Rattle.velab_expr.specs.Answers.{answer_if, require}
use Rattle.velab_expr.specs.Scopes.{Scope}
use Rattle.velab_expr.specs.Resolved.{lower_constant}
use Rattle.velab_expr.specs.Ranges.{lower_bounds}
use Rattle.velab_expr.specs.Symbols.{Symbol, parameter_symbol, event_symbol, instance_symbol, name_in, symbols_in_head, symbols_by, valueless_by, behind_item}
use Rattle.velab_declaration.specs.Parameters.{Overrides, Base, lower_type, lower_parameter_value, lower_setting, lower_meaning, with_meaning, add_symbol, add_symbols, first_scope, item_scope}
use Rattle.velab_declaration.specs.Variables.{port_names, declared_names, lower_kind, lower_declaration, lower_variables, same_bounds, lower_again, lower_port, lower_ports, port_scope}
use Rattle.velab_process.specs.Connections.{lower_joins}
use Rattle.velab_process.specs.Processes.{lower_items}
use Rattle.vhierarchy.specs.Instances.{unless_word, Instantiation, instantiation_by, lower_instance, lower_list, named_again, lower_instances_of, lower_instances_by, lower_instances, PartialDesign, Context, base_of, lower_names, lower_own_processes, with_own, few_enough, lower_own_variables, lower_own, has_room}
use Rattle.elaboration_law.proofs.ToldLemmas.{Tells, is_local, is_of_connections, local_connections, wider, then_tells, required_tells, provided_tells, barring_tells}
use Rattle.elaboration_law.proofs.ExpressionRules.{constant_tells, bounds_tell}
use Rattle.elaboration_law.proofs.StatementRules.{items_tell, joins_tell}

-- and those that named events can
abbrev pub is_of_meaning : Rule → Bool
is_of_meaning Top = false
is_of_meaning Doubled = false
is_of_meaning Unknown = true
is_of_meaning Drivers = false
is_of_meaning Ports = false
is_of_meaning Width = true
is_of_meaning Constant = true
is_of_meaning Depth = false
is_of_meaning TooMany = true
is_of_meaning Kind = true

-- those that names can break, too
abbrev pub is_of_names : Rule → Bool
is_of_names Top = false
is_of_names Doubled = true
is_of_names Unknown = true
is_of_names Drivers = false
is_of_names Ports = false
is_of_names Width = true
is_of_names Constant = true
is_of_names Depth = false
is_of_names TooMany = true
is_of_names Kind = true

-- and those that what is said of instances can
abbrev pub is_of_instances : Rule → Bool
is_of_instances Top = true
is_of_instances Doubled = true
is_of_instances Unknown = true
is_of_instances Drivers = false
is_of_instances Ports = true
is_of_instances Width = true
is_of_instances Constant = true
is_of_instances Depth = false
is_of_instances TooMany = true
is_of_instances Kind = true

-- those that variables, processes and counts can break
abbrev pub is_of_own : Rule → Bool
is_of_own Top = false
is_of_own Doubled = false
is_of_own Unknown = true
is_of_own Drivers = false
is_of_own Ports = true
is_of_own Width = true
is_of_own Constant = true
is_of_own Depth = false
is_of_own TooMany = true
is_of_own Kind = true

pub local_own : (rule : Rule) → is_local rule ≡ true → is_of_own rule ≡ true
local_own Top e = absurd cc
local_own Doubled e = absurd cc
local_own Unknown e = refl
local_own Drivers e = absurd cc
local_own Ports e = absurd cc
local_own Width e = refl
local_own Constant e = refl
local_own Depth e = absurd cc
local_own TooMany e = refl
local_own Kind e = refl

-- those of a local kind, and of names that stand twice
abbrev pub is_of_paths : Rule → Bool
is_of_paths Top = false
is_of_paths Doubled = true
is_of_paths Unknown = true
is_of_paths Drivers = false
is_of_paths Ports = false
is_of_paths Width = true
is_of_paths Constant = true
is_of_paths Depth = false
is_of_paths TooMany = false
is_of_paths Kind = true

pub local_meaning : (rule : Rule) → is_local rule ≡ true → is_of_meaning rule ≡ true
local_meaning Top e = absurd cc
local_meaning Doubled e = absurd cc
local_meaning Unknown e = refl
local_meaning Drivers e = absurd cc
local_meaning Ports e = absurd cc
local_meaning Width e = refl
local_meaning Constant e = refl
local_meaning Depth e = absurd cc
local_meaning TooMany e = refl
local_meaning Kind e = refl

meaning_names : (rule : Rule) → is_of_meaning rule ≡ true → is_of_names rule ≡ true
meaning_names Top e = absurd cc
meaning_names Doubled e = absurd cc
meaning_names Unknown e = refl
meaning_names Drivers e = absurd cc
meaning_names Ports e = absurd cc
meaning_names Width e = refl
meaning_names Constant e = refl
meaning_names Depth e = absurd cc
meaning_names TooMany e = refl
meaning_names Kind e = refl

pub names_instances : (rule : Rule) → is_of_names rule ≡ true → is_of_instances rule ≡ true
names_instances Top e = refl
names_instances Doubled e = refl
names_instances Unknown e = refl
names_instances Drivers e = absurd cc
names_instances Ports e = absurd cc
names_instances Width e = refl
names_instances Constant e = refl
names_instances Depth e = absurd cc
names_instances TooMany e = refl
names_instances Kind e = refl

pub connections_instances : (rule : Rule) → is_of_connections rule ≡ true → is_of_instances rule ≡ true
connections_instances Top e = refl
connections_instances Doubled e = refl
connections_instances Unknown e = refl
connections_instances Drivers e = absurd cc
connections_instances Ports e = refl
connections_instances Width e = refl
connections_instances Constant e = refl
connections_instances Depth e = absurd cc
connections_instances TooMany e = refl
connections_instances Kind e = refl

connections_own : (rule : Rule) → is_of_connections rule ≡ true → is_of_own rule ≡ true
connections_own Top e = absurd cc
connections_own Doubled e = absurd cc
connections_own Unknown e = refl
connections_own Drivers e = absurd cc
connections_own Ports e = refl
connections_own Width e = refl
connections_own Constant e = refl
connections_own Depth e = absurd cc
connections_own TooMany e = refl
connections_own Kind e = refl

-- ---- parameters

type_tells : (scope : Scope) (type : Option ParameterType) → Tells is_local (lower_type scope type)
type_tells scope None = tt
type_tells scope (Some (integer long)) = tt
type_tells scope (Some (typed type)) = bounds_tell scope type.range

parameter_tells : (outer scope : Scope) (value : text.ExpressionTree) (other : Option text.ExpressionTree) → Tells is_local (lower_parameter_value outer scope value other)
parameter_tells outer scope value None = constant_tells scope value
parameter_tells outer scope value (Some other) = then_tells is_local (lower_constant scope value) _ (constant_tells scope value) (λ own. constant_tells outer other)

pub lower_parameter_tells : (overrides : Overrides) (scope : Scope) (type : Option ParameterType) (setting : SettingTree) → Tells is_local (lower_meaning overrides scope (parameter_symbol type setting))
lower_parameter_tells overrides scope type setting =
    then_tells is_local (lower_type scope type) _ (type_tells scope type) (λ bounds.
    then_tells is_local (lower_setting overrides scope setting) _ (parameter_tells overrides.scope scope setting.value (value_for overrides.values setting.name.letters)) (λ value. tt))

pub meaning_tells : (overrides : Overrides) (scope : Scope) (one : Symbol) → Tells is_of_meaning (lower_meaning overrides scope one)
meaning_tells overrides scope (parameter_symbol type setting) =
    wider is_local is_of_meaning local_meaning (lower_meaning overrides scope (parameter_symbol type setting)) (lower_parameter_tells overrides scope type setting)
meaning_tells overrides scope (event_symbol name) = required_tells is_of_meaning (nat_lt scope.events 4294967295) TooMany (Some name) (Event scope.events) refl
meaning_tells overrides scope (instance_symbol name) = tt

symbols_tell : (overrides : Overrides) (scope : Scope) (list : List Symbol) → Tells is_of_names (add_symbols overrides scope list)
symbols_tell overrides scope [] = tt
symbols_tell overrides scope (one ∷ more) =
    then_tells is_of_names (add_symbol overrides scope one) _
    (then_tells is_of_names (lower_meaning overrides scope one) _ (wider is_of_meaning is_of_names meaning_names (lower_meaning overrides scope one) (meaning_tells overrides scope one)) (λ meaning.
    required_tells is_of_names (not (is_declared scope.names (name_in one).letters)) Doubled (Some (name_in one)) (with_meaning scope one meaning) refl))
    (λ next. symbols_tell overrides next more)

scope_tells : (base : Base) (m : ModuleTree) → Tells is_of_names (item_scope base m)
scope_tells base m =
    then_tells is_of_names (add_symbols base.overrides (first_scope base m) (flat_map valueless_by m.items)) _ (symbols_tell base.overrides (first_scope base m) (flat_map valueless_by m.items)) (λ valueless.
    then_tells is_of_names (add_symbols base.overrides valueless (symbols_in_head m.parameters)) _ (symbols_tell base.overrides valueless (symbols_in_head m.parameters)) (λ head.
    then_tells is_of_names (add_symbols base.overrides head (flat_map symbols_by m.items)) _ (symbols_tell base.overrides head (flat_map symbols_by m.items)) (λ whole. tt)))

pub names_tell : (part : PartialDesign) (context : Context) → Tells is_of_names (lower_names part context)
names_tell part context =
    let many = nat_le (length part.variables + length (declared_names context.unit)) 1024 in
    let inner = item_scope (base_of part context) context.unit in
    barring_tells is_of_names (first_again (declared_names context.unit)) Doubled (answer_if many TooMany (Some context.name) (answer_if (has_room part context) TooMany (Some context.name) inner)) refl
    (provided_tells is_of_names many TooMany (Some context.name) (answer_if (has_room part context) TooMany (Some context.name) inner) refl
    (provided_tells is_of_names (has_room part context) TooMany (Some context.name) inner refl (scope_tells (base_of part context) context.unit)))

-- ---- instances

instance_tells : (child : ModuleTree) (known : ℕ) (overrides : Option ConnectionsTree) (one : InstanceTree) → Tells is_of_connections (lower_instance child known overrides one)
instance_tells child known overrides one =
    let word = misfit one.name (letters_of (port_names child)) one.connections in
    let made : Result Instantiation ElabFault = Ok (instantiation_by child known overrides one) in
    barring_tells is_of_connections (misfit_if one.name (letters_of (open_names child)) overrides) Ports (unless_word word Ports made) refl (barring_tells is_of_connections word Ports made refl tt)

pub list_tells : (child : ModuleTree) (known : ℕ) (overrides : Option ConnectionsTree) (list : List InstanceTree) → Tells is_of_connections (lower_list child known overrides list)
list_tells child known overrides [] = tt
list_tells child known overrides (one ∷ more) =
    then_tells is_of_connections (lower_instance child known overrides one) _ (instance_tells child known overrides one) (λ front.
    then_tells is_of_connections (lower_list child known overrides more) _ (list_tells child known overrides more) (λ others. tt))

of_tells : (name : Word) (before known : ℕ) (child : Option ModuleTree) (overrides : Option ConnectionsTree) (list : List InstanceTree) →
    Tells is_of_instances (lower_instances_of name before known child overrides list)
of_tells name before known None overrides list = refl
of_tells name before known (Some child) overrides list =
    let all = lower_list child known overrides list in
    provided_tells is_of_instances (nat_le (before + length list) 1024) TooMany (Some name) (unless_word (named_again child) Doubled all) refl
    (barring_tells is_of_instances (named_again child) Doubled all refl (wider is_of_connections is_of_instances connections_instances all (list_tells child known overrides list)))

by_tells : (modules : SourceTree) (before known : ℕ) (item : ItemTree) → Tells is_of_instances (lower_instances_by modules before known item)
by_tells modules before known (parameters local type settings) = tt
by_tells modules before known (declaration kind list) = tt
by_tells modules before known (events names) = tt
by_tells modules before known (assignments settings) = tt
by_tells modules before known (initial statement) = tt
by_tells modules before known (always statement) = tt
by_tells modules before known (instances name overrides list) = of_tells name before known (module_of modules name.letters) overrides list

pub instances_tell : (modules : SourceTree) (before known : ℕ) (items : List ItemTree) → Tells is_of_instances (lower_instances modules before known items)
instances_tell modules before known [] = tt
instances_tell modules before known (item ∷ more) =
    then_tells is_of_instances (lower_instances_by modules before known item) _ (by_tells modules before known item) (λ front.
    then_tells is_of_instances (lower_instances modules (before + length front) (known + length (symbols_by item)) more) _
    (instances_tell modules (before + length front) (known + length (symbols_by item)) more) (λ others. tt))

-- ---- variables and processes

kind_tells : (scope : Scope) (kind : DeclarationKind) → Tells is_local (lower_kind scope kind)
kind_tells scope (variables word type) = then_tells is_local (lower_bounds scope type.range) _ (bounds_tell scope type.range) (λ bounds. tt)
kind_tells scope (integers long) = tt
kind_tells scope (directed direction) = then_tells is_local (lower_bounds scope (type_in direction).range) _ (bounds_tell scope (type_in direction).range) (λ bounds. tt)

declaration_tells : (path : Text) (scope : Scope) (item : ItemTree) → Tells is_local (lower_declaration path scope item)
declaration_tells path scope (parameters local type settings) = tt
declaration_tells path scope (declaration kind list) = then_tells is_local (lower_kind scope kind) _ (kind_tells scope kind) (λ form. tt)
declaration_tells path scope (events names) = tt
declaration_tells path scope (assignments settings) = tt
declaration_tells path scope (initial statement) = tt
declaration_tells path scope (always statement) = tt
declaration_tells path scope (instances letters overrides list) = tt

variables_tell : (path : Text) (scope : Scope) (items : List ItemTree) → Tells is_local (lower_variables path scope items)
variables_tell path scope [] = tt
variables_tell path scope (item ∷ more) =
    then_tells is_local (lower_declaration path scope item) _ (declaration_tells path scope item) (λ front.
    then_tells is_local (lower_variables path (behind_item scope item) more) _ (variables_tell path (behind_item scope item) more) (λ others. tt))

again_tells : (scope : Scope) (again : Option Second) (bounds : Option Bounds) → Tells is_local (lower_again scope again bounds)
again_tells scope None bounds = tt
again_tells scope (Some second) bounds =
    then_tells is_local (lower_bounds scope second.type.range) _ (bounds_tell scope second.type.range) (λ other.
    required_tells is_local (same_bounds bounds other) Width (Some second.name) bounds refl)

ports_tell : (path : Text) (scope : Scope) (ports : List Port) → Tells is_local (lower_ports path scope ports)
ports_tell path scope [] = tt
ports_tell path scope (p ∷ more) =
    then_tells is_local (lower_port path scope p) _ (then_tells is_local (lower_bounds scope p.type.range) _ (bounds_tell scope p.type.range) (λ bounds.
    then_tells is_local (lower_again scope p.again bounds) _ (again_tells scope p.again bounds) (λ whole. tt))) (λ one.
    then_tells is_local (lower_ports path scope more) _ (ports_tell path scope more) (λ others. tt))

module _ (context : Context) (ports : List Port) (scope : Scope) where
  abbrev path : Text
  path = context.path

  pub own_variables_tell : Tells is_local (lower_own_variables context ports scope)
  own_variables_tell =
      then_tells is_local (lower_ports path (port_scope context.unit scope) ports) _ (ports_tell path (port_scope context.unit scope) ports) (λ front.
      then_tells is_local (lower_variables path scope (own_items context.unit)) _ (variables_tell path scope (own_items context.unit)) (λ others. tt))

  pub own_processes_tell : (part : PartialDesign) → Tells is_of_connections (lower_own_processes context ports scope part.table)
  own_processes_tell part =
      then_tells is_of_connections (lower_joins context.name context.overrides.scope scope context.connections part.table ports) _
      (joins_tell context.name context.overrides.scope scope context.connections part.table ports) (λ joins.
      then_tells is_of_connections (lower_items scope joins.table (placed_items context.path context.unit)) _ (wider is_local is_of_connections local_connections (lower_items scope joins.table (placed_items context.path context.unit)) (items_tell scope joins.table (placed_items context.path context.unit))) (λ processes. tt))

  pub few_tells : (part : PartialDesign) → Tells is_of_own (few_enough context.name part)
  few_tells part =
      provided_tells is_of_own (nat_le (length part.begins) 256) TooMany (Some context.name) (require (nat_le (length part.scopes) 1025) TooMany (Some context.name) part) refl
      (required_tells is_of_own (nat_le (length part.scopes) 1025) TooMany (Some context.name) part refl)

  pub own_tells : (part : PartialDesign) → Tells is_of_own (lower_own context ports scope part)
  own_tells part =
      then_tells is_of_own (lower_own_variables context ports scope) _
      (wider is_local is_of_own local_own (lower_own_variables context ports scope) own_variables_tell) (λ variables.
      then_tells is_of_own (lower_own_processes context ports scope part.table) _
      (wider is_of_connections is_of_own connections_own (lower_own_processes context ports scope part.table) (own_processes_tell part)) (λ processes.
      few_tells (with_own context scope part variables processes)))
