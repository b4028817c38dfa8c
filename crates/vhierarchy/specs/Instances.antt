-- *trusted*: `Elaborates modules top scale design`: the design that a text stands for, by recursion over instances (IEEE 1364-2005,
-- clause 12).
use Rattle.std.specs.Prelude.{◌≡◌, ℕ, zero, suc, ◌+◌, nat_le, Bool, ◌&&◌, if◌then◌else◌, List, [], ◌∷◌, ◌++◌, map, length, Option, None, Some, option_map, Result, Ok, Err}
use Rattle.std.specs.Option.{option_or}
use Rattle.basis.specs.declared.timescale.Timescale.{Timescale}
use Rattle.vwords.specs.Words.{Text}
use Rattle.vast.specs.NumberedWords.{Word}
use Rattle.vast.specs.NumberedModules.{ConnectionsTree, InstanceTree, ItemTree, parameters, declaration, events, assignments, initial, always, instances, ModuleTree, SourceTree}
use Rattle.module_size.specs.Sizes.{size_of, module_size}
use Rattle.vmodules.specs.Names.{has_double, is_declared, letters_of, first_again}
use Rattle.vmodules.specs.Hierarchy.{module_names, module_of, top_of, rival_of}
use Rattle.vmodules.specs.Ports.{Port, ports_of, own_items}
use Rattle.vmodules.specs.Placed.{placed_items}
use Rattle.vmodules.specs.Misdeclared.{first_misdeclared}
use Rattle.vmodules.specs.declared.misdeclared.PortFlaw.{PortFlaw}
use Rattle.vmodules.specs.declared.misdeclared.PortFlaw.TheVariants as flaw
use Rattle.vmodules.specs.Connected.{NamedConnection, open_names, named_connections, named_connections_if, misfit, misfit_if}
use Rattle.vdesign.specs.Design as design
use Rattle.vdesign.specs.declared.action.Action.{Action}
use Rattle.vdesign.specs.declared.action.Action.TheVariants.{Assign, Nonblocking, AssignDelayed, NonblockingDelayed, Trigger, Test, Case, While, Repeat, Forever, Delay, EventControl, Wait, ContinuousAssign, Print, DumpVars, Dump, NoOperation, Finish, Stop}
use Rattle.vdesign.specs.declared.dump.Chosen.{Chosen}
use Rattle.velab_expr.specs.declared.fault.Rule.{Rule}
use Rattle.velab_expr.specs.declared.fault.Rule.TheVariants as rule
use Rattle.velab_expr.specs.declared.fault.ElabFault.{ElabFault}
use Rattle.velab_expr.specs.Answers.{◌>>=◌, refuse, require, answer_if, value_or_fault, fault_of}
use Rattle.velab_expr.specs.Rules.{fault_at, unless, broken_if}
use Rattle.velab_declaration.specs.Right.{kind_rule}
use Rattle.velab_declaration.specs.ActionFlaws.{blank_environment, flaw_rule, table_fault}
use Rattle.velab_declaration.specs.Drives.{Place, driven_by_all, drivers_fault, with_start_values}
use Rattle.velab_expr.specs.Scopes.{Scope, at}
use Rattle.velab_expr.specs.Symbols.{symbols_by}
use Rattle.velab_process.specs.Connections.{lower_joins}
use Rattle.velab_process.specs.Processes.{Processes, with_begins_before, lower_items}
use Rattle.velab_process.specs.Statements.{Table}
use Rattle.velab_declaration.specs.Parameters.{Overrides, Base, item_scope}
use Rattle.velab_declaration.specs.Variables.{port_names, declared_names, port_scope, lower_ports, lower_variables}

-- this answer; or, where there is a word at which the rule is broken, that fault
abbrev pub unless_word : {A : Type 0} → Option Word → Rule → Result A ElabFault → Result A ElabFault
unless_word None rule answer = answer
unless_word (Some word) rule answer = refuse rule (Some word)

-- this answer; or, where one of these words stands twice, the rule is broken at the second
abbrev pub unless_doubled : {A : Type 0} → Rule → List Word → Result A ElabFault → Result A ElabFault
unless_doubled rule words answer = unless_word (first_again words) rule answer

-- this; or the fault that was found in it, if one was
abbrev pub value_unless_fault : {A : Type 0} → Option ElabFault → A → Result A ElabFault
value_unless_fault None x = Ok x
value_unless_fault (Some fault) x = Err fault

-- ---- the instances that a module has (12.1.2)

-- An instance of this module, by this name: what is said of its parameters and what its ports are connected to, by their names, and how
-- many names that are no variables stand before it.
pub record Instantiation : Type 0 where
  pub child : ModuleTree
  pub name : Word
  pub known : ℕ
  pub values : List NamedConnection
  pub connections : List NamedConnection

abbrev pub instantiation_by : ModuleTree → ℕ → Option ConnectionsTree → InstanceTree → Instantiation
instantiation_by child known overrides one = record {
  child = child;
  name = one.name;
  known = known;
  values = named_connections_if (letters_of (open_names child)) overrides;
  connections = named_connections (letters_of (port_names child)) one.connections;
}

-- what is said of parameters and what is connected to ports fits those that there are
abbrev pub lower_instance : ModuleTree → ℕ → Option ConnectionsTree → InstanceTree → Result Instantiation ElabFault
lower_instance child known overrides one =
    unless_word (misfit_if one.name (letters_of (open_names child)) overrides) rule.Ports
    (unless_word (misfit one.name (letters_of (port_names child)) one.connections) rule.Ports
    (Ok (instantiation_by child known overrides one)))

abbrev pub lower_list : ModuleTree → ℕ → Option ConnectionsTree → List InstanceTree → Result (List Instantiation) ElabFault
lower_list child known overrides [] = Ok []
lower_list child known overrides (one ∷ more) =
    lower_instance child known overrides one >>= λ front. lower_list child known overrides more >>= λ others. Ok (front ∷ others)

-- the first name of a parameter that stands again, or else that of a port
abbrev pub named_again : ModuleTree → Option Word
named_again child = option_or (first_again (open_names child)) (first_again (port_names child))

-- The module is there; a design has at most 1,024 instances below the top, and so has a module, of which so many stand before. No two
-- parameters of it have the same name, and no two ports.
abbrev pub lower_instances_of : Word → ℕ → ℕ → Option ModuleTree → Option ConnectionsTree → List InstanceTree → Result (List Instantiation) ElabFault
lower_instances_of name before known None overrides list = refuse rule.Top (Some name)
lower_instances_of name before known (Some child) overrides list =
    answer_if (nat_le (before + length list) 1024) rule.TooMany (Some name)
    (unless_word (named_again child) rule.Doubled (lower_list child known overrides list))

abbrev pub lower_instances_by : SourceTree → ℕ → ℕ → ItemTree → Result (List Instantiation) ElabFault
lower_instances_by modules before known (parameters local type settings) = Ok []
lower_instances_by modules before known (declaration kind list) = Ok []
lower_instances_by modules before known (events names) = Ok []
lower_instances_by modules before known (assignments settings) = Ok []
lower_instances_by modules before known (initial statement) = Ok []
lower_instances_by modules before known (always statement) = Ok []
lower_instances_by modules before known (instances name overrides list) =
    lower_instances_of name before known (module_of modules name.letters) overrides list

-- in the order of the text, where so many instances and so many names that are no variables stand before
abbrev pub lower_instances : SourceTree → ℕ → ℕ → List ItemTree → Result (List Instantiation) ElabFault
lower_instances modules before known [] = Ok []
lower_instances modules before known (item ∷ more) =
    lower_instances_by modules before known item >>= λ front.
    lower_instances modules (before + length front) (known + length (symbols_by item)) more >>= λ others. Ok (front ++ others)

-- ---- what an instance adds (12.1, 12.3)

-- a design so far: its variables, its scopes, its actions, where its processes begin, how many named events it has, and how large the modules
-- of its instances are together
pub record PartialDesign : Type 0 where
  pub variables : List design.Variable
  pub scopes : List design.Scope
  pub table : Table
  pub begins : List (List ℕ)
  pub events : ℕ
  pub size : ℕ

-- an instance, or the top: the top's name, its path, its name, how many scopes are round it, its module, what is said of its parameters from outside,
-- and what its ports are connected to there
pub record Context : Type 0 where
  pub top : Text
  pub path : Text
  pub name : Word
  pub depth : ℕ
  pub unit : ModuleTree
  pub overrides : Overrides
  pub connections : List NamedConnection

abbrev pub base_of : PartialDesign → Context → Base
base_of part context = record { top = context.top; first = length part.variables; events = part.events; overrides = context.overrides }

abbrev pub scope_of : Context → ℕ → design.Scope
scope_of context count = record { name = context.name.letters; path = context.path; depth = context.depth; variables = count }

-- how many bytes the names of a design's variables and scopes have so far
abbrev pub letters_held : PartialDesign → ℕ
letters_held part = size_of (λ v. length v.name) part.variables + size_of (λ s. length s.path) part.scopes

-- and those of an instance, whose variables have its path, a dot and then their own names
abbrev pub dotted_size : Text → Text → ℕ
dotted_size path name = length path + (1 + length name)

abbrev pub letters_added : Context → ℕ
letters_added context = length context.path + size_of (dotted_size context.path) (letters_of (declared_names context.unit))

-- A design has at most 4,294,967,295 named events; its names have at most 1,048,576 bytes together, and the modules of its instances a size of
-- at most 4,194,304.
abbrev pub has_room : PartialDesign → Context → Bool
has_room part context =
    nat_le part.events 4294967295
    && (nat_le (letters_held part + letters_added context) 1048576 && nat_le (part.size + module_size (length context.path) context.unit) 4194304)

-- its names, as they are known at its first item; a design has at most 1,024 variables
abbrev pub lower_names : PartialDesign → Context → Result Scope ElabFault
lower_names part context =
    unless_doubled rule.Doubled (declared_names context.unit)
    (answer_if (nat_le (length part.variables + length (declared_names context.unit)) 1024) rule.TooMany (Some context.name)
    (answer_if (has_room part context) rule.TooMany (Some context.name)
    (item_scope (base_of part context) context.unit)))

-- the processes of its port connections, those of its ports' values, and then those of its items, whose print tasks know its path (17.1.1.6)
abbrev pub lower_own_processes : Context → List Port → Scope → Table → Result Processes ElabFault
lower_own_processes context ports scope table =
    lower_joins context.name context.overrides.scope scope context.connections table ports >>= λ joins.
    with_begins_before joins.begins (lower_items scope joins.table (placed_items context.path context.unit))

abbrev pub with_own : Context → Scope → PartialDesign → List design.Variable → Processes → PartialDesign
with_own context scope part variables processes = record {
  variables = part.variables ++ variables;
  scopes = part.scopes ++ scope_of context scope.variables ∷ [];
  table = processes.table;
  begins = part.begins ++ processes.begins;
  events = scope.events;
  size = part.size + module_size (length context.path) context.unit;
}

-- a design has at most 256 processes, and 1,024 instances below the top
abbrev pub few_enough : Word → PartialDesign → Result PartialDesign ElabFault
few_enough name part =
    answer_if (nat_le (length part.begins) 256) rule.TooMany (Some name)
    (require (nat_le (length part.scopes) 1025) rule.TooMany (Some name) part)

-- what is its own, by its ports and its names
module _ (context : Context) (ports : List Port) (scope : Scope) where
  -- its ports, and what its items declare
  abbrev pub lower_own_variables : Result (List design.Variable) ElabFault
  lower_own_variables =
      lower_ports context.path (port_scope context.unit scope) ports >>= λ front.
      lower_variables context.path scope (own_items context.unit) >>= λ others. Ok (front ++ others)

  -- with its own variables, its scope and its own processes
  abbrev pub lower_own : PartialDesign → Result PartialDesign ElabFault
  lower_own part =
      lower_own_variables >>= λ variables.
      lower_own_processes context ports scope part.table >>= λ processes.
      few_enough context.name (with_own context scope part variables processes)

-- ---- and the instances in it

-- what an instance is told by the one that it stands in
abbrev pub child_context : Scope → Context → Instantiation → Context
child_context scope context instantiation = record {
  top = context.top;
  path = context.path ++ 46 ∷ instantiation.name.letters;
  name = instantiation.name;
  depth = context.depth + 1;
  unit = instantiation.child;
  overrides = record { scope = at scope instantiation.known; values = instantiation.values };
  connections = instantiation.connections;
}

-- one after another, each by what stands before
abbrev pub each : (PartialDesign → Instantiation → Result PartialDesign ElabFault) → PartialDesign → List Instantiation → Result PartialDesign ElabFault
each step part [] = Ok part
each step part (one ∷ more) = step part one >>= λ next. each step next more

-- An instance and all below it, so many levels deep: its own first, then the instances in it, in the order of the text. There are no more
-- levels than these.
abbrev pub elaborate_instance : ℕ → SourceTree → PartialDesign → Context → Result PartialDesign ElabFault
elaborate_instance zero modules part context = refuse rule.Depth (Some context.name)
elaborate_instance (suc levels) modules part context =
    lower_names part context >>= λ scope.
    lower_instances modules 0 scope.known context.unit.items >>= λ children.
    lower_own context (ports_of context.unit) scope part >>= λ own.
    each (λ so_far child. elaborate_instance levels modules so_far (child_context scope context child)) own children

-- ---- the design (12.1)

abbrev pub nothing : PartialDesign
nothing = record { variables = []; scopes = []; table = record { actions = []; words = [] }; begins = []; events = 0; size = 0 }

-- nothing is said of the top from outside, and there are no names
abbrev pub no_scope : Scope
no_scope = record { top = []; names = []; first = 0; variables = 0; events = 0; others = []; known = 0 }

abbrev pub top_context : ModuleTree → Context
top_context m = record {
  top = m.name.letters;
  path = m.name.letters;
  name = m.name;
  depth = 0;
  unit = m;
  overrides = record { scope = no_scope; values = [] };
  connections = [];
}

-- 16 levels, the top among them
unfoldable pub elaborate_top : SourceTree → ModuleTree → Result PartialDesign ElabFault
elaborate_top modules m = elaborate_instance 16 modules nothing (top_context m)

-- the bits that its continuous assignments and its port connections drive
abbrev pub driven_in : PartialDesign → List Place
driven_in part = driven_by_all (blank_environment part.variables) part.table.actions

-- under the timescale of the text (19.8)
abbrev pub design_by : Timescale → ModuleTree → PartialDesign → design.Design
design_by scale m part = record {
  top = m.name.letters;
  scale = scale;
  variables = with_start_values (driven_in part) 0 part.variables;
  scopes = part.scopes;
  actions = part.table.actions;
  processes = part.begins;
}

-- the paths of variables, and those of scopes
abbrev pub variable_paths : PartialDesign → List Text
variable_paths part = map (λ v. v.name) part.variables

abbrev pub scope_paths : PartialDesign → List Text
scope_paths part = map (λ s. s.path) part.scopes

-- a path of a `$dumpvars` is a scope's, named from the top on (own: 18.1.2 has variables, too, and names that begin lower)
abbrev pub broken_path : List Text → List Text → Text → Option Rule
broken_path scopes variables path =
    if is_declared scopes path then None
    else Some (if is_declared variables path then rule.Kind else rule.Unknown)

abbrev pub broken_chosen : List Text → List Text → List Chosen → Option Rule
broken_chosen scopes variables [] = None
broken_chosen scopes variables (one ∷ more) = option_or (broken_path scopes variables one.path) (broken_chosen scopes variables more)

abbrev pub broken_selection : List Text → List Text → Action → Option Rule
broken_selection scopes variables (DumpVars selection) = broken_chosen scopes variables selection
broken_selection scopes variables (Assign targets value) = None
broken_selection scopes variables (Nonblocking targets value) = None
broken_selection scopes variables (AssignDelayed amount targets value) = None
broken_selection scopes variables (NonblockingDelayed amount targets value) = None
broken_selection scopes variables (Trigger event) = None
broken_selection scopes variables (Test condition when_true otherwise) = None
broken_selection scopes variables (Case kind value branches otherwise) = None
broken_selection scopes variables (While condition body) = None
broken_selection scopes variables (Repeat count body) = None
broken_selection scopes variables (Forever body) = None
broken_selection scopes variables (Delay amount body) = None
broken_selection scopes variables (EventControl terms body) = None
broken_selection scopes variables (Wait condition terms body) = None
broken_selection scopes variables (ContinuousAssign targets value terms) = None
broken_selection scopes variables (Print when pieces) = None
broken_selection scopes variables (Dump command) = None
broken_selection scopes variables NoOperation = None
broken_selection scopes variables Finish = None
broken_selection scopes variables Stop = None

-- no two variables have one path, nor have two scopes (where they had, two names would be alike, and that is told before); and each path that
-- is dumped is there
abbrev pub broken_paths : Word → PartialDesign → Option ElabFault
broken_paths top part =
    option_or (broken_if (has_double (variable_paths part)) rule.Doubled (Some top))
    (option_or (broken_if (has_double (scope_paths part)) rule.Doubled (Some top))
    (table_fault (broken_selection (scope_paths part) (variable_paths part)) part.table.actions part.table.words))

-- there are at most 256 processes, which is told before; what is written is a variable or a net as it is to be, no size is wrong, and no bit of a
-- net has two drivers
abbrev pub broken_table : Word → PartialDesign → Option ElabFault
broken_table top part =
    option_or (unless (nat_le (length part.begins) 256) rule.TooMany (Some top))
    (option_or (table_fault (kind_rule part.variables) part.table.actions part.table.words)
    (option_or (table_fault (flaw_rule (blank_environment part.variables)) part.table.actions part.table.words)
    (drivers_fault (blank_environment part.variables) [] part.table.actions part.table.words)))

abbrev pub broken_design : Word → PartialDesign → Option ElabFault
broken_design top part = option_or (broken_paths top part) (broken_table top part)

-- a text's top, and what it is elaborated to
pub record Whole : Type 0 where
  pub unit : ModuleTree
  pub part : PartialDesign

abbrev pub check : ModuleTree → PartialDesign → Result Whole ElabFault
check m part = value_unless_fault (broken_design m.name part) (record { unit = m; part = part })

abbrev pub whole_of : SourceTree → ModuleTree → Result Whole ElabFault
whole_of modules m = elaborate_top modules m >>= λ part. check m part

-- 12.3.2, 12.3.3, A.2.3, 9.8.3: the rule that is broken by how ports are declared, by a value of one, or by the name of a block
abbrev pub rule_of_port : PortFlaw → Rule
rule_of_port flaw.Undeclared = rule.Unknown
rule_of_port flaw.Doubled = rule.Doubled
rule_of_port flaw.Input = rule.Kind
rule_of_port flaw.Valued = rule.Kind

abbrev pub broken_ports : SourceTree → Option ElabFault
broken_ports modules = option_map (λ m. fault_at (rule_of_port m.flaw) (Some m.word)) (first_misdeclared modules)

-- this answer; or the fault that was found before, if one was
abbrev pub unless_fault : {A : Type 0} → Option ElabFault → Result A ElabFault → Result A ElabFault
unless_fault None answer = answer
unless_fault (Some fault) answer = Err fault

-- where there is no top, a second module that could be it is told
abbrev pub top_whole : SourceTree → Option Text → Result Whole ElabFault
top_whole modules top = value_or_fault (top_of modules top) rule.Top (rival_of modules top) >>= λ m. whole_of modules m

abbrev pub elaborated_whole : SourceTree → Option Text → Result Whole ElabFault
elaborated_whole modules top = unless_doubled rule.Doubled (module_names modules) (unless_fault (broken_ports modules) (top_whole modules top))

abbrev pub as_design : Timescale → Result Whole ElabFault → Result design.Design ElabFault
as_design scale answer = answer >>= λ whole. Ok (design_by scale whole.unit whole.part)

-- the design that a text stands for, or the first rule that it breaks, and the word where, if there is one
abbrev pub elaborated : SourceTree → Option Text → Timescale → Result design.Design ElabFault
elaborated modules top scale = as_design scale (elaborated_whole modules top)

-- the design is the one that the text describes
abbrev pub Elaborates : SourceTree → Option Text → Timescale → design.Design → Type 0
Elaborates modules top scale design = elaborated modules top scale ≡ Ok design

-- what a text breaks first, under any timescale
abbrev pub broken_rule : SourceTree → Option Text → Option ElabFault
broken_rule modules top = fault_of (elaborated_whole modules top)
