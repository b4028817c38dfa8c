-- *internal*: What the steps of elaboration over instances are told by and answer.
use Rattle.std.specs.Prelude.{◌≡◌, ℕ, nat_le, List, [], ◌∷◌, map, Option, Some, option_map, Result, Ok, Err}
use Rattle.basis.specs.declared.memory.OrMemory.{OrMemory}
use Rattle.vwords.specs.Words.{Text}
use Rattle.vast.specs.NumberedWords.{Word, word_of}
use Rattle.vast.specs.NumberedTrees.{module_tree, item_tree, instance_tree, connections_tree}
use Rattle.vast.specs.declared.module.ModuleItem.{ModuleItem}
use Rattle.vast.specs.declared.module.Instance.{Instance}
use Rattle.vast.specs.declared.module.Connections.{Connections}
use Rattle.vast.specs.declared.module.ModuleTree.{ModuleTree as Parsed}
use Rattle.vmodules.specs.Names.{letters_of}
use Rattle.vmodules.specs.Connected.{open_names}
use Rattle.vmodules.specs.Inner.{Units, entries_tree, units_tree, port_form}
use Rattle.vmodules.specs.declared.ports.PortForm.{PortForm}
use Rattle.velab_expr.specs.declared.fault.ElabFault.{ElabFault}
use Rattle.velab_expr.specs.declared.fault.Rule.TheVariants.{TooMany}
use Rattle.velab_expr.specs.Answers.{answer_if, require, Refuses}
use Rattle.velab_expr.specs.Scopes.{Scope, at}
use Rattle.basis.specs.declared.timescale.Timescale.{Timescale}
use Rattle.vbits.specs.Vectors.{Vector}
use Rattle.vdesign.specs.Design.{Variable, Scope as Room, Design}
use Rattle.velab_process.specs.Processes.{Processes}
use Rattle.velab_process.specs.Statements.{Table}
use Rattle.velab_declaration.specs.Variables.{port_names}
use Rattle.velab_declaration.specs.Inner.{overrides_tree}
use Rattle.velab_declaration.specs.Drives.{with_start_values}
use Rattle.velab_declaration.specs.DriveMarks.{starts_from}
use Rattle.vhierarchy.specs.Instances.{Instantiation, PartialDesign, Context, child_context, lower_instances, lower_list, lower_own_variables, lower_own_processes, lower_own, each, elaborate_instance, driven_in}
use Rattle.vhierarchy.specs.declared.instantiation.Instantiation.{Instantiation as ProgramInstantiation}
use Rattle.vhierarchy.specs.declared.instantiation.Open.{Open}
use Rattle.vhierarchy.specs.declared.context.Context.{Context as ProgramContext}
use Rattle.vhierarchy.specs.declared.own.Known.{Known}

-- an instance that was found, told of the program's values
abbrev pub instantiation_tree : List Text → ProgramInstantiation → Instantiation
instantiation_tree words found = record {
  child = module_tree words found.child.now;
  name = word_of words found.name;
  known = found.known;
  values = entries_tree words found.values;
  connections = entries_tree words found.connections;
}

abbrev pub instantiation_trees : List Text → List ProgramInstantiation → List Instantiation
instantiation_trees words = map (instantiation_tree words)

-- what is asked, told of the program's values
abbrev pub context_tree : List Text → ProgramContext → Context
context_tree words context = record {
  top = context.top.now;
  path = context.path.now;
  name = word_of words context.name;
  depth = context.depth;
  unit = module_tree words context.unit.now;
  overrides = overrides_tree words context.overrides.now;
  connections = entries_tree words context.connections.now;
}

-- ---- answers, told of the program's values

-- it gives what these values say
abbrev pub GivesAs : {A B F : Type 0} → (A → B) → Result A (OrMemory F) → Result B F → Type 0
GivesAs told (Ok x) answer = answer ≡ Ok (told x)
GivesAs told (Err e) answer = Refuses e answer

-- the names of an instance, as they are known at its first item
abbrev pub scope_at_head : Known → Scope
scope_at_head known = at known.growing known.head

-- the instances of items, where so many instances and so many names stand before
abbrev pub instances_in : Units → ℕ → ℕ → List ModuleItem → Result (List Instantiation) ElabFault
instances_in units before known items = lower_instances (units_tree units) before known (map (item_tree units.words) items)

-- what may be spoken of from outside is that of this module
pub record IsOpen (words : List Text) (child : Parsed) (open_of : Open) : Type 0 where
  pub child_is : open_of.child.now ≡ child
  pub values_are : open_of.values ≡ letters_of (open_names (module_tree words child))
  pub ports_are : open_of.ports ≡ letters_of (port_names (module_tree words child))

-- the instances of a list
abbrev pub instances_listed : List Text → Parsed → ℕ → Option Connections → List Instance → Result (List Instantiation) ElabFault
instances_listed words child known overrides list =
    lower_list (module_tree words child) known (option_map (connections_tree words) overrides) (map (instance_tree words) list)

-- what an instance adds of its own
abbrev pub own_variables : List Text → ProgramContext → List PortForm → Scope → Result (List Variable) ElabFault
own_variables words context ports scope = lower_own_variables (context_tree words context) (map (port_form words) ports) scope

abbrev pub own_processes : List Text → ProgramContext → List PortForm → Scope → Table → Result Processes ElabFault
own_processes words context ports scope table = lower_own_processes (context_tree words context) (map (port_form words) ports) scope table

-- this part, where it has so few processes and scopes
abbrev pub few : Word → ℕ → ℕ → PartialDesign → Result PartialDesign ElabFault
few name processes scopes part = answer_if (nat_le processes 256) TooMany (Some name) (require (nat_le scopes 1025) TooMany (Some name) part)

abbrev pub own_part : List Text → ProgramContext → List PortForm → Scope → PartialDesign → Result PartialDesign ElabFault
own_part words context ports scope part = lower_own (context_tree words context) (map (port_form words) ports) scope part

-- an instance that is asked for and all below it, and those of a list, one after another
abbrev pub instance_below : Units → ℕ → ProgramContext → Scope → PartialDesign → Instantiation → Result PartialDesign ElabFault
instance_below units levels context scope part one = elaborate_instance levels (units_tree units) part (child_context scope (context_tree units.words context) one)

abbrev pub instances_below : Units → ℕ → ProgramContext → Scope → PartialDesign → List ProgramInstantiation → Result PartialDesign ElabFault
instances_below units levels context scope part list = each (instance_below units levels context scope) part (instantiation_trees units.words list)

-- the paths of variables
abbrev pub variable_names : List Variable → List Text
variable_names = map (λ v. v.name)

-- and those of scopes
abbrev pub scope_names : List Room → List Text
scope_names = map (λ s. s.path)

-- what its variables are before anything is written
abbrev pub starts_in : PartialDesign → List Vector
starts_in part = starts_from (driven_in part) 0 part.variables

-- variables with what each is before anything is written
abbrev pub with_starts : List Variable → List Vector → List Variable
with_starts [] starts = []
with_starts (v ∷ more) [] = v ∷ more
with_starts (v ∷ more) (start ∷ others) = record v { start = start } ∷ with_starts more others

-- a part as a design, under a top's name
abbrev pub named_design : Text → Timescale → PartialDesign → Design
named_design name scale part = record {
  top = name;
  scale = scale;
  variables = with_start_values (driven_in part) 0 part.variables;
  scopes = part.scopes;
  actions = part.table.actions;
  processes = part.begins;
}
