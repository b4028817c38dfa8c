-- *trusted*: Instances, and which stand below which (IEEE 1364-2005, 12.1).
use Rattle.std.specs.Prelude.{◌≡◌, ℕ, zero, suc, List, [], ◌∷◌, ◌++◌, map, Option, None, Some}
use Rattle.std.specs.List.{Contains, flat_map}
use Rattle.vwords.specs.Words.{Text}
use Rattle.vast.specs.NumberedModules.{InstanceTree, ItemTree, parameters, declaration, events, assignments, initial, always, instances, ModuleTree, SourceTree}
use Rattle.vmodules.specs.Names.{letters_of}
use Rattle.vmodules.specs.Hierarchy.{module_of, top_of}
use Rattle.vmodules.specs.Connected.{NamedConnection, named_connections}
use Rattle.velab_declaration.specs.Variables.{port_names}

-- an instance: its name in the hierarchy (12.5), its module, and what its ports are connected to (12.1.2, 12.3)
pub record Instance : Type 0 where
  pub path : Text
  pub unit : ModuleTree
  pub connections : List NamedConnection

-- in the instance of this path
abbrev pub instance_by : Text → ModuleTree → InstanceTree → Instance
instance_by path unit one = record {
  path = path ++ 46 ∷ one.name.letters;
  unit = unit;
  connections = named_connections (letters_of (port_names unit)) one.connections;
}

-- those of a module, where it is in the text
abbrev pub instances_of : Text → Option ModuleTree → List InstanceTree → List Instance
instances_of path None list = []
instances_of path (Some unit) list = map (instance_by path unit) list

abbrev pub instances_by : SourceTree → Text → ItemTree → List Instance
instances_by modules path (parameters local type settings) = []
instances_by modules path (declaration kind list) = []
instances_by modules path (events names) = []
instances_by modules path (assignments settings) = []
instances_by modules path (initial statement) = []
instances_by modules path (always statement) = []
instances_by modules path (instances name overrides list) = instances_of path (module_of modules name.letters) list

-- the instances in an instance, in the order of the text
abbrev pub instances_in : SourceTree → Instance → List Instance
instances_in modules one = flat_map (instances_by modules one.path) one.unit.items

-- the other instance stands so many levels below this one
abbrev pub StandsBelow : SourceTree → ℕ → Instance → Instance → Type 0
StandsBelow modules zero one other = one ≡ other
StandsBelow modules (suc levels) one other =
    (child : Instance) × Contains (instances_in modules one) child × StandsBelow modules levels child other

-- 12.1.1: the top goes by the name of its module, and nothing is connected to it
abbrev pub top_instance : ModuleTree → Instance
top_instance m = record { path = m.name.letters; unit = m; connections = [] }

-- an instance stands so many levels below the top
abbrev pub StandsAt : SourceTree → Option Text → ℕ → Instance → Type 0
StandsAt modules top levels one = (m : ModuleTree) × (top_of modules top ≡ Some m) × StandsBelow modules levels (top_instance m) one

-- an instance and those below it, down to so many levels, in the order of the text
abbrev pub instances_from : ℕ → SourceTree → Instance → List Instance
instances_from zero modules one = one ∷ []
instances_from (suc levels) modules one = one ∷ flat_map (instances_from levels modules) (instances_in modules one)
