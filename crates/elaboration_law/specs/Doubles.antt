-- *trusted*: E302: names that are declared twice (IEEE 1364-2005, 4.11, 12.7).
use Rattle.std.specs.Prelude.{◌≡◌, ℕ, Bool, true, ◌||◌, List, [], ◌∷◌, ◌++◌, map, Option, Some}
use Rattle.std.specs.List.{Contains, flat_map}
use Rattle.vwords.specs.Words.{Text}
use Rattle.vast.specs.NumberedWords.{Word}
use Rattle.vast.specs.NumberedModules.{ConnectionsTree, InstanceTree, instances, ModuleTree, SourceTree}
use Rattle.vmodules.specs.Names.{has_double, letters_of}
use Rattle.vmodules.specs.Hierarchy.{module_names, module_of, top_of}
use Rattle.vmodules.specs.Connected.{open_names}
use Rattle.velab_expr.specs.Symbols.{name_in, symbols_in_head, symbols_by, valueless_by}
use Rattle.velab_declaration.specs.Variables.{port_names, declared_names}
use Rattle.elaboration_law.specs.Hierarchy.{Instance, StandsAt, instances_from, top_instance}
use Rattle.elaboration_law.specs.ItemPorts.{HasPortTwice, HasBlockTwice}

-- the names of a module that are no variables: named events and instances, parameters of its head, and those of its items
abbrev pub other_names : ModuleTree → List Word
other_names m = map name_in (flat_map valueless_by m.items ++ (symbols_in_head m.parameters ++ flat_map symbols_by m.items))

-- all names that a module declares (12.7)
abbrev pub names_in_module : ModuleTree → List Text
names_in_module m = letters_of (declared_names m) ++ letters_of (other_names m)

-- two parameters of a module that can be set from outside, or two of its ports, have one name
abbrev pub has_head_twice : ModuleTree → Bool
has_head_twice m = has_double (letters_of (open_names m)) || has_double (letters_of (port_names m))

-- the variables of an instance by their names in the hierarchy (12.5)
abbrev pub variable_paths_in : Instance → List Text
variable_paths_in one = map (λ word. one.path ++ 46 ∷ word.letters) (declared_names one.unit)

abbrev pub path_in : Instance → List Text
path_in one = one.path ∷ []

-- 4.11, 12.7: a name is declared once. Twice are the names
pub data IsDeclaredTwice (modules : SourceTree) (top : Option Text) : Type 0 where
  -- of two modules;
  module_twice : has_double (letters_of (module_names modules)) ≡ true → IsDeclaredTwice modules top
  -- of a port of a module, reached or not (12.3.3, 12.3.4);
  port_twice : (m : ModuleTree) → Contains modules m → HasPortTwice m → IsDeclaredTwice modules top
  -- of a block of a module, reached or not (4.11, 9.8.3);
  block_twice : (m : ModuleTree) → Contains modules m → HasBlockTwice m → IsDeclaredTwice modules top
  -- of two things in a module of the hierarchy;
  name_twice : (levels : ℕ) (one : Instance) → StandsAt modules top levels one → has_double (names_in_module one.unit) ≡ true →
      IsDeclaredTwice modules top
  -- in the head of a module that an item of the hierarchy instantiates;
  head_twice : (levels : ℕ) (one : Instance) (name : Word) (overrides : Option ConnectionsTree) (list : List InstanceTree) (child : ModuleTree) →
      StandsAt modules top levels one → Contains one.unit.items (instances name overrides list) →
      module_of modules name.letters ≡ Some child → has_head_twice child ≡ true → IsDeclaredTwice modules top
  -- of two variables in the hierarchy (12.5);
  variable_twice : (m : ModuleTree) → top_of modules top ≡ Some m →
      has_double (flat_map variable_paths_in (instances_from 16 modules (top_instance m))) ≡ true → IsDeclaredTwice modules top
  -- of two instances in it
  path_twice : (m : ModuleTree) → top_of modules top ≡ Some m →
      has_double (flat_map path_in (instances_from 16 modules (top_instance m))) ≡ true → IsDeclaredTwice modules top
