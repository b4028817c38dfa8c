-- *product rule*: E309: how much a design may have.
use Rattle.std.specs.Prelude.{◌≡◌, ℕ, ◌+◌, ◌<◌, List, [], length, Option, Some}
use Rattle.std.specs.List.{flat_map, filter_map, sum_by}
use Rattle.vwords.specs.Words.{Text}
use Rattle.vast.specs.NumberedWords.{Word}
use Rattle.vast.specs.NumberedExpressions.{ExpressionTree}
use Rattle.vast.specs.NumberedModules.{ItemTree, parameters, declaration, events, assignments, initial, always, instances, ModuleTree, SourceTree}
use Rattle.module_size.specs.Sizes.{size_of, module_size}
use Rattle.vmodules.specs.Names.{letters_of}
use Rattle.vmodules.specs.Hierarchy.{top_of}
use Rattle.vmodules.specs.Ports.{ports_of}
use Rattle.vmodules.specs.Placed.{placed_items}
use Rattle.vmodules.specs.Connected.{value_for}
use Rattle.velab_declaration.specs.Variables.{declared_names}
use Rattle.velab_process.specs.Processes.{process_trees_by}
use Rattle.elaboration_law.specs.Hierarchy.{Instance, top_instance, instances_from}

-- what is counted; of names their bytes, of modules their sizes
pub data Counted : Type 0 where
  Variables : Counted
  Processes : Counted
  Instances : Counted
  NamedEvents : Counted
  Letters : Counted
  Sizes : Counted

-- how many of them there may be: with the top, instances are 1,025
abbrev pub limit : Counted → ℕ
limit Variables = 1024
limit Processes = 256
limit Instances = 1025
limit NamedEvents = 4294967295
limit Letters = 1048576
limit Sizes = 4194304

-- what ports are connected to: each connection is a process (12.3.9.2)
abbrev pub values_connected : Instance → List ExpressionTree
values_connected one = filter_map (λ p. value_for one.connections p.name.letters) (ports_of one.unit)

-- 9.7.3
abbrev pub events_by : ItemTree → List Word
events_by (parameters local type settings) = []
events_by (declaration kind list) = []
events_by (events names) = names
events_by (assignments settings) = []
events_by (initial statement) = []
events_by (always statement) = []
events_by (instances name overrides list) = []

-- 12.5: the bytes of an instance's path, and of the names of its variables, which are its path, a dot and then their own
abbrev pub letters_in : Instance → ℕ
letters_in one = length one.path + size_of (λ name. length one.path + (1 + length name)) (letters_of (declared_names one.unit))

-- how many an instance has
abbrev pub count_in : Counted → Instance → ℕ
count_in Variables one = length (declared_names one.unit)
count_in Processes one = length (values_connected one) + length (flat_map process_trees_by (placed_items one.path one.unit))
count_in Instances one = 1
count_in NamedEvents one = length (flat_map events_by one.unit.items)
count_in Letters one = letters_in one
count_in Sizes one = module_size (length one.path) one.unit

-- The top and all instances below it have too many together. Down to 16 levels they are counted: deeper ones are E308.
pub record HasTooMany (modules : SourceTree) (top : Option Text) : Type 0 where
  pub what : Counted
  pub unit : ModuleTree
  pub is_top : top_of modules top ≡ Some unit
  pub many : limit what < sum_by (count_in what) (instances_from 16 modules (top_instance unit))
