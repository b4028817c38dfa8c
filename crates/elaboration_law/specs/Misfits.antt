-- *trusted*: E305: a connection or an override of an instance for which its module has no port or parameter (IEEE 1364-2005, 12.2.2, 12.3.5, 12.3.6, 12.3.9.2).
use Rattle.std.specs.Prelude.{◌≡◌, ◌⊎◌, ℕ, true, List, Option, None, Some}
use Rattle.std.specs.List.{Contains}
use Rattle.vwords.specs.Words.{Text}
use Rattle.vast.specs.NumberedWords.{Word}
use Rattle.vast.specs.NumberedExpressions.{ExpressionTree}
use Rattle.vast.specs.NumberedModules.{ConnectionsTree, InstanceTree, instances, ModuleTree, SourceTree}
use Rattle.vmodules.specs.Names.{letters_of}
use Rattle.vmodules.specs.Hierarchy.{module_of}
use Rattle.vmodules.specs.Ports.{Port, ports_of}
use Rattle.vmodules.specs.Connected.{open_names, misfit, misfit_if, value_for}
use Rattle.velab_declaration.specs.Variables.{port_names}
use Rattle.velab_expr.specs.Written.{target_of}
use Rattle.elaboration_law.specs.Hierarchy.{Instance, StandsAt}

-- what is said of its parameters (12.2.2), or what its ports are connected to (12.3.5, 12.3.6), doesn't fit those of the module
abbrev pub Misfits : ModuleTree → Option ConnectionsTree → InstanceTree → Word → Type 0
Misfits child overrides made word =
    (misfit_if made.name (letters_of (open_names child)) overrides ≡ Some word)
    ⊎ (misfit made.name (letters_of (port_names child)) made.connections ≡ Some word)

pub data HasMisfit (modules : SourceTree) (top : Option Text) : Type 0 where
  -- of an instance that an item of the hierarchy lists
  of_instance : (levels : ℕ) (one : Instance) (name : Word) (overrides : Option ConnectionsTree) (list : List InstanceTree) (child : ModuleTree)
      (made : InstanceTree) (word : Word) → StandsAt modules top levels one → Contains one.unit.items (instances name overrides list) →
      module_of modules name.letters ≡ Some child → Contains list made → Misfits child overrides made word → HasMisfit modules top
  -- 12.3.9.2: an output of an instance of the hierarchy is connected to what can't be driven
  of_output : (levels : ℕ) (one : Instance) (p : Port) (value : ExpressionTree) → StandsAt modules top levels one →
      Contains (ports_of one.unit) p → p.output ≡ true → value_for one.connections p.name.letters ≡ Some value → target_of value ≡ None →
      HasMisfit modules top
