-- *trusted*: E301: modules that aren't there (IEEE 1364-2005, 12.1.1, 12.1.2).
use Rattle.std.specs.Prelude.{◌≡◌, ℕ, List, Option, None}
use Rattle.std.specs.List.{Contains}
use Rattle.vwords.specs.Words.{Text}
use Rattle.vast.specs.NumberedWords.{Word}
use Rattle.vast.specs.NumberedModules.{ConnectionsTree, InstanceTree, instances, SourceTree}
use Rattle.vmodules.specs.Hierarchy.{module_of, top_of}
use Rattle.elaboration_law.specs.Hierarchy.{Instance, StandsAt}

-- There is no
pub data LacksModule (modules : SourceTree) (top : Option Text) : Type 0 where
  -- top (12.1.1);
  no_top : top_of modules top ≡ None → LacksModule modules top
  -- module of the name that an item of the hierarchy instantiates (12.1.2)
  no_module : (levels : ℕ) (one : Instance) (name : Word) (overrides : Option ConnectionsTree) (list : List InstanceTree) →
      StandsAt modules top levels one → Contains one.unit.items (instances name overrides list) → module_of modules name.letters ≡ None →
      LacksModule modules top
