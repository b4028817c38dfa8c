-- *product rule*: E304: bits of nets with more than one driver. No strength resolves them (IEEE 1364-2005, 4.6).
use Rattle.std.specs.Prelude.{◌≡◌, ◌<◌, ℕ, slice_get, Option, Some, Ok}
use Rattle.vwords.specs.Words.{Text}
use Rattle.vast.specs.NumberedModules.{ModuleTree, SourceTree}
use Rattle.vmodules.specs.Hierarchy.{top_of}
use Rattle.velab_declaration.specs.Drives.{Place}
use Rattle.vhierarchy.specs.Instances.{PartialDesign, elaborate_top, driven_in}

-- Continuous assignments (6.1) or port connections (12.3.9.2) of what the text's top is lowered to drive one bit twice.
pub record HasTwoDrivers (modules : SourceTree) (top : Option Text) : Type 0 where
  pub unit : ModuleTree
  pub part : PartialDesign
  pub is_top : top_of modules top ≡ Some unit
  pub lowered : elaborate_top modules unit ≡ Ok part
  pub place : Place
  pub one : ℕ
  pub other : ℕ
  pub before : one < other
  pub driven : slice_get (driven_in part) one ≡ Some place
  pub again : slice_get (driven_in part) other ≡ Some place
