-- *trusted*: E303: names that nothing declares, parameters that stand before their declarations in constants, and paths of `$dumpvars` to
-- nothing (IEEE 1364-2005, 4.10.1, 12.2, 12.5, 12.7, 18.1.2).
use Rattle.std.specs.Prelude.{◌≡◌, Bool, true, false, ◌||◌, List, Option, Some}
use Rattle.std.specs.List.{Contains, flat_map, list_all}
use Rattle.vwords.specs.Words.{Text}
use Rattle.vast.specs.NumberedModules.{ModuleTree, SourceTree}
use Rattle.vmodules.specs.Names.{is_declared}
use Rattle.vmodules.specs.Hierarchy.{top_of}
use Rattle.elaboration_law.specs.Doubles.{variable_paths_in, path_in}
use Rattle.elaboration_law.specs.Hierarchy.{Instance, instances_from, top_instance}
use Rattle.elaboration_law.specs.ItemPorts.{HasPortAlone}
use Rattle.elaboration_law.specs.Uses.{Use, use_of, use_of_time, use_of_formats, use_of_levels}
use Rattle.elaboration_law.specs.Places.{Place, HasMisuse}
use Rattle.elaboration_law.specs.Selected.{paths_in_instance}

-- a constant uses what stands before it, and all else what its module declares anywhere
abbrev pub is_known : Place → Use → Bool
is_known place (use_of way true name) = is_declared place.known name.letters
is_known place (use_of way false name) = is_declared place.names name.letters
is_known place (use_of_time constant) = true
is_known place (use_of_formats arguments) = true
is_known place (use_of_levels levels) = true

-- all instances of the hierarchy, those of a text that has a design
abbrev pub all_below : SourceTree → ModuleTree → List Instance
all_below modules m = instances_from 16 modules (top_instance m)

-- 12.5, 18.1.2: the path is that of an instance, or that of a variable (E310)
abbrev pub is_there : List Instance → Text → Bool
is_there all path = is_declared (flat_map path_in all) path || is_declared (flat_map variable_paths_in all) path

-- all that `$dumpvars` selects in these instances is there
abbrev pub is_all_there : Text → List Instance → Bool
is_all_there top all = list_all (is_there all) (flat_map (paths_in_instance top) all)

-- There is
pub data HasUnknown (modules : SourceTree) (top : Option Text) : Type 0 where
  -- a name that isn't known where it is used;
  of_name : HasMisuse is_known modules top → HasUnknown modules top
  -- in a module, reached or not, a port without a declaration, or a declaration of a port that the list hasn't (12.3.2, 12.3.3);
  of_port : (m : ModuleTree) → Contains modules m → HasPortAlone m → HasUnknown modules top
  -- a path to nothing
  of_path : (m : ModuleTree) → top_of modules top ≡ Some m → is_all_there m.name.letters (all_below modules m) ≡ false → HasUnknown modules top
