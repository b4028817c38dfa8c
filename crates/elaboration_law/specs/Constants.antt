-- *trusted*: E307: constants that use a variable or the time (IEEE 1364-2005, 4.3.1, 4.10, 5.1.14, 5.2.1).
use Rattle.std.specs.Prelude.{Bool, true, not, ◌&&◌, Option}
use Rattle.vwords.specs.Words.{Text}
use Rattle.vast.specs.NumberedModules.{SourceTree}
use Rattle.vmodules.specs.Names.{is_declared}
use Rattle.elaboration_law.specs.Uses.{Use, use_of, use_of_time, use_of_formats, use_of_levels}
use Rattle.elaboration_law.specs.Places.{Place, HasMisuse}

-- what a constant uses is no variable, and not the time
abbrev pub is_fixed : Place → Use → Bool
is_fixed place (use_of way constant name) = not (constant && is_declared place.variables name.letters)
is_fixed place (use_of_time constant) = not constant
is_fixed place (use_of_formats arguments) = true
is_fixed place (use_of_levels levels) = true

-- a constant uses a variable or the time
abbrev pub HasUnfixed : SourceTree → Option Text → Type 0
HasUnfixed modules top = HasMisuse is_fixed modules top
