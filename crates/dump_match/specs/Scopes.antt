-- *product rule*: The scope that another simulator puts round the top module (docs/FROM-ICARUS.md).
use Rattle.std.specs.Prelude.{ℕ, ◌+◌, Bool, not, ◌&&◌, ◌==◌, if◌then◌else◌, take, drop, List}
use Rattle.std.specs.List.{list_any, prefix_len}
use Rattle.std.specs.Str.{bytes_eq}
use Rattle.vcd_read.specs.Words.{Text}
use Rattle.vcd_read.specs.declared.header.VcdVariable.{VcdVariable}

abbrev pub is_no_dot : ℕ → Bool
is_no_dot c = not (c == 46)

-- the first part of a name, its outermost scope, and what stands behind it
abbrev pub outermost : Text → Text
outermost name = take (prefix_len is_no_dot name) name

abbrev pub behind_outermost : Text → Text
behind_outermost name = drop (prefix_len is_no_dot name + 1) name

-- the variable's outermost scope is the top, or the one within that is
abbrev pub is_in : Text → VcdVariable → Bool
is_in top told = bytes_eq (outermost told.name.items) top

abbrev pub is_within : Text → VcdVariable → Bool
is_within top told = bytes_eq (outermost (behind_outermost told.name.items)) top

-- no variable of the dump is in the top, but some are, where their outermost scope is left out
abbrev pub is_wrapped : Text → List VcdVariable → Bool
is_wrapped top declared = not (list_any (is_in top) declared) && list_any (is_within top) declared

-- the name by which a variable is compared
abbrev pub compared_name : Bool → Text → Text
compared_name wrapped name = if wrapped then behind_outermost name else name
