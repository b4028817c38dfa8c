-- *product rule*: Names as a report tells them (IEEE 1364-2005, 3.7, 12.5; docs/FORMATS.md, "Reports").
use Rattle.std.specs.Prelude.{ℕ, Bool, List}
use Rattle.vwords.specs.Words.{are_printable}

-- 3.7, 3.7.1: some printable characters, as any escaped name has; a reserved word counts as well
abbrev pub has_letters_of_name : List ℕ → Bool
has_letters_of_name = are_printable

-- 12.5: such names joined by dots, which are printable, too
abbrev pub is_path : List ℕ → Bool
is_path = are_printable
