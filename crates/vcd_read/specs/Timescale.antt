-- *trusted*: The unit of a dump's times (IEEE 1364-2005, 18.2.3.5).
use Rattle.std.specs.Prelude.{if◌then◌else◌, take, drop, List, [], ◌∷◌, Option, Some, None, codes}
use Rattle.std.specs.List.{prefix_len}
use Rattle.std.specs.Str.{bytes_eq}
use Rattle.std.specs.Char.{is_ascii_digit}
use Rattle.basis.specs.declared.timescale.Count.{Count}
use Rattle.basis.specs.declared.timescale.Count.TheVariants.{One, Ten, Hundred}
use Rattle.basis.specs.declared.timescale.Unit.{Unit}
use Rattle.basis.specs.declared.timescale.Unit.TheVariants.{Second, Millisecond, Microsecond, Nanosecond, Picosecond, Femtosecond}
use Rattle.basis.specs.declared.timescale.Span.{Span}
use Rattle.vcd_read.specs.Words.{Text}

abbrev pub count_of : Text → Option Count
count_of number =
    if bytes_eq number (codes "1") then Some One
    else if bytes_eq number (codes "10") then Some Ten
    else if bytes_eq number (codes "100") then Some Hundred
    else None

abbrev pub unit_of : Text → Option Unit
unit_of word =
    if bytes_eq word (codes "s") then Some Second
    else if bytes_eq word (codes "ms") then Some Millisecond
    else if bytes_eq word (codes "us") then Some Microsecond
    else if bytes_eq word (codes "ns") then Some Nanosecond
    else if bytes_eq word (codes "ps") then Some Picosecond
    else if bytes_eq word (codes "fs") then Some Femtosecond
    else None

abbrev pub span_of_parts : Option Count → Option Unit → Option Span
span_of_parts None unit = None
span_of_parts (Some count) None = None
span_of_parts (Some count) (Some unit) = Some (record { count = count; unit = unit })

-- a number and a unit, in one word
abbrev pub span_of : Text → Option Span
span_of word = span_of_parts (count_of (take (prefix_len is_ascii_digit word) word)) (unit_of (drop (prefix_len is_ascii_digit word) word))

-- and in one or two
abbrev pub span_in : List Text → Option Span
span_in [] = None
span_in (word ∷ []) = span_of word
span_in (number ∷ unit ∷ []) = span_of_parts (count_of number) (unit_of unit)
span_in (number ∷ unit ∷ word ∷ words) = None
