-- *trusted*: Timescales (IEEE 1364-2005, 19.8): a length of time for the unit, a slash, and one for the precision.
use Rattle.std.specs.Prelude.{ℕ, ◌+◌, ◌==◌, if◌then◌else◌, nat_lt, List, [], ◌∷◌, take, drop, Option, None, Some, option_and_then, codes}
use Rattle.std.specs.List.{prefix_len}
use Rattle.std.specs.Str.{bytes_eq}
use Rattle.std.specs.Char.{is_ascii_digit}
use Rattle.basis.specs.declared.timescale.Count.{Count}
use Rattle.basis.specs.declared.timescale.Count.TheVariants.{One, Ten, Hundred}
use Rattle.basis.specs.declared.timescale.Unit.{Unit}
use Rattle.basis.specs.declared.timescale.Unit.TheVariants.{Second, Millisecond, Microsecond, Nanosecond, Picosecond, Femtosecond}
use Rattle.basis.specs.declared.timescale.Span.{Span}
use Rattle.basis.specs.declared.timescale.Timescale.{Timescale}
use Rattle.basis.specs.Timescales.{femtoseconds}
use Rattle.basis.specs.Letters.{is_in_name}
use Rattle.vsrc.specs.Words.{blanks_len}

-- the numbers and the units that may stand in a timescale
abbrev pub count_of : List ℕ → Option Count
count_of digits =
    if bytes_eq digits (codes "1") then Some One
    else if bytes_eq digits (codes "10") then Some Ten
    else if bytes_eq digits (codes "100") then Some Hundred
    else None

abbrev pub unit_of : List ℕ → Option Unit
unit_of word =
    if bytes_eq word (codes "s") then Some Second
    else if bytes_eq word (codes "ms") then Some Millisecond
    else if bytes_eq word (codes "us") then Some Microsecond
    else if bytes_eq word (codes "ns") then Some Nanosecond
    else if bytes_eq word (codes "ps") then Some Picosecond
    else if bytes_eq word (codes "fs") then Some Femtosecond
    else None

-- a length of time, and how many bytes spell it
pub record Spanned : Type 0 where
  pub span : Span
  pub len : ℕ

abbrev pub span_of_parts : ℕ → Option Count → Option Unit → Option Spanned
span_of_parts len None unit = None
span_of_parts len (Some count) None = None
span_of_parts len (Some count) (Some unit) = Some (record { span = record { count = count; unit = unit }; len = len })

-- behind the digits of a number and blanks, all letters, digits, _ and $ are the unit's word
abbrev pub unit_behind : List ℕ → ℕ → List ℕ → Option Spanned
unit_behind digits len behind =
    let word = drop (blanks_len behind) behind in
    span_of_parts (len + blanks_len behind + prefix_len is_in_name word) (count_of digits) (unit_of (take (prefix_len is_in_name word) word))

-- the length of time at the head: its digits, blanks or none, its unit
abbrev pub span_at : ℕ → List ℕ → Option Spanned
span_at before text =
    let digits = prefix_len is_ascii_digit text in unit_behind (take digits text) (before + digits) (drop digits text)

-- the length of time behind blanks, and the slash behind blanks
abbrev pub span_behind : List ℕ → Option Spanned
span_behind text = span_at (blanks_len text) (drop (blanks_len text) text)

abbrev pub slash_at : ℕ → List ℕ → Option ℕ
slash_at before [] = None
slash_at before (c ∷ cs) = if c == 47 then Some (before + 1) else None

abbrev pub slash_behind : List ℕ → Option ℕ
slash_behind text = slash_at (blanks_len text) (drop (blanks_len text) text)

-- a timescale, and how many bytes spell it
pub record Timed : Type 0 where
  pub timescale : Timescale
  pub len : ℕ

-- the precision isn't longer than the unit
abbrev pub timescale_with : ℕ → Span → Span → Option Timed
timescale_with len unit precision =
    if nat_lt (femtoseconds unit) (femtoseconds precision) then None
    else Some (record { timescale = record { unit = unit; precision = precision }; len = len })

-- 19.8: the timescale that stands on the rest of the line, blanks between its parts or not
abbrev pub timescale_behind : List ℕ → Option Timed
timescale_behind text =
    option_and_then (λ unit.
    option_and_then (λ slash.
    option_and_then (λ precision. timescale_with (unit.len + slash + precision.len) unit.span precision.span)
    (span_behind (drop (unit.len + slash) text)))
    (slash_behind (drop unit.len text)))
    (span_behind text)
