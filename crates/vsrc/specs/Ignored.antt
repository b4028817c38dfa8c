-- *trusted*: Directives that are passed over (IEEE 1364-2005, clause 19): they must be well formed, and change nothing (own).
use Rattle.std.specs.Prelude.{ℕ, ◌+◌, ◌==◌, ◌||◌, Bool, if◌then◌else◌, List, [], ◌∷◌, drop, Option, None, Some, option_and_then, option_map, codes}
use Rattle.std.specs.List.{prefix_len}
use Rattle.std.specs.Str.{bytes_eq}
use Rattle.std.specs.Char.{is_ascii_digit}
use Rattle.basis.specs.Letters.{is_in_name}
use Rattle.vsrc.specs.declared.words.Ignored.{Ignored}
use Rattle.vsrc.specs.declared.words.Ignored.TheVariants as ignored
use Rattle.vsrc.specs.Outside.{string_end, line_len}
use Rattle.vsrc.specs.Words.{Named, name_of_len, blanks_len, name_behind}

-- by their words
abbrev pub ignored_of : List ℕ → Option Ignored
ignored_of name =
    if bytes_eq name (codes "celldefine") then Some ignored.Celldefine
    else if bytes_eq name (codes "endcelldefine") then Some ignored.Endcelldefine
    else if bytes_eq name (codes "resetall") then Some ignored.Resetall
    else if bytes_eq name (codes "begin_keywords") then Some ignored.BeginKeywords
    else if bytes_eq name (codes "end_keywords") then Some ignored.EndKeywords
    else if bytes_eq name (codes "line") then Some ignored.Line
    else if bytes_eq name (codes "pragma") then Some ignored.Pragma
    else if bytes_eq name (codes "unconnected_drive") then Some ignored.UnconnectedDrive
    else if bytes_eq name (codes "nounconnected_drive") then Some ignored.NounconnectedDrive
    else None

-- ---- what stands behind blanks of the same line

-- digits; a word of letters, digits, _ and $
abbrev pub digits_behind : List ℕ → Option Named
digits_behind text = let rest = drop (blanks_len text) text in name_of_len (blanks_len text) (prefix_len is_ascii_digit rest) rest

abbrev pub word_behind : List ℕ → Option Named
word_behind text = let rest = drop (blanks_len text) text in name_of_len (blanks_len text) (prefix_len is_in_name rest) rest

-- 3.6: a string, with its quotes; no bytes where none is closed on its line
abbrev pub closed_len : Option ℕ → ℕ
closed_len None = 0
closed_len (Some len) = 1 + len

abbrev pub quoted_len : List ℕ → ℕ
quoted_len [] = 0
quoted_len (c ∷ cs) = if c == 34 then closed_len (string_end cs) else 0

abbrev pub string_behind : List ℕ → Option Named
string_behind text = let rest = drop (blanks_len text) text in name_of_len (blanks_len text) (quoted_len rest) rest

-- ---- how many bytes each takes behind its word, where it is well formed

-- what was found is what is asked for
abbrev pub len_if : (List ℕ → Bool) → Option Named → Option ℕ
len_if test None = None
len_if test (Some found) = if test found.name then Some found.len else None

-- 19.9: `unconnected_drive pull0 and pull1
abbrev pub is_pull : List ℕ → Bool
is_pull name = bytes_eq name (codes "pull0") || bytes_eq name (codes "pull1")

-- 19.11: the versions of `begin_keywords
abbrev pub is_version : List ℕ → Bool
is_version text =
    bytes_eq text (codes "\"1364-1995\"") || bytes_eq text (codes "\"1364-2001\"")
    || bytes_eq text (codes "\"1364-2001-noconfig\"") || bytes_eq text (codes "\"1364-2005\"")

-- 19.7: `line, the number of a line, the name of a file, and a level
abbrev pub is_level : List ℕ → Bool
is_level word = bytes_eq word (codes "0") || bytes_eq word (codes "1") || bytes_eq word (codes "2")

abbrev pub numbered_len : List ℕ → Option ℕ
numbered_len text =
    option_and_then (λ number.
    option_and_then (λ file. option_map (λ level. number.len + file.len + level) (len_if is_level (word_behind (drop (number.len + file.len) text))))
    (string_behind (drop number.len text)))
    (digits_behind text)

abbrev pub ignored_len : Ignored → List ℕ → Option ℕ
-- 19.1
ignored_len ignored.Celldefine text = Some 0
ignored_len ignored.Endcelldefine text = Some 0
-- 19.6
ignored_len ignored.Resetall text = Some 0
-- 19.11
ignored_len ignored.BeginKeywords text = len_if is_version (string_behind text)
ignored_len ignored.EndKeywords text = Some 0
ignored_len ignored.Line text = numbered_len text
-- 19.10: the rest of its line
ignored_len ignored.Pragma text = Some (line_len text)
-- 19.9
ignored_len ignored.UnconnectedDrive text = len_if is_pull (name_behind text)
ignored_len ignored.NounconnectedDrive text = Some 0
