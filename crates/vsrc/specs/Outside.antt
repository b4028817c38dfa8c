-- *trusted*: Where comments and strings end (IEEE 1364-2005, 3.3 and 3.6).
use Rattle.std.specs.Prelude.{ℕ, ◌+◌, ◌==◌, ◌&&◌, not, List, [], ◌∷◌, length, Option, None, Some, unwrap_or, option_map, if◌then◌else◌}
use Rattle.std.specs.List.{position_or_len}
use Rattle.memchr.specs.Find.{is_byte}

-- so many bytes further on
abbrev pub further : ℕ → Option ℕ → Option ℕ
further n = option_map (λ len. n + len)

-- 3.3: how far it is to the end of the first */ , where there is one
abbrev pub block_end : List ℕ → Option ℕ
block_end [] = None
block_end (c ∷ []) = None
block_end (c ∷ d ∷ cs) = if c == 42 && d == 47 then Some 2 else further 1 (block_end (d ∷ cs))

-- 3.6: how far it is to the end of the string that is open, behind its closing quote, where it is closed on its line.
-- A backslash takes the next byte along, save a line feed.
abbrev pub string_end : List ℕ → Option ℕ
string_end [] = None
string_end (c ∷ []) = if c == 34 then Some 1 else None
string_end (c ∷ d ∷ cs) =
    if c == 34 then Some 1
    else if c == 10 then None
    else if c == 92 && not (d == 10) then further 2 (string_end cs)
    else further 1 (string_end (d ∷ cs))

-- how far it is to the end of the line, before its line feed
abbrev pub line_len : List ℕ → ℕ
line_len = position_or_len (is_byte 10)

-- a comment that isn't closed goes on to the end of the text, and a string to the end of its line
abbrev pub block_len : List ℕ → ℕ
block_len cs = unwrap_or (block_end cs) (length cs)

abbrev pub string_len : List ℕ → ℕ
string_len cs = unwrap_or (string_end cs) (line_len cs)

-- 3.3: what a slash begins, told from the bytes behind it: a comment to the line's end, one to the first */ , or nothing
abbrev pub slash_len : List ℕ → ℕ
slash_len [] = 1
slash_len (d ∷ cs) =
    if d == 47 then 2 + line_len cs
    else if d == 42 then 2 + block_len cs
    else 1

-- how many bytes belong together at the head of a text that begins outside comments and strings
abbrev pub stretch_len : List ℕ → ℕ
stretch_len [] = 0
stretch_len (c ∷ cs) =
    if c == 34 then 1 + string_len cs
    else if c == 47 then slash_len cs
    else 1
