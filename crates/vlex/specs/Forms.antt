-- *trusted*: What bytes are, taken alone (IEEE 1364-2005, 3.2 to 3.7): a run of blanks, a comment, a token of some kind, or none of
-- these.
use Rattle.std.specs.Prelude.{ℕ, ◌+◌, ◌-◌, ◌*◌, Bool, true, false, ◌==◌, ◌&&◌, ◌||◌, not, nat_lt, nat_le, if◌then◌else◌, List, [], ◌∷◌, length, take, drop, Option, None, Some, fold, codes}
use Rattle.std.specs.List.{list_all, list_any, prefix_len}
use Rattle.std.specs.Str.{bytes_eq}
use Rattle.vsrc.specs.Outside.{block_end, string_end}
use Rattle.vlex.specs.declared.bytes.Set.{Set}
use Rattle.vlex.specs.declared.bytes.Set.TheVariants.{Blanks, Words, Escapes, Decimals, Binaries, Octals, Hexadecimals, Underscores, LineBytes}
use Rattle.vlex.specs.declared.bytes.Lead.{Lead}
use Rattle.vlex.specs.declared.bytes.Lead.TheVariants as lead
use Rattle.vlex.specs.declared.form.Form.{Form}
use Rattle.vlex.specs.declared.form.Form.TheVariants.{Blank, Comment, Token}
use Rattle.vlex.specs.declared.kind.TokenKind.TheVariants.{Name, System, Plain, Based, Text, Symbol}
use Rattle.vlex.specs.Bytes.{is_apostrophe, is_underscore, is_unknown, is_in, lead_of}

abbrev pub only_if : Bool → Form → Option Form
only_if test form = if test then Some form else None

-- at least one letter, digit, _ or $
abbrev pub is_word : List ℕ → Bool
is_word [] = false
is_word (c ∷ cs) = list_all (is_in Words) (c ∷ cs)

-- 3.7.1: what stands behind a backslash, up to white space: one byte at least
abbrev pub is_escaped : List ℕ → Bool
is_escaped [] = false
is_escaped (c ∷ cs) = list_all (is_in Escapes) (c ∷ cs)

-- an end that is found is that of the bytes
abbrev pub is_whole : Option ℕ → List ℕ → Bool
is_whole None bytes = false
is_whole (Some len) bytes = len == length bytes

-- Comments (3.3): what stands after /* ends with the first */
abbrev pub ends_block : List ℕ → Bool
ends_block bytes = is_whole (block_end bytes) bytes

-- Strings (3.6): what stands after the opening quote ends with the closing one, on the same line.
abbrev pub ends_string : List ℕ → Bool
ends_string bytes = is_whole (string_end bytes) bytes

-- After a backslash stands n, t, a backslash, a quote, or one to three octal digits, of 377 at most (3.6.3; own).
abbrev pub is_octal : ℕ → Bool
is_octal c = nat_le 48 c && nat_le c 55

abbrev pub begins_octals : List ℕ → Bool
begins_octals [] = false
begins_octals (c ∷ []) = false
begins_octals (c ∷ d ∷ cs) = is_octal c && is_octal d

abbrev pub is_escape : ℕ → List ℕ → Bool
is_escape c behind =
    c == 110 || c == 116 || c == 92 || c == 34
    || is_octal c && not (nat_lt 51 c && begins_octals behind)

abbrev pub has_good_escapes : List ℕ → Bool
has_good_escapes [] = true
has_good_escapes (c ∷ []) = not (c == 92)
has_good_escapes (c ∷ d ∷ cs) =
    if c == 92 then is_escape d cs && has_good_escapes cs
    else has_good_escapes (d ∷ cs)

-- Numbers (3.5.1)

-- the decimal number that digits spell, _ passed over
abbrev pub with_digit : ℕ → ℕ → ℕ
with_digit n c = if is_underscore c then n else 10 * n + (c - 48)

abbrev pub spelled_number : List ℕ → ℕ
spelled_number = fold with_digit 0

-- a size is 1 to 64 (own), which zeros may stand before (own)
abbrev pub is_size : List ℕ → Bool
is_size digits = nat_le 1 (spelled_number digits) && nat_le (spelled_number digits) 64

-- the digits at the head
abbrev pub leading_digits : List ℕ → List ℕ
leading_digits bytes = take (prefix_len (is_in Decimals) bytes) bytes

-- what stands behind the blanks at the head
abbrev pub skip_blanks : List ℕ → List ℕ
skip_blanks bytes = drop (prefix_len (is_in Blanks) bytes) bytes

-- after a first digit other than _ stand digits of the same base
abbrev pub digits_from : Set → ℕ → Option Set
digits_from set first = if is_in set first && not (first == 95) then Some set else None

-- what may stand after a base letter and a first digit; x, z and ? stand alone in base d
abbrev pub digits_after : ℕ → ℕ → Option Set
digits_after base first =
    if base == 98 || base == 66 then digits_from Binaries first
    else if base == 111 || base == 79 then digits_from Octals first
    else if base == 104 || base == 72 then digits_from Hexadecimals first
    else if base == 100 || base == 68 then (if is_unknown first then Some Underscores else digits_from Decimals first)
    else None

abbrev pub are_in : Option Set → List ℕ → Bool
are_in None digits = false
are_in (Some set) digits = list_all (is_in set) digits

-- a digit of the base, and more of them
abbrev pub are_digits : ℕ → List ℕ → Bool
are_digits base [] = false
are_digits base (first ∷ digits) = are_in (digits_after base first) digits

-- a base letter, blanks or none, and digits
abbrev pub is_base_and_digits : List ℕ → Bool
is_base_and_digits [] = false
is_base_and_digits (base ∷ cs) = are_digits base (skip_blanks cs)

-- what stands after the apostrophe: s or not, then base and digits
abbrev pub is_based : List ℕ → Bool
is_based [] = false
is_based (c ∷ cs) = if c == 115 || c == 83 then is_base_and_digits cs else is_base_and_digits (c ∷ cs)

-- a number without size
abbrev pub is_unsized : List ℕ → Bool
is_unsized [] = false
is_unsized (c ∷ cs) = is_apostrophe c && is_based cs

-- digits alone, or a size, blanks or none, and a number without size
abbrev pub number_by : List ℕ → List ℕ → Option Form
number_by digits [] = Some (Token Plain)
number_by digits (c ∷ cs) = only_if (is_size digits && is_unsized (skip_blanks (c ∷ cs))) (Token Based)

-- what begins with a digit
abbrev pub number_form : List ℕ → Option Form
number_form bytes = let len = prefix_len (is_in Decimals) bytes in number_by (take len bytes) (drop len bytes)

-- Symbols (3.4, 5.1)

abbrev pub is_double : ℕ → ℕ → Bool
is_double a b = list_any (λ symbol. bytes_eq symbol (a ∷ b ∷ []))
    (codes "^~" ∷ codes "~^" ∷ codes "~&" ∷ codes "~|" ∷ codes "&&" ∷ codes "||" ∷ codes "==" ∷ codes "!="
    ∷ codes "<=" ∷ codes ">=" ∷ codes "<<" ∷ codes ">>" ∷ codes "->" ∷ codes "**" ∷ codes "+:" ∷ codes "-:" ∷ [])

abbrev pub is_triple : ℕ → ℕ → ℕ → Bool
is_triple a b c = list_any (λ symbol. bytes_eq symbol (a ∷ b ∷ c ∷ [])) (codes "===" ∷ codes "!==" ∷ codes "<<<" ∷ codes ">>>" ∷ [])

-- a mark alone, or with the bytes after it
abbrev pub is_symbol : ℕ → List ℕ → Bool
is_symbol a [] = true
is_symbol a (b ∷ []) = is_double a b
is_symbol a (b ∷ c ∷ []) = is_triple a b c
is_symbol a (b ∷ c ∷ d ∷ ds) = false

-- what begins with a slash
abbrev pub slash_form : List ℕ → Option Form
slash_form [] = Some (Token Symbol)
slash_form (c ∷ cs) =
    if c == 47 then only_if (list_all (is_in LineBytes) cs) Comment
    else if c == 42 then only_if (ends_block cs) Comment
    else None

-- the form of a first byte of this lead and of what stands after it
abbrev pub form_by : Lead → ℕ → List ℕ → Option Form
form_by lead.Blank c cs = only_if (list_all (is_in Blanks) cs) Blank
form_by lead.Letter c cs = only_if (list_all (is_in Words) cs) (Token Name)
form_by lead.Backslash c cs = only_if (is_escaped cs) (Token Name)
form_by lead.Dollar c cs = only_if (is_word cs) (Token System)
form_by lead.Digit c cs = number_form (c ∷ cs)
form_by lead.Apostrophe c cs = only_if (is_based cs) (Token Based)
form_by lead.Quote c cs = only_if (ends_string cs && has_good_escapes cs) (Token Text)
form_by lead.Slash c cs = slash_form cs
form_by lead.Punctuation c cs = only_if (is_symbol c cs) (Token Symbol)
form_by lead.Other c cs = None

abbrev pub form_of : List ℕ → Option Form
form_of [] = None
form_of (c ∷ cs) = form_by (lead_of c) c cs
