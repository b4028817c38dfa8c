-- *trusted*: Words: what may stand for a name or a number in a tree, and which words the profile has (docs/LANGUAGE.md, "Words"; IEEE
-- 1364-2005, 3.7, 3.5.1). A word is the bytes of one token.
use Rattle.std.specs.Prelude.{Bool, false, ◌&&◌, ◌||◌, not, nat_le, if◌then◌else◌, ℕ, ◌==◌, List, [], ◌∷◌, codes}
use Rattle.std.specs.List.{list_any, list_all}
use Rattle.std.specs.Str.{bytes_eq}
use Rattle.std.specs.Char.{is_ascii_digit}
use Rattle.basis.specs.Letters.{begins_name, is_in_name}

-- a word of the text, by its bytes
abbrev pub Text : Type 0
Text = List ℕ

-- the reserved words of this product, in the order of their letters: not all of the standard's (own; docs/LANGUAGE.md, "Words")
unfoldable pub reserved_words : List (List ℕ)
reserved_words =
    codes "always" ∷ codes "and" ∷ codes "assign" ∷ codes "automatic" ∷ codes "begin" ∷ codes "buf" ∷ codes "bufif0"
    ∷ codes "bufif1" ∷ codes "case" ∷ codes "casex" ∷ codes "casez" ∷ codes "cell" ∷ codes "cmos" ∷ codes "config"
    ∷ codes "deassign" ∷ codes "default" ∷ codes "defparam" ∷ codes "design" ∷ codes "disable" ∷ codes "edge"
    ∷ codes "else" ∷ codes "end" ∷ codes "endcase" ∷ codes "endconfig" ∷ codes "endfunction" ∷ codes "endgenerate"
    ∷ codes "endmodule" ∷ codes "endprimitive" ∷ codes "endspecify" ∷ codes "endtable" ∷ codes "endtask"
    ∷ codes "event" ∷ codes "for" ∷ codes "force" ∷ codes "forever" ∷ codes "fork" ∷ codes "function"
    ∷ codes "generate" ∷ codes "genvar" ∷ codes "if" ∷ codes "ifnone" ∷ codes "initial" ∷ codes "inout"
    ∷ codes "input" ∷ codes "instance" ∷ codes "integer" ∷ codes "join" ∷ codes "liblist" ∷ codes "library"
    ∷ codes "localparam" ∷ codes "macromodule" ∷ codes "module" ∷ codes "nand" ∷ codes "negedge" ∷ codes "nmos"
    ∷ codes "nor" ∷ codes "not" ∷ codes "notif0" ∷ codes "notif1" ∷ codes "or" ∷ codes "output" ∷ codes "parameter"
    ∷ codes "pmos" ∷ codes "posedge" ∷ codes "primitive" ∷ codes "pulldown" ∷ codes "pullup" ∷ codes "real"
    ∷ codes "realtime" ∷ codes "reg" ∷ codes "release" ∷ codes "repeat" ∷ codes "signed" ∷ codes "specify"
    ∷ codes "specparam" ∷ codes "supply0" ∷ codes "supply1" ∷ codes "table" ∷ codes "task" ∷ codes "time"
    ∷ codes "tri" ∷ codes "tri0" ∷ codes "tri1" ∷ codes "triand" ∷ codes "trior" ∷ codes "trireg"
    ∷ codes "unsigned" ∷ codes "use" ∷ codes "uwire" ∷ codes "wait" ∷ codes "wand" ∷ codes "while" ∷ codes "wire"
    ∷ codes "wor" ∷ codes "xnor" ∷ codes "xor" ∷ []

-- 3.7.2, of the words above (own)
abbrev pub is_reserved : List ℕ → Bool
is_reserved word = list_any (λ reserved. bytes_eq reserved word) reserved_words

-- 3.7: a letter or `_`, then letters, digits, `_` and `$`, and no reserved word
abbrev pub is_simple_name : List ℕ → Bool
is_simple_name [] = false
is_simple_name (c ∷ cs) = begins_name c && list_all is_in_name cs && not (is_reserved (c ∷ cs))

-- 3.7.1: the printable characters, `!` to `~`
abbrev pub is_printable : ℕ → Bool
is_printable c = nat_le 33 c && nat_le c 126

abbrev pub are_printable : List ℕ → Bool
are_printable [] = false
are_printable (c ∷ cs) = list_all is_printable (c ∷ cs)

-- 3.7.1: among tokens, an escaped name is a backslash and some of these
abbrev pub is_escaped_name : List ℕ → Bool
is_escaped_name [] = false
is_escaped_name (c ∷ cs) = c == 92 && are_printable cs

-- 3.7
abbrev pub is_name : List ℕ → Bool
is_name word = is_simple_name word || is_escaped_name word

-- 3.7.1: what the word of a name names: the backslash isn't part of it
abbrev pub without_backslash : List ℕ → List ℕ
without_backslash [] = []
without_backslash (c ∷ cs) = if c == 92 then cs else c ∷ cs

-- 3.5.1: among tokens the numbers are those that begin with a digit or an apostrophe
abbrev pub is_number : List ℕ → Bool
is_number [] = false
is_number (c ∷ cs) = is_ascii_digit c || (c == 39)

-- 3.6: among tokens the strings are those that begin with a quote
abbrev pub is_string : List ℕ → Bool
is_string [] = false
is_string (c ∷ cs) = c == 34

-- 17.7.1
abbrev pub is_time : List ℕ → Bool
is_time word = bytes_eq (codes "$time") word

-- the words that a tree keeps: names, numbers, strings, and `$time`; all others it tells by its form
abbrev pub is_leaf : List ℕ → Bool
is_leaf word = is_name word || (is_number word || (is_string word || is_time word))
