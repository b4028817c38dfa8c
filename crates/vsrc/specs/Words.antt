-- *trusted*: What a directive is read by: blanks, names (IEEE 1364-2005, 3.2 and 3.7) and the words of directives (clause 19).
use Rattle.std.specs.Prelude.{ℕ, ◌+◌, ◌==◌, ◌||◌, Bool, if◌then◌else◌, List, [], ◌∷◌, take, drop, Option, None, Some, codes}
use Rattle.std.specs.List.{prefix_len}
use Rattle.std.specs.Str.{bytes_eq}
use Rattle.basis.specs.Letters.{begins_name, is_in_name}
use Rattle.vsrc.specs.declared.words.Word.{Word}
use Rattle.vsrc.specs.declared.words.Word.TheVariants.{Define, Undef, Ifdef, Ifndef, Elsif, Else, Endif, Timescale, DefaultNettype}

-- 3.2: what stands between words of one line: space, tab, form feed and carriage return (own)
abbrev pub is_blank : ℕ → Bool
is_blank c = c == 32 || c == 9 || c == 13 || c == 12

-- how many bytes at the head are blanks, and how many a name there has: none where no name begins
abbrev pub blanks_len : List ℕ → ℕ
blanks_len text = prefix_len is_blank text

abbrev pub name_len : List ℕ → ℕ
name_len [] = 0
name_len (c ∷ cs) = if begins_name c then prefix_len is_in_name (c ∷ cs) else 0

-- a name, and how many bytes it takes with the blanks before it
pub record Named : Type 0 where
  pub name : List ℕ
  pub len : ℕ

abbrev pub name_of_len : ℕ → ℕ → List ℕ → Option Named
name_of_len blanks len text = if len == 0 then None else Some (record { name = take len text; len = blanks + len })

-- the name that stands behind blanks of the same line, where there is one
abbrev pub name_behind : List ℕ → Option Named
name_behind text = name_of_len (blanks_len text) (name_len (drop (blanks_len text) text)) (drop (blanks_len text) text)

-- the directives whose words no macro can have, by their words
abbrev pub directive_of : List ℕ → Option Word
directive_of name =
    if bytes_eq name (codes "define") then Some Define
    else if bytes_eq name (codes "undef") then Some Undef
    else if bytes_eq name (codes "ifdef") then Some Ifdef
    else if bytes_eq name (codes "ifndef") then Some Ifndef
    else if bytes_eq name (codes "elsif") then Some Elsif
    else if bytes_eq name (codes "else") then Some Else
    else if bytes_eq name (codes "endif") then Some Endif
    else if bytes_eq name (codes "timescale") then Some Timescale
    else if bytes_eq name (codes "default_nettype") then Some DefaultNettype
    else None
