-- *trusted*: Macros (IEEE 1364-2005, 19.3): what a definition gives a name, and what a use of it makes.
use Rattle.std.specs.Prelude.{ℕ, zero, suc, ◌+◌, ◌==◌, ◌&&◌, Bool, true, false, not, if◌then◌else◌, nat_lt, nat_le, List, [], ◌∷◌, ◌++◌, length, take, drop, map, Option, None, Some, is_some, Result, Ok, Err}
use Rattle.std.specs.List.{range_with_len}
use Rattle.std.specs.Str.{bytes_eq}
use Rattle.vsrc.specs.declared.refusal.Refusal.{Refusal}
use Rattle.vsrc.specs.declared.refusal.Why.{Why}
use Rattle.vsrc.specs.declared.refusal.Why.TheVariants.{Directive, Macro, Limit}
use Rattle.vsrc.specs.Source.{text_limit}
use Rattle.vsrc.specs.Outside.{stretch_len}
use Rattle.vsrc.specs.Words.{name_len, directive_of}
use Rattle.vsrc.specs.Ignored.{ignored_of}

-- ---- what a definition gives its name (19.3.1)

-- how far the rest of the line goes, where a backslash stands before it or none: a line feed ends it, save at once
-- behind a backslash
abbrev pub lines_from : Bool → List ℕ → ℕ
lines_from slash [] = 0
lines_from slash (c ∷ cs) = if c == 10 && not slash then 0 else 1 + lines_from (c == 92) cs

abbrev pub lines_len : List ℕ → ℕ
lines_len text = lines_from false text

-- a backslash stands at the head, and its line ends behind it
abbrev pub is_joint : List ℕ → Bool
is_joint [] = false
is_joint (c ∷ []) = c == 92
is_joint (c ∷ d ∷ cs) = c == 92 && d == 10

-- lines without the backslashes that they end in
abbrev pub without_backslashes : List ℕ → List ℕ
without_backslashes [] = []
without_backslashes (c ∷ cs) = if is_joint (c ∷ cs) then without_backslashes cs else c ∷ without_backslashes cs

-- a comment to the end of the line stands at the head
abbrev pub begins_comment : List ℕ → Bool
begins_comment [] = false
begins_comment (c ∷ []) = false
begins_comment (c ∷ d ∷ cs) = c == 47 && d == 47

-- a text without such comments; n, its length or more, bounds the stretches
abbrev pub without_comments : ℕ → List ℕ → List ℕ
without_comments zero text = []
without_comments (suc n) text =
    (if begins_comment text then [] else take (stretch_len text) text) ++ without_comments n (drop (stretch_len text) text)

-- what a definition gives, told from the first byte that isn't a blank behind the name
abbrev pub macro_text : List ℕ → List ℕ
macro_text behind = let lines = without_backslashes (take (lines_len behind) behind) in without_comments (length lines) lines

-- ---- the macros that are defined

-- each name's text, where it has one
abbrev pub Macros : Type 0
Macros = List ℕ → Option (List ℕ)

abbrev pub no_macros : Macros
no_macros name = None

-- 19.3.1, 19.3.2: a later definition replaces, and one may be taken back
abbrev pub redefine : List ℕ → Option (List ℕ) → Macros → Macros
redefine name text macros other = if bytes_eq name other then text else macros other

-- ---- what a use makes

-- The text that was made, for each of its bytes a place in the files (its own, or that of the use that made it), and how many
-- uses were expanded.
pub record Made : Type 0 where
  pub text : List ℕ
  pub origins : List ℕ
  pub uses : ℕ

abbrev pub nothing_made : Made
nothing_made = record { text = []; origins = []; uses = 0 }

-- what is refused at a place, for this reason
abbrev pub refused_at : ℕ → Why → Refusal
refused_at at why = record { why = why; at = at }

-- what is done next, where nothing was refused
abbrev pub and_then : {A B : Type 0} → Result A Refusal → (A → Result B Refusal) → Result B Refusal
and_then (Ok x) next = next x
and_then (Err refusal) next = Err refusal

-- bytes that come from these places are put behind what was made, refused at `at` where that gets too long
abbrev pub put : List ℕ → List ℕ → ℕ → Made → Result Made Refusal
put bytes origins at made =
    if nat_lt text_limit (length made.text + length bytes) then Err (refused_at at Limit)
    else Ok (record { text = made.text ++ bytes; origins = made.origins ++ origins; uses = made.uses })

-- bytes of the files, which stand from `at` on
abbrev pub put_copied : List ℕ → ℕ → Made → Result Made Refusal
put_copied bytes at = put bytes (range_with_len at (length bytes)) at

-- bytes that a macro gave, for a use at `at`
abbrev pub put_given : List ℕ → ℕ → Made → Result Made Refusal
put_given bytes at = put bytes (map (λ byte. at) bytes) at

-- the most levels of macros in macros, and the most uses
abbrev pub level_limit : ℕ
level_limit = 32

abbrev pub use_limit : ℕ
use_limit = 1000000

-- how many bytes belong together in the text of a macro: a backtick and the name behind it, a comment, a string, or one
abbrev pub piece_len : List ℕ → ℕ
piece_len [] = 0
piece_len (c ∷ cs) = if c == 96 then 1 + name_len cs else stretch_len (c ∷ cs)

-- what they make: a name behind a backtick is used in turn, as `nested` says; all else stays
abbrev pub piece : (List ℕ → Made → Result Made Refusal) → ℕ → List ℕ → Made → Result Made Refusal
piece nested at [] made = Ok made
piece nested at (c ∷ cs) made =
    if c == 96 then nested (take (name_len cs) cs) made
    else put_given (take (stretch_len (c ∷ cs)) (c ∷ cs)) at made

-- The text of a macro for a use at `at`, piece by piece; n, the text's length or more, bounds the pieces.
abbrev pub expand_text : (List ℕ → Made → Result Made Refusal) → ℕ → ℕ → List ℕ → Made → Result Made Refusal
expand_text nested at zero text made = Ok made
expand_text nested at (suc n) text made = and_then (piece nested at text made) (expand_text nested at n (drop (piece_len text) text))

-- a name that is no word of a directive may be a macro's; only the words of directives that aren't passed over are barred (own)
abbrev pub may_be_macro : List ℕ → Bool
may_be_macro [] = false
may_be_macro (c ∷ cs) = if is_some (directive_of (c ∷ cs)) then false else true

-- why a name without a macro can't be used: it may be the word of a directive that is passed over
abbrev pub why_unknown : List ℕ → Why
why_unknown name = if is_some (ignored_of name) then Directive else Macro

-- what may be done with a name behind a backtick: nothing where it can't be a macro's, or isn't one's
abbrev pub looked_up : Bool → Option (List ℕ) → List ℕ → ℕ → Result (List ℕ) Refusal
looked_up false text name at = Err (refused_at at Directive)
looked_up true None name at = Err (refused_at at (why_unknown name))
looked_up true (Some text) name at = Ok text

abbrev pub text_for : Macros → ℕ → List ℕ → Result (List ℕ) Refusal
text_for macros at name = looked_up (may_be_macro name) (macros name) name at

abbrev pub count_use : Made → Made
count_use made = record { text = made.text; origins = made.origins; uses = made.uses + 1 }

-- 19.3.1: what a use of the name makes, pasted to what stands on both sides (own), where the use in the files stands at `at` and so many levels are left
unfoldable pub make_use : ℕ → Macros → ℕ → List ℕ → Made → Result Made Refusal
make_use zero macros at name made = and_then (text_for macros at name) (λ text. Err (refused_at at Limit))
make_use (suc levels) macros at name made =
    and_then (text_for macros at name) (λ text.
    if nat_le use_limit made.uses then Err (refused_at at Limit)
    else expand_text (make_use levels macros at) at (length text) text (count_use made))
