-- *trusted*: The walk over the joined files, piece by piece (IEEE 1364-2005, clause 19).
use Rattle.std.specs.Prelude.{ℕ, zero, suc, ◌+◌, ◌==◌, ◌&&◌, ◌||◌, Bool, true, false, not, if◌then◌else◌, nat_lt, nat_le, List, [], ◌∷◌, length, take, drop, Option, None, Some, is_some, Result, Ok, Err, codes}
use Rattle.std.specs.Str.{bytes_eq}
use Rattle.vsrc.specs.declared.refusal.Refusal.{Refusal}
use Rattle.vsrc.specs.declared.refusal.Why.TheVariants.{Directive, Limit, Timescales}
use Rattle.vsrc.specs.declared.words.Word.{Word}
use Rattle.vsrc.specs.declared.words.Word.TheVariants as word
use Rattle.vsrc.specs.declared.words.Ignored.{Ignored}
use Rattle.vsrc.specs.declared.words.Ignored.TheVariants as ignored
use Rattle.vsrc.specs.declared.conditionals.Open.{Open}
use Rattle.basis.specs.declared.timescale.Timescale.{Timescale}
use Rattle.vsrc.specs.Outside.{stretch_len}
use Rattle.vsrc.specs.Words.{Named, is_blank, blanks_len, name_len, name_behind, directive_of}
use Rattle.vsrc.specs.Ignored.{ignored_of, ignored_len}
use Rattle.vsrc.specs.Timescales.{Timed, timescale_behind}
use Rattle.basis.specs.Timescales.{is_like}
use Rattle.vsrc.specs.Macros.{Macros, Made, and_then, refused_at, lines_len, macro_text, may_be_macro, redefine, put_copied, make_use, level_limit, no_macros, nothing_made}
use Rattle.vsrc.specs.Conditionals.{is_read, open_part, begin_part, close_part}

-- What is known between two pieces: how far the walk has come, whether only blanks stand before that place on its
-- line, the macros, the open conditionals with the innermost first, how many `begin_keywords are open, the timescale
-- if one stood, and what was made.
pub record State : Type 0 where
  pub at : ℕ
  pub fresh : Bool
  pub macros : Macros
  pub opens : List Open
  pub keywords : ℕ
  pub timescale : Option Timescale
  pub made : Made

abbrev pub start : State
start = record { at = 0; fresh = true; macros = no_macros; opens = []; keywords = 0; timescale = None; made = nothing_made }

-- what a directive or a use does, and how many bytes behind its word it takes
pub record Done : Type 0 where
  pub state : State
  pub len : ℕ

abbrev pub done : ℕ → State → Result Done Refusal
done len state = Ok (record { state = state; len = len })

-- a fault of what stands at the place that the walk has come to
abbrev pub ill_formed : {A : Type 0} → State → Result A Refusal
ill_formed state = Err (refused_at state.at Directive)

-- ---- directives: what stands behind the word, and the state

-- 19.3.1: `define NAME text. A parenthesis at once behind the name would begin the arguments, which are left out (own).
abbrev pub begins_arguments : List ℕ → Bool
begins_arguments [] = false
begins_arguments (c ∷ cs) = c == 40

abbrev pub define : Option Named → List ℕ → State → Result Done Refusal
define None rest state = ill_formed state
define (Some named) rest state =
    let behind = drop named.len rest in
    let text = drop (blanks_len behind) behind in
    if may_be_macro named.name && not (begins_arguments behind) then
    done (named.len + blanks_len behind + lines_len text) (record state { macros = redefine named.name (Some (macro_text text)) state.macros })
    else ill_formed state

-- 19.3.2: `undef NAME
abbrev pub undefine : Option Named → State → Result Done Refusal
undefine None state = ill_formed state
undefine (Some named) state = done named.len (record state { macros = redefine named.name None state.macros })

-- 19.4: `ifdef NAME (wanted) and `ifndef NAME (not wanted)
abbrev pub is_met : Bool → Bool → Bool
is_met true there = there
is_met false there = not there

abbrev pub holds : Bool → Named → State → Bool
holds wanted named state = is_met wanted (is_some (state.macros named.name))

abbrev pub with_opens : ℕ → State → Result (List Open) Refusal → Result Done Refusal
with_opens len state opens = and_then opens (λ left. done len (record state { opens = left }))

abbrev pub opening : Bool → Option Named → State → Result Done Refusal
opening wanted None state = ill_formed state
opening wanted (Some named) state = with_opens named.len state (open_part (holds wanted named state) state.at state.opens)

-- 19.4: `elsif NAME
abbrev pub alternative : Option Named → State → Result Done Refusal
alternative None state = ill_formed state
alternative (Some named) state = with_opens named.len state (begin_part (holds true named state) false state.at state.opens)

-- 19.8: `timescale unit/precision. One holds for the whole text; a second must be like it (own).
abbrev pub agree : Option Timescale → Timescale → ℕ → Result Timescale Refusal
agree None timescale at = Ok timescale
agree (Some first) timescale at = if is_like first timescale then Ok first else Err (refused_at at Timescales)

abbrev pub with_timescale : Option Timed → State → Result Done Refusal
with_timescale None state = ill_formed state
with_timescale (Some found) state =
    and_then (agree state.timescale found.timescale state.at) (λ timescale. done found.len (record state { timescale = Some timescale }))

-- 19.2: `default_nettype none and `default_nettype wire, which change nothing (own)
abbrev pub is_nettype : List ℕ → Bool
is_nettype name = bytes_eq name (codes "none") || bytes_eq name (codes "wire")

abbrev pub with_nettype : Option Named → State → Result Done Refusal
with_nettype None state = ill_formed state
with_nettype (Some named) state = if is_nettype named.name then done named.len state else ill_formed state

-- 19.11: `end_keywords ends the innermost `begin_keywords that is open; at most so many may be (own)
abbrev pub keywords_limit : ℕ
keywords_limit = 32

abbrev pub keywords_behind : Ignored → ℕ → ℕ → Result ℕ Refusal
keywords_behind ignored.Celldefine at n = Ok n
keywords_behind ignored.Endcelldefine at n = Ok n
keywords_behind ignored.Resetall at n = Ok n
keywords_behind ignored.BeginKeywords at n = if nat_le keywords_limit n then Err (refused_at at Limit) else Ok (n + 1)
keywords_behind ignored.EndKeywords at zero = Err (refused_at at Directive)
keywords_behind ignored.EndKeywords at (suc n) = Ok n
keywords_behind ignored.Line at n = Ok n
keywords_behind ignored.Pragma at n = Ok n
keywords_behind ignored.UnconnectedDrive at n = Ok n
keywords_behind ignored.NounconnectedDrive at n = Ok n

-- a directive that is passed over (own)
abbrev pub pass_over : Ignored → Option ℕ → State → Result Done Refusal
pass_over which None state = ill_formed state
pass_over which (Some len) state =
    and_then (keywords_behind which state.at state.keywords) (λ n. done len (record state { keywords = n }))

abbrev pub obey : Word → List ℕ → State → Result Done Refusal
obey word.Define rest state = define (name_behind rest) rest state
obey word.Undef rest state = undefine (name_behind rest) state
obey word.Ifdef rest state = opening true (name_behind rest) state
obey word.Ifndef rest state = opening false (name_behind rest) state
obey word.Elsif rest state = alternative (name_behind rest) state
obey word.Else rest state = with_opens 0 state (begin_part true true state.at state.opens)
obey word.Endif rest state = with_opens 0 state (close_part state.at state.opens)
obey word.Timescale rest state = with_timescale (timescale_behind rest) state
obey word.DefaultNettype rest state = with_nettype (name_behind rest) state
obey (word.Ignored which) rest state = pass_over which (ignored_len which rest) state

-- ---- what stands behind a backtick

-- in a part that is skipped only these are read
abbrev pub is_conditional : Word → Bool
is_conditional word.Define = false
is_conditional word.Undef = false
is_conditional word.Ifdef = true
is_conditional word.Ifndef = true
is_conditional word.Elsif = true
is_conditional word.Else = true
is_conditional word.Endif = true
is_conditional word.Timescale = false
is_conditional word.DefaultNettype = false
is_conditional (word.Ignored which) = false

-- a directive is the first thing on its line after blanks (own)
abbrev pub heed : Word → List ℕ → State → Result Done Refusal
heed word rest state =
    if is_read state.opens || is_conditional word then (if state.fresh then obey word rest state else ill_formed state)
    else done 0 state

-- any other name is a use of a macro
abbrev pub replace_use : List ℕ → State → Result Done Refusal
replace_use name state =
    if is_read state.opens then and_then (make_use level_limit state.macros state.at name state.made) (λ made. done 0 (record state { made = made }))
    else done 0 state

abbrev pub read_name : Option Word → List ℕ → List ℕ → State → Result Done Refusal
read_name None name rest state = replace_use name state
read_name (Some word) name rest state = heed word rest state

-- the directive that the name is the word of, if any; a macro goes before one that is passed over (own)
abbrev pub word_by : Option Word → Option Ignored → Bool → Option Word
word_by (Some found) which is_macro = Some found
word_by None None is_macro = None
word_by None (Some which) true = None
word_by None (Some which) false = Some (word.Ignored which)

abbrev pub word_in : Macros → List ℕ → Option Word
word_in macros name = word_by (directive_of name) (ignored_of name) (is_some (macros name))

-- a backtick, the name behind it and what that takes; neither leaves its line fresh
abbrev pub past_name : ℕ → State → State
past_name len state = record state { at = state.at + len; fresh = false }

abbrev pub read_backtick : List ℕ → State → Result State Refusal
read_backtick behind state =
    let len = name_len behind in
    and_then (read_name (word_in state.macros (take len behind)) (take len behind) (drop len behind) state) (λ found. Ok (past_name (1 + len + found.len) found.state))

-- ---- all else

-- a line feed outside comments begins a line, and blanks leave it fresh
abbrev pub is_fresh : Bool → ℕ → Bool
is_fresh fresh c = c == 10 || (fresh && is_blank c)

-- a comment, a string or a byte stays where its part is read
abbrev pub keep : List ℕ → State → Result Made Refusal
keep bytes state = if is_read state.opens then put_copied bytes state.at state.made else Ok state.made

abbrev pub copy_stretch : ℕ → List ℕ → State → Result State Refusal
copy_stretch c rest state =
    let len = stretch_len rest in
    and_then (keep (take len rest) state) (λ made. Ok (record state { at = state.at + len; fresh = is_fresh state.fresh c; made = made }))

-- ---- the walk

-- one piece, told from what is left of the text
abbrev pub step : List ℕ → State → Result State Refusal
step [] state = Ok state
step (c ∷ cs) state = if c == 96 then read_backtick cs state else copy_stretch c (c ∷ cs) state

-- The walk to the end of the text; n, the bytes that are left or more, bounds the pieces.
unfoldable pub walk : List ℕ → ℕ → State → Result State Refusal
walk text zero state = Ok state
walk text (suc n) state = if nat_lt state.at (length text) then and_then (step (drop state.at text) state) (walk text n) else Ok state
