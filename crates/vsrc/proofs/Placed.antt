-- Each byte that is made has an origin.
use Rattle.std.proofs.Common.{◌≡◌, ℕ, zero, suc, ◌+◌, Bool, true, false, List, [], ◌∷◌, ◌++◌, length, map, take, drop, Option, Some, None, Result, Ok, Err, IfOk, refl, sym, ◌∙◌, subst, arith}
use Rattle.std.specs.Prelude.{if◌then◌else◌, nat_lt, nat_le, ◌==◌, ◌&&◌, ◌||◌, not}
use Rattle.std.specs.List.{range_with_len}
use Rattle.std.proofs.lemmas.List.{length-append, length-map}
use Rattle.std.proofs.lemmas.List.FromFn.{length-range_with_len}
use Rattle.vsrc.specs.declared.conditionals.Open.{Open}
use Rattle.vsrc.specs.declared.refusal.Refusal.{Refusal}
use Rattle.vsrc.specs.declared.refusal.Why.TheVariants.{Limit}
use Rattle.vsrc.specs.declared.words.Word.{Word}
use Rattle.vsrc.specs.declared.words.Word.TheVariants as word
use Rattle.vsrc.specs.declared.words.Ignored.{Ignored}
use Rattle.vsrc.specs.declared.fault.SrcFault.{SrcFault}
use Rattle.vsrc.specs.Source.{Source, join_files, place_in, text_limit, too_long}
use Rattle.vsrc.specs.Words.{Named, name_behind, name_len, blanks_len}
use Rattle.vsrc.specs.Ignored.{ignored_len}
use Rattle.vsrc.specs.Outside.{stretch_len}
use Rattle.vsrc.specs.Timescales.{Timed, timescale_behind}
use Rattle.vsrc.specs.Conditionals.{is_read, open_part, begin_part, close_part}
use Rattle.vsrc.specs.Macros.{Macros, Made, and_then, refused_at, put, put_copied, put_given, piece, piece_len, expand_text, make_use, text_for, count_use, may_be_macro, redefine, macro_text, lines_len, level_limit, use_limit}
use Rattle.vsrc.specs.Walk.{State, Done, start, done, ill_formed, begins_arguments, is_nettype, is_conditional, is_fresh, past_name, read_backtick, define, undefine, opening, alternative, with_opens, agree, with_timescale, with_nettype, keywords_behind, pass_over, obey, word_in, read_name, keep, copy_stretch, step, walk, holds}
use Rattle.vsrc.specs.Expansion.{left_open, walk_text, source_of, with_places, unless_long, end_of_walk, expansion}

-- ---- results

chain : {A B : Type 0} (r : Result A Refusal) (next : A → Result B Refusal) (P : A → Type 0) (Q : B → Type 0) →
    IfOk r P → ((a : A) → P a → IfOk (next a) Q) → IfOk (and_then r next) Q
chain (Ok a) next P Q h k = k a h
chain (Err e) next P Q h k = tt

any : {A : Type 0} (r : Result A Refusal) → IfOk r (λ _. Unit {0})
any (Ok a) = tt
any (Err e) = tt

either : {A : Type 0} (b : Bool) (x y : Result A Refusal) (Q : A → Type 0) → IfOk x Q → IfOk y Q → IfOk (if b then x else y) Q
either true x y Q h k = h
either false x y Q h k = k

-- ---- what is made

abbrev IsPlaced : Made → Type 0
IsPlaced made = length made.origins ≡ length made.text

put-placed : (bytes origins : List ℕ) (at : ℕ) (made : Made) → length origins ≡ length bytes → IsPlaced made →
    IfOk (put bytes origins at made) IsPlaced
put-placed bytes origins at made same placed =
    either (nat_lt text_limit (length made.text + length bytes)) (Err (refused_at at Limit))
    (Ok (record { text = made.text ++ bytes; origins = made.origins ++ origins; uses = made.uses })) IsPlaced tt grown
  where
    grown : length (made.origins ++ origins) ≡ length (made.text ++ bytes)
    grown = omega (arith, same, placed, length-append made.text bytes, length-append made.origins origins)

copied-placed : (bytes : List ℕ) (at : ℕ) (made : Made) → IsPlaced made → IfOk (put_copied bytes at made) IsPlaced
copied-placed bytes at made = put-placed bytes (range_with_len at (length bytes)) at made (length-range_with_len at (length bytes))

given-bytes : (bytes : List ℕ) (at : ℕ) (made : Made) → IsPlaced made → IfOk (put_given bytes at made) IsPlaced
given-bytes bytes at made = put-placed bytes (map (λ _. at) bytes) at made (length-map bytes (λ _. at))

module _ (nested : List ℕ → Made → Result Made Refusal) (is : (name : List ℕ) (made : Made) → IsPlaced made → IfOk (nested name made) IsPlaced) where
  piece-placed : (at : ℕ) (text : List ℕ) (made : Made) → IsPlaced made → IfOk (piece nested at text made) IsPlaced
  piece-placed at [] made placed = placed
  piece-placed at (c ∷ cs) made placed =
      let name = take (name_len cs) cs in
      let bytes = take (stretch_len (c ∷ cs)) (c ∷ cs) in
      either (c == 96) (nested name made) (put_given bytes at made) IsPlaced (is name made placed) (given-bytes bytes at made placed)

  expand_text-placed : (at n : ℕ) (text : List ℕ) (made : Made) → IsPlaced made → IfOk (expand_text nested at n text made) IsPlaced
  expand_text-placed at zero text made placed = placed
  expand_text-placed at (suc n) text made placed =
      chain (piece nested at text made) (expand_text nested at n (drop (piece_len text) text)) IsPlaced IsPlaced
      (piece-placed at text made placed) (expand_text-placed at n (drop (piece_len text) text))

make_use-placed : (levels : ℕ) (macros : Macros) (at : ℕ) (name : List ℕ) (made : Made) → IsPlaced made →
    IfOk (make_use levels macros at name made) IsPlaced
unfolding make_use
make_use-placed zero macros at name made placed =
    chain (text_for macros at name) (λ text. Err (refused_at at Limit)) (λ _. Unit {0}) IsPlaced (any (text_for macros at name)) (λ _ _. tt)
make_use-placed (suc levels) macros at name made placed =
    chain (text_for macros at name) next (λ _. Unit {0}) IsPlaced (any (text_for macros at name)) (λ text _.
    either (nat_le use_limit made.uses) (Err (refused_at at Limit)) (within text) IsPlaced tt
    (expand_text-placed (make_use levels macros at) (λ other more. make_use-placed levels macros at other more) at (length text) text (count_use made) placed))
  where
    within : List ℕ → Result Made Refusal
    within text = expand_text (make_use levels macros at) at (length text) text (count_use made)

    next : List ℕ → Result Made Refusal
    next text = if nat_le use_limit made.uses then Err (refused_at at Limit) else within text

-- ---- directives make nothing

abbrev KeepsMade : State → Done → Type 0
KeepsMade state found = found.state.made ≡ state.made

opens-kept : (len : ℕ) (state : State) (opens : Result (List Open) Refusal) → IfOk (with_opens len state opens) (KeepsMade state)
opens-kept len state opens = chain opens (λ left. done len (record state { opens = left })) (λ _. Unit {0}) (KeepsMade state) (any opens) (λ _ _. refl)

define-kept : (named : Option Named) (rest : List ℕ) (state : State) → IfOk (define named rest state) (KeepsMade state)
define-kept None rest state = tt
define-kept (Some named) rest state =
    let behind = drop named.len rest in
    let text = drop (blanks_len behind) behind in
    either (may_be_macro named.name && not (begins_arguments behind))
    (done (named.len + blanks_len behind + lines_len text) (record state { macros = redefine named.name (Some (macro_text text)) state.macros }))
    (ill_formed state) (KeepsMade state) refl tt

undefine-kept : (named : Option Named) (state : State) → IfOk (undefine named state) (KeepsMade state)
undefine-kept None state = tt
undefine-kept (Some named) state = refl

opening-kept : (wanted : Bool) (named : Option Named) (state : State) → IfOk (opening wanted named state) (KeepsMade state)
opening-kept wanted None state = tt
opening-kept wanted (Some named) state = opens-kept named.len state (open_part (holds wanted named state) state.at state.opens)

alternative-kept : (named : Option Named) (state : State) → IfOk (alternative named state) (KeepsMade state)
alternative-kept None state = tt
alternative-kept (Some named) state = opens-kept named.len state (begin_part (holds true named state) false state.at state.opens)

with_timescale-kept : (found : Option Timed) (state : State) → IfOk (with_timescale found state) (KeepsMade state)
with_timescale-kept None state = tt
with_timescale-kept (Some found) state =
    let one = agree state.timescale found.timescale state.at in
    chain one (λ timescale. done found.len (record state { timescale = Some timescale })) (λ _. Unit {0}) (KeepsMade state) (any one) (λ _ _. refl)

with_nettype-kept : (named : Option Named) (state : State) → IfOk (with_nettype named state) (KeepsMade state)
with_nettype-kept None state = tt
with_nettype-kept (Some named) state = either (is_nettype named.name) (done named.len state) (ill_formed state) (KeepsMade state) refl tt

pass_over-kept : (which : Ignored) (len : Option ℕ) (state : State) → IfOk (pass_over which len state) (KeepsMade state)
pass_over-kept which None state = tt
pass_over-kept which (Some len) state =
    let left = keywords_behind which state.at state.keywords in
    chain left (λ n. done len (record state { keywords = n })) (λ _. Unit {0}) (KeepsMade state) (any left) (λ _ _. refl)

obey-kept : (w : Word) (rest : List ℕ) (state : State) → IfOk (obey w rest state) (KeepsMade state)
obey-kept word.Define rest state = define-kept (name_behind rest) rest state
obey-kept word.Undef rest state = undefine-kept (name_behind rest) state
obey-kept word.Ifdef rest state = opening-kept true (name_behind rest) state
obey-kept word.Ifndef rest state = opening-kept false (name_behind rest) state
obey-kept word.Elsif rest state = alternative-kept (name_behind rest) state
obey-kept word.Else rest state = opens-kept 0 state (begin_part true true state.at state.opens)
obey-kept word.Endif rest state = opens-kept 0 state (close_part state.at state.opens)
obey-kept word.Timescale rest state = with_timescale-kept (timescale_behind rest) state
obey-kept word.DefaultNettype rest state = with_nettype-kept (name_behind rest) state
obey-kept (word.Ignored which) rest state = pass_over-kept which (ignored_len which rest) state

-- ---- the walk

abbrev IsPlacedIn : State → Type 0
IsPlacedIn state = IsPlaced state.made

abbrev IsPlacedAfter : Done → Type 0
IsPlacedAfter found = IsPlaced found.state.made

after : (state : State) (r : Result Done Refusal) → IsPlacedIn state → IfOk r (KeepsMade state) → IfOk r IsPlacedAfter
after state (Ok found) placed same = subst IsPlaced (sym same) placed
after state (Err e) placed same = tt

read_name-placed : (w : Option Word) (name rest : List ℕ) (state : State) → IsPlacedIn state → IfOk (read_name w name rest state) IsPlacedAfter
read_name-placed None name rest state placed =
    let uses = make_use level_limit state.macros state.at name state.made in
    let next : Made → Result Done Refusal = λ made. done 0 (record state { made = made }) in
    either (is_read state.opens) (and_then uses next) (done 0 state) IsPlacedAfter
    (chain uses next IsPlaced IsPlacedAfter (make_use-placed level_limit state.macros state.at name state.made placed) (λ _ is. is))
    placed
read_name-placed (Some w) name rest state placed =
    either (is_read state.opens || is_conditional w) (if state.fresh then obey w rest state else ill_formed state) (done 0 state) IsPlacedAfter
    (either state.fresh (obey w rest state) (ill_formed state) IsPlacedAfter (after state (obey w rest state) placed (obey-kept w rest state)) tt)
    placed

read_backtick-placed : (behind : List ℕ) (state : State) → IsPlacedIn state → IfOk (read_backtick behind state) IsPlacedIn
read_backtick-placed behind state placed =
    let len = name_len behind in
    let name = take len behind in
    let next : Done → Result State Refusal = λ found. Ok (past_name (1 + len + found.len) found.state) in
    chain (read_name (word_in state.macros name) name (drop len behind) state) next IsPlacedAfter IsPlacedIn
    (read_name-placed (word_in state.macros name) name (drop len behind) state placed) (λ _ is. is)

copy_stretch-placed : (c : ℕ) (rest : List ℕ) (state : State) → IsPlacedIn state → IfOk (copy_stretch c rest state) IsPlacedIn
copy_stretch-placed c rest state placed =
    let len = stretch_len rest in
    let bytes = take len rest in
    let next : Made → Result State Refusal = λ made. Ok (record state { at = state.at + len; fresh = is_fresh state.fresh c; made = made }) in
    chain (keep bytes state) next IsPlaced IsPlacedIn
    (either (is_read state.opens) (put_copied bytes state.at state.made) (Ok state.made) IsPlaced (copied-placed bytes state.at state.made placed) placed)
    (λ _ is. is)

step-placed : (text : List ℕ) (state : State) → IsPlacedIn state → IfOk (step text state) IsPlacedIn
step-placed [] state placed = placed
step-placed (c ∷ cs) state placed =
    either (c == 96) (read_backtick cs state) (copy_stretch c (c ∷ cs) state) IsPlacedIn (read_backtick-placed cs state placed) (copy_stretch-placed c (c ∷ cs) state placed)

pub walk-placed : (text : List ℕ) (n : ℕ) (state : State) → IsPlacedIn state → IfOk (walk text n state) IsPlacedIn
unfolding walk
walk-placed text zero state placed = placed
walk-placed text (suc n) state placed =
    let one = step (drop state.at text) state in
    either (nat_lt state.at (length text)) (and_then one (walk text n)) (Ok state) IsPlacedIn
    (chain one (walk text n) IsPlacedIn IsPlacedIn (step-placed (drop state.at text) state placed) (walk-placed text n))
    placed

close_part-placed : (opens : List Open) (state : State) → IsPlacedIn state → IfOk (left_open opens state) IsPlacedIn
close_part-placed [] state placed = placed
close_part-placed (inner ∷ opens) state placed = tt

walk_text-placed : (text : List ℕ) → IfOk (walk_text text) IsPlacedIn
walk_text-placed text =
    chain (walk text (length text) start) end_of_walk IsPlacedIn IsPlacedIn (walk-placed text (length text) start refl)
    (λ state placed. close_part-placed state.opens state placed)

with_places-placed : (files : List (List ℕ)) (long : Option ℕ) (r : Result State Refusal) (source : Source) → IfOk r IsPlacedIn →
    unless_long long (with_places files r) ≡ Ok source → length source.places ≡ length source.text
with_places-placed files None (Ok state) source placed is =
    let same : source_of files state ≡ source = cc in
    subst (λ (s : Source). length s.places ≡ length s.text) same (length-map state.made.origins (place_in files) ∙ placed)
with_places-placed files None (Err refusal) source placed is = absurd (not_ok is) where
  not_ok : {f : SrcFault} → Err f ≡ Ok source → ⊥
  not_ok e = cc
with_places-placed files (Some number) r source placed is = absurd (not_ok is) where
  not_ok : {f : SrcFault} → Err f ≡ Ok source → ⊥
  not_ok e = cc

pub each_placed : (files : List (List ℕ)) (source : Source) → expansion files ≡ Ok source → length source.places ≡ length source.text
unfolding expansion
each_placed files source is = with_places-placed files (too_long files) (walk_text (join_files files)) source (walk_text-placed (join_files files)) is
