-- Instances of attributes among tokens, and what is left without them.
use Rattle.std.proofs.Common.{◌≡◌, ℕ, zero, suc, ◌+◌, ◌-◌, ◌<◌, ◌≤◌, Bool, true, false, cond, ◌&&◌, List, [], ◌∷◌, ◌++◌, Option, None, Some, length, take, drop, map, slice_get, add-one, refl, sym, ◌∙◌, ap, subst, arith, All, append_assoc}
use Rattle.std.specs.Str.{bytes_eq}
use Rattle.std.specs.Option.{option_map}
use Rattle.std.specs.Prelude.{option_and_then, unwrap_or, nat_eq, codes}
use Rattle.std.proofs.lemmas.List.{length-append, length-take, length-drop, length-map, drop-drop, drop-map, take-map, map-append, map-id, append-nil}
use Rattle.std.proofs.lemmas.List.Elements.{All-nil, All-take, All-drop, All-append}
use Rattle.basis.proofs.Lists.{drop_at_place}
use Rattle.vsrc.specs.Source.{Source}
use Rattle.vsrc.specs.Outside.{further}
use Rattle.vlex.specs.declared.attributes.Part.{Part}
use Rattle.vlex.specs.declared.attributes.Part.TheVariants.{Start}
use Rattle.vlex.specs.declared.kind.TokenKind.{TokenKind}
use Rattle.vlex.specs.declared.list.Span.{Span}
use Rattle.vlex.specs.Lexed.{Piece, begins, opens, closes, may_end, after, words_to_end, may_stand, instance_len, first_text, without, words_by, words_of, Lexed}
use Rattle.vlex.specs.Tokenized.{Tokenized, piece_at, pieces_of, AreInOrder, AreWordSpans}
use Rattle.vlex.specs.Inner.{HaveNone}
use Rattle.vlex.proofs.Cuts.{in_order_le}

-- ---- tokens by their places

-- the token of a place, told by its bytes
record Here (tokens : List Piece) (at : ℕ) (text : List ℕ) : Type 0 where
  piece : Piece
  found : slice_get tokens at ≡ Some piece
  text_is : piece.text ≡ text
  is : drop at tokens ≡ piece ∷ drop (at + 1) tokens

here : (tokens : List Piece) (at : ℕ) (text : List ℕ) → option_map (λ (p : Piece). p.text) (slice_get tokens at) ≡ Some text → Here tokens at text
here tokens at text told = by (slice_get tokens at) refl told
  where
    by : (o : Option Piece) → slice_get tokens at ≡ o → option_map (λ (p : Piece). p.text) o ≡ Some text → Here tokens at text
    by None is e = let clash : None ≡ Some text = e in absurd cc
    by (Some p) is e =
        let same : Some p.text ≡ Some text = e in
        record { piece = p; found = is; text_is = cc; is = drop_at_place tokens at p is ∙ ap (λ n. p ∷ drop n tokens) (sym (add-one at)) }

-- ---- two words

pub begins_short : (first second : List ℕ) (ps : List Piece) → length ps < 2 → begins first second ps ≡ false
begins_short first second [] short = refl
begins_short first second (p ∷ []) short = refl
begins_short first second (p ∷ q ∷ ps) short = absurd (omega arith)

pub begins_two : (first second : List ℕ) (ps : List Piece) → begins first second ps ≡ true → 2 ≤ length ps
begins_two first second [] is = let clash : false ≡ true = is in absurd cc
begins_two first second (p ∷ []) is = let clash : false ≡ true = is in absurd cc
begins_two first second (p ∷ q ∷ ps) is = omega arith

pub begins_here : (tokens : List Piece) (at : ℕ) (first second one other : List ℕ) → option_map (λ (p : Piece). p.text) (slice_get tokens at) ≡ Some one
    → option_map (λ (p : Piece). p.text) (slice_get tokens (at + 1)) ≡ Some other → begins first second (drop at tokens) ≡ (bytes_eq one first && bytes_eq other second)
begins_here tokens at first second one other told more =
    let h : Here tokens at one = here tokens at one told in
    let g : Here tokens (at + 1) other = here tokens (at + 1) other more in
    ap (begins first second) h.is ∙ ap (λ l. begins first second (h.piece ∷ l)) g.is
    ∙ ap (λ t. bytes_eq t first && bytes_eq g.piece.text second) h.text_is ∙ ap (λ t. bytes_eq one first && bytes_eq t second) g.text_is

pub begins_not : (tokens : List Piece) (at : ℕ) (first second one : List ℕ) → option_map (λ (p : Piece). p.text) (slice_get tokens at) ≡ Some one
    → bytes_eq one first ≡ false → begins first second (drop at tokens) ≡ false
begins_not tokens at first second one told other =
    let h : Here tokens at one = here tokens at one told in
    ap (begins first second) h.is ∙ by h.piece (drop (at + 1) tokens) (ap (λ t. bytes_eq t first) h.text_is ∙ other)
  where
    by : (p : Piece) (ps : List Piece) → bytes_eq p.text first ≡ false → begins first second (p ∷ ps) ≡ false
    by p [] e = refl
    by p (q ∷ ps) e = ap (λ b. b && bytes_eq q.text second) e

-- ---- to the end of an instance

-- a step of `words_to_end`, told by the word that stands there
abbrev pub step : Part → TokenKind → List ℕ → List Piece → List Piece → Option ℕ
step part kind text whole rest =
    cond (may_end part && closes whole) (Some 2) (option_and_then (λ next. further 1 (words_to_end next rest)) (after part kind text (opens whole)))

pub closing_here : (tokens : List Piece) (at : ℕ) (part : Part) (kind : TokenKind) (text : List ℕ)
    → option_map (λ (p : Piece). p.kind) (slice_get tokens at) ≡ Some kind → option_map (λ (p : Piece). p.text) (slice_get tokens at) ≡ Some text
    → words_to_end part (drop at tokens) ≡ step part kind text (drop at tokens) (drop (at + 1) tokens)
closing_here tokens at part kind text kinds told =
    let h : Here tokens at text = here tokens at text told in
    let some : Some h.piece.kind ≡ Some kind = ap (option_map (λ (p : Piece). p.kind)) (sym h.found) ∙ kinds in
    let same : h.piece.kind ≡ kind = cc in
    ap (words_to_end part) h.is ∙ ap (λ l. step part h.piece.kind h.piece.text l (drop (at + 1) tokens)) (sym h.is)
    ∙ ap (λ k. step part k h.piece.text (drop at tokens) (drop (at + 1) tokens)) same
    ∙ ap (λ t. step part kind t (drop at tokens) (drop (at + 1) tokens)) h.text_is

further_next : (from at : ℕ) (o : Option ℕ) → from ≤ at → further (at - from) (further 1 o) ≡ further (at + 1 - from) o
further_next from at None low = refl
further_next from at (Some len) low = ap Some (omega arith)

-- what is found from `from` on is found from `at` on
abbrev pub Follows : List Piece → ℕ → ℕ → Part → Type 0
Follows tokens from at part = words_to_end Start (drop from tokens) ≡ further (at - from) (words_to_end part (drop at tokens))

pub follows_begins : (tokens : List Piece) (from : ℕ) → Follows tokens from from Start
follows_begins tokens from = by (words_to_end Start (drop from tokens))
  where
    by : (o : Option ℕ) → o ≡ further (from - from) o
    by None = refl
    by (Some len) = ap Some (omega arith)

pub follows_on : (tokens : List Piece) (from at : ℕ) (part next : Part) (kind : TokenKind) (text : List ℕ) → from ≤ at → Follows tokens from at part
    → words_to_end part (drop at tokens) ≡ step part kind text (drop at tokens) (drop (at + 1) tokens) → (may_end part && closes (drop at tokens)) ≡ false
    → after part kind text (opens (drop at tokens)) ≡ Some next → Follows tokens from (at + 1) next
follows_on tokens from at part next kind text low follows is on some =
    follows ∙ ap (further (at - from)) (is ∙ ap (λ b. cond b (Some 2) (option_and_then (λ n. further 1 (words_to_end n (drop (at + 1) tokens))) (after part kind text (opens (drop at tokens))))) on
    ∙ ap (option_and_then (λ n. further 1 (words_to_end n (drop (at + 1) tokens)))) some)
    ∙ further_next from at (words_to_end next (drop (at + 1) tokens)) low

pub follows_bad : (tokens : List Piece) (from at : ℕ) (part : Part) (kind : TokenKind) (text : List ℕ) → Follows tokens from at part
    → words_to_end part (drop at tokens) ≡ step part kind text (drop at tokens) (drop (at + 1) tokens) → (may_end part && closes (drop at tokens)) ≡ false
    → after part kind text (opens (drop at tokens)) ≡ None → words_to_end Start (drop from tokens) ≡ None
follows_bad tokens from at part kind text follows is on bad =
    follows ∙ ap (further (at - from)) (is ∙ ap (λ b. cond b (Some 2) (option_and_then (λ n. further 1 (words_to_end n (drop (at + 1) tokens))) (after part kind text (opens (drop at tokens))))) on
    ∙ ap (option_and_then (λ n. further 1 (words_to_end n (drop (at + 1) tokens)))) bad)

pub follows_ends : (tokens : List Piece) (from at : ℕ) (part : Part) (kind : TokenKind) (text : List ℕ) → from ≤ at → Follows tokens from at part
    → words_to_end part (drop at tokens) ≡ step part kind text (drop at tokens) (drop (at + 1) tokens) → (may_end part && closes (drop at tokens)) ≡ true
    → words_to_end Start (drop from tokens) ≡ Some (at + 2 - from)
follows_ends tokens from at part kind text low follows is on =
    let sum : at - from + 2 ≡ at + 2 - from = omega arith in
    follows ∙ ap (further (at - from)) (is ∙ ap (λ b. cond b (Some 2) (option_and_then (λ n. further 1 (words_to_end n (drop (at + 1) tokens))) (after part kind text (opens (drop at tokens))))) on)
    ∙ ap Some sum

pub follows_past : (tokens : List Piece) (from at : ℕ) (part : Part) → Follows tokens from at part → drop at tokens ≡ [] → words_to_end Start (drop from tokens) ≡ None
follows_past tokens from at part follows past = follows ∙ ap (λ l. further (at - from) (words_to_end part l)) past

-- of how many words it is
pub instance_is : (earlier last : List ℕ) (tokens : List Piece) (at : ℕ) (found : Option ℕ) → opens (drop at tokens) ≡ true → may_stand earlier last ≡ true
    → found ≡ words_to_end Start (drop (at + 2) tokens) → unwrap_or (further 2 found) 0 ≡ instance_len earlier last (drop at tokens)
instance_is earlier last tokens at found begun may is =
    ap (λ o. unwrap_or (further 2 o) 0) (is ∙ ap (words_to_end Start) (sym (drop-drop 2 at tokens)))
    ∙ sym (ap (λ b. cond (b && may_stand earlier last) (unwrap_or (further 2 (words_to_end Start (drop 2 (drop at tokens)))) 0) 0) begun
    ∙ ap (λ b. cond b (unwrap_or (further 2 (words_to_end Start (drop 2 (drop at tokens)))) 0) 0) may)

pub instance_short : (earlier last : List ℕ) (ps : List Piece) → length ps < 2 → 0 ≡ instance_len earlier last ps
instance_short earlier last ps short =
    sym (ap (λ b. cond (b && may_stand earlier last) (unwrap_or (further 2 (words_to_end Start (drop 2 ps))) 0) 0) (begins_short (codes "(") (codes "*") ps short))

-- ---- the words

module _ {A : Type 0} (token : A → Piece) where
  without_none : (n : ℕ) (earlier last : List ℕ) → without token n earlier last [] ≡ []
  without_none zero earlier last = refl
  without_none (suc n) earlier last = without_none n last []

  -- where none begins all tokens are words
  all_kept : (n : ℕ) (earlier last : List ℕ) (xs : List A) → length xs ≤ n → HaveNone (map token xs) → without token n earlier last xs ≡ xs
  all_kept n earlier last [] enough h = without_none n earlier last
  all_kept zero earlier last (x ∷ xs) enough h = absurd (omega arith)
  all_kept (suc n) earlier last (x ∷ xs) enough h =
      ap (λ b. next (cond (b && may_stand earlier last) (unwrap_or (further 2 (words_to_end Start (drop 2 (map token (x ∷ xs))))) 0) 0)) (h 0)
      ∙ ap (λ l. x ∷ l) (all_kept n last (first_text (map token (x ∷ xs))) xs (omega arith) (λ at. h (suc at)))
    where
      next : ℕ → List A
      next len = cond (nat_eq len 0) (take 1 (x ∷ xs) ++ without token n last (first_text (map token (x ∷ xs))) (drop 1 (x ∷ xs)))
          (without token n (codes "*") (codes ")") (drop len (x ∷ xs)))

  pub words_kept : (xs : List A) → HaveNone (map token xs) → words_by token xs ≡ xs
  unfolding words_by
  words_kept xs h = all_kept (length xs) [] [] xs (omega arith) h

  -- what holds of all tokens holds of what is left
  all_left : (P : A → Type 0) (n : ℕ) (earlier last : List ℕ) (xs : List A) → All P xs → All P (without token n earlier last xs)
  all_left P zero earlier last xs h = All-nil P
  all_left P (suc n) earlier last xs h =
      by (nat_eq (instance_len earlier last (map token xs)) 0)
      (all_left P n last (first_text (map token xs)) (drop 1 xs) (All-drop P 1 xs h))
      (all_left P n (codes "*") (codes ")") (drop (instance_len earlier last (map token xs)) xs) (All-drop P (instance_len earlier last (map token xs)) xs h))
    where
      word : List A
      word = without token n last (first_text (map token xs)) (drop 1 xs)

      rest : List A
      rest = without token n (codes "*") (codes ")") (drop (instance_len earlier last (map token xs)) xs)

      by : (b : Bool) → All P word → All P rest → All P (cond b (take 1 xs ++ word) rest)
      by true w r = All-append P (take 1 xs) word (All-take P 1 xs h) w
      by false w r = r

  pub all_by : (P : A → Type 0) (xs : List A) → All P xs → All P (words_by token xs)
  unfolding words_by
  all_by P xs h = all_left P (length xs) [] [] xs h

  few_left : (n : ℕ) (earlier last : List ℕ) (xs : List A) → length (without token n earlier last xs) ≤ length xs
  few_left zero earlier last xs = omega arith
  few_left (suc n) earlier last xs =
      by (nat_eq (instance_len earlier last (map token xs)) 0)
      (few_left n last (first_text (map token xs)) (drop 1 xs))
      (few_left n (codes "*") (codes ")") (drop (instance_len earlier last (map token xs)) xs))
    where
      word : List A
      word = without token n last (first_text (map token xs)) (drop 1 xs)

      rest : List A
      rest = without token n (codes "*") (codes ")") (drop (instance_len earlier last (map token xs)) xs)

      by : (b : Bool) → length word ≤ length (drop 1 xs) → length rest ≤ length (drop (instance_len earlier last (map token xs)) xs)
          → length (cond b (take 1 xs ++ word) rest) ≤ length xs
      by true w r = omega (arith, w, length-append (take 1 xs) word, length-take 1 xs, length-drop 1 xs)
      by false w r = omega (arith, r, length-drop (instance_len earlier last (map token xs)) xs)

  pub few_words : (xs : List A) → length (words_by token xs) ≤ length xs
  unfolding words_by
  few_words xs = few_left (length xs) [] [] xs

  -- the tokens that are left are those of what is left
  same_left : (n : ℕ) (earlier last : List ℕ) (xs : List A) → map token (without token n earlier last xs) ≡ without (λ (p : Piece). p) n earlier last (map token xs)
  same_left zero earlier last xs = refl
  same_left (suc n) earlier last xs =
      by (nat_eq (instance_len earlier last tokens) 0) (same_left n last (first_text tokens) (drop 1 xs)) (same_left n (codes "*") (codes ")") (drop (instance_len earlier last tokens) xs))
      ∙ ap whole (sym (map-id tokens))
    where
      tokens : List Piece
      tokens = map token xs

      same : Piece → Piece
      same p = p

      whole : List Piece → List Piece
      whole seen = cond (nat_eq (instance_len earlier last seen) 0) (take 1 tokens ++ without same n last (first_text seen) (drop 1 tokens))
          (without same n (codes "*") (codes ")") (drop (instance_len earlier last seen) tokens))

      word : List A
      word = without token n last (first_text tokens) (drop 1 xs)

      rest : List A
      rest = without token n (codes "*") (codes ")") (drop (instance_len earlier last tokens) xs)

      by : (b : Bool) → map token word ≡ without same n last (first_text tokens) (map token (drop 1 xs))
          → map token rest ≡ without same n (codes "*") (codes ")") (map token (drop (instance_len earlier last tokens) xs))
          → map token (cond b (take 1 xs ++ word) rest)
          ≡ cond b (take 1 tokens ++ without same n last (first_text tokens) (drop 1 tokens)) (without same n (codes "*") (codes ")") (drop (instance_len earlier last tokens) tokens))
      by true w r =
          map-append token (take 1 xs) word ∙ ap (λ l. l ++ map token word) (sym (take-map token 1 xs)) ∙ ap (λ l. take 1 tokens ++ l) w
          ∙ ap (λ l. take 1 tokens ++ without same n last (first_text tokens) l) (sym (drop-map token 1 xs))
      by false w r = r ∙ ap (without same n (codes "*") (codes ")")) (sym (drop-map token (instance_len earlier last tokens) xs))

  pub same_words : (xs : List A) → map token (words_by token xs) ≡ words_of (map token xs)
  unfolding words_by
  same_words xs = same_left (length xs) [] [] xs ∙ ap (λ n. without (λ (p : Piece). p) n [] [] (map token xs)) (sym (length-map xs token))

pub all_words : (P : Piece → Type 0) (tokens : List Piece) → All P tokens → All P (words_of tokens)
all_words P tokens h = all_by (λ (p : Piece). p) P tokens h

-- what the words so far and those of what is left are together
pub record Leaves (text : List ℕ) (all spans : List Span) (earlier last : List ℕ) (at : ℕ) : Type 0 where
  pub n : ℕ
  pub enough : length all ≤ at + n
  pub whole : spans ++ without (piece_at text) n earlier last (drop at all) ≡ words_by (piece_at text) all

pub leaves_all : (text : List ℕ) (all spans : List Span) (earlier last : List ℕ) → spans ≡ [] → earlier ≡ [] → last ≡ [] → Leaves text all spans earlier last 0
unfolding words_by
leaves_all text all spans earlier last none_yet no_earlier no_last = record {
  n = length all;
  enough = omega arith;
  whole =
      ap (λ s. s ++ without (piece_at text) (length all) earlier last all) none_yet ∙ ap (λ e. without (piece_at text) (length all) e last all) no_earlier
      ∙ ap (λ l. without (piece_at text) (length all) [] l all) no_last;
}

pub leaves_none : (text : List ℕ) (all spans : List Span) (earlier last : List ℕ) (at : ℕ) → drop at all ≡ [] → Leaves text all spans earlier last at
    → spans ≡ words_by (piece_at text) all
leaves_none text all spans earlier last at past left =
    sym (append-nil spans)
    ∙ ap (λ l. spans ++ l) (sym (without_none (piece_at text) left.n earlier last) ∙ ap (without (piece_at text) left.n earlier last) (sym past)) ∙ left.whole

module _ (text : List ℕ) (all : List Span) (spans : List Span) (earlier last : List ℕ) (at : ℕ) (within : at < length all) where
  abbrev pub tokens : List Piece
  tokens = map (piece_at text) all

  -- a step of `without`, by what it sees
  abbrev step_by : ℕ → List Piece → List Span → List Span
  step_by n seen left =
      cond (nat_eq (instance_len earlier last seen) 0) (take 1 left ++ without (piece_at text) n last (first_text seen) (drop 1 left))
      (without (piece_at text) n (codes "*") (codes ")") (drop (instance_len earlier last seen) left))

  seen_tokens : (n : ℕ) → without (piece_at text) (suc n) earlier last (drop at all) ≡ step_by n (drop at tokens) (drop at all)
  seen_tokens n = ap (λ seen. step_by n seen (drop at all)) (sym (drop-map (piece_at text) at all))

  -- the token there is a word
  pub leaves_word : (span : Span) (word : List ℕ) → slice_get all at ≡ Some span → option_map (λ (p : Piece). p.text) (slice_get tokens at) ≡ Some word
      → 0 ≡ instance_len earlier last (drop at tokens) → Leaves text all spans earlier last at → Leaves text all (spans ++ span ∷ []) last word (at + 1)
  leaves_word span word there told plain left = by left.n left.enough left.whole
    where
      h : Here tokens at word
      h = here tokens at word told

      front : drop at all ≡ span ∷ drop (at + 1) all
      front = drop_at_place all at span there ∙ ap (λ n. span ∷ drop n all) (sym (add-one at))

      first : first_text (drop at tokens) ≡ word
      first = ap first_text h.is ∙ h.text_is

      kept : (n : ℕ) → without (piece_at text) (suc n) earlier last (drop at all) ≡ span ∷ without (piece_at text) n last word (drop (at + 1) all)
      kept n =
          seen_tokens n
          ∙ ap (λ len. cond (nat_eq len 0) (take 1 (drop at all) ++ without (piece_at text) n last (first_text (drop at tokens)) (drop 1 (drop at all))) (without (piece_at text) n (codes "*") (codes ")") (drop len (drop at all)))) (sym plain)
          ∙ ap (λ l. take 1 l ++ without (piece_at text) n last (first_text (drop at tokens)) (drop 1 l)) front
          ∙ ap (λ t. span ∷ without (piece_at text) n last t (drop (at + 1) all)) first

      by : (n : ℕ) → length all ≤ at + n → spans ++ without (piece_at text) n earlier last (drop at all) ≡ words_by (piece_at text) all
          → Leaves text all (spans ++ span ∷ []) last word (at + 1)
      by zero enough whole = absurd (omega arith)
      by (suc n) enough whole = record {
        n = n;
        enough = omega arith;
        whole = append_assoc spans (span ∷ []) (without (piece_at text) n last word (drop (at + 1) all)) ∙ ap (λ l. spans ++ l) (sym (kept n)) ∙ whole;
      }

  -- an instance stands there
  pub leaves_instance : (len : ℕ) (star bracket : List ℕ) → star ≡ codes "*" → bracket ≡ codes ")" → len ≡ instance_len earlier last (drop at tokens) → nat_eq len 0 ≡ false → 0 < len
      → Leaves text all spans earlier last at → Leaves text all spans star bracket (at + len)
  leaves_instance len star bracket is_star is_bracket is some more left = by left.n left.enough left.whole
    where
      passed : (n : ℕ) → without (piece_at text) (suc n) earlier last (drop at all) ≡ without (piece_at text) n star bracket (drop (at + len) all)
      passed n =
          seen_tokens n
          ∙ ap (λ k. cond (nat_eq k 0) (take 1 (drop at all) ++ without (piece_at text) n last (first_text (drop at tokens)) (drop 1 (drop at all))) (without (piece_at text) n (codes "*") (codes ")") (drop k (drop at all)))) (sym is)
          ∙ ap (λ b. cond b (take 1 (drop at all) ++ without (piece_at text) n last (first_text (drop at tokens)) (drop 1 (drop at all))) (without (piece_at text) n (codes "*") (codes ")") (drop len (drop at all)))) some
          ∙ ap (without (piece_at text) n (codes "*") (codes ")")) (drop-drop len at all) ∙ ap (λ s. without (piece_at text) n s (codes ")") (drop (at + len) all)) (sym is_star)
          ∙ ap (λ b. without (piece_at text) n star b (drop (at + len) all)) (sym is_bracket)

      by : (n : ℕ) → length all ≤ at + n → spans ++ without (piece_at text) n earlier last (drop at all) ≡ words_by (piece_at text) all
          → Leaves text all spans star bracket (at + len)
      by zero enough whole = absurd (omega arith)
      by (suc n) enough whole = record {
        n = n;
        enough = omega arith;
        whole = ap (λ l. spans ++ l) (sym (passed n)) ∙ whole;
      }

-- ---- the order of what is left

order_from : (low from : ℕ) (spans : List Span) (to : ℕ) → low ≤ from → AreInOrder from spans to → AreInOrder low spans to
order_from low from [] to le h = omega arith
order_from low from (s ∷ ss) to le h = (omega (arith, h.0), h.1)

order_drop : (n from : ℕ) (spans : List Span) (to : ℕ) → AreInOrder from spans to → AreInOrder from (drop n spans) to
order_drop zero from spans to h = h
order_drop (suc n) from [] to h = h
order_drop (suc n) from (s ∷ ss) to h = order_from from (s.start + s.len) (drop n ss) to (omega (arith, h.0)) (order_drop n (s.start + s.len) ss to h.1)

order_left : (token : Span → Piece) (n : ℕ) (earlier last : List ℕ) (from : ℕ) (spans : List Span) (to : ℕ) → AreInOrder from spans to → AreInOrder from (without token n earlier last spans) to
order_left token n earlier last from [] to h = subst (λ (l : List Span). AreInOrder from l to) (sym (without_none token n earlier last)) h
order_left token zero earlier last from (s ∷ ss) to h = in_order_le from (s ∷ ss) to h
order_left token (suc n) earlier last from (s ∷ ss) to h =
    by (nat_eq (instance_len earlier last tokens) 0)
    (order_left token n last (first_text tokens) (s.start + s.len) ss to h.1)
    (order_left token n (codes "*") (codes ")") from (drop (instance_len earlier last tokens) (s ∷ ss)) to (order_drop (instance_len earlier last tokens) from (s ∷ ss) to h))
  where
    tokens : List Piece
    tokens = map token (s ∷ ss)

    word : List Span
    word = without token n last (first_text tokens) ss

    rest : List Span
    rest = without token n (codes "*") (codes ")") (drop (instance_len earlier last tokens) (s ∷ ss))

    by : (b : Bool) → AreInOrder (s.start + s.len) word to → AreInOrder from rest to → AreInOrder from (cond b (take 1 (s ∷ ss) ++ word) rest) to
    by true w r = (h.0, w)
    by false w r = r

pub order_words : (token : Span → Piece) (from : ℕ) (spans : List Span) (to : ℕ) → AreInOrder from spans to → AreInOrder from (words_by token spans) to
unfolding words_by
order_words token from spans to h = order_left token (length spans) [] [] from spans to h

-- ---- the words of a text

-- what spans of all tokens leave are its words
pub lexed_by : (text : List ℕ) (words : List Span) → AreWordSpans text words → Lexed text (map (piece_at text) words)
lexed_by text words h = (map (piece_at text) h.tokens, (h.are_all.cut, ap (map (piece_at text)) h.left ∙ same_words (piece_at text) h.tokens))

pub lexed_of : (tokens : Tokenized) (source : Source) → tokens.source ≡ source → AreWordSpans source.text tokens.spans → Lexed source.text (pieces_of tokens)
lexed_of tokens source is h = subst (λ (s : Source). Lexed source.text (map (piece_at s.text) tokens.spans)) (sym is) (lexed_by source.text tokens.spans h)
