-- The tokens of a text stand at one list of spans, and so do its words.
use Rattle.std.proofs.Common.{◌≡◌, ℕ, suc, ◌+◌, ◌≤◌, ◌⊎◌, Bool, false, List, [], ◌∷◌, ◌++◌, length, take, drop, map, refl, sym, ◌∙◌, ap, subst, arith, inl, inr, All}
use Rattle.std.proofs.lemmas.List.{drop-drop, length-append, length-drop, length-map}
use Rattle.std.proofs.lemmas.List.Elements.{All-head, All-tail}
use Rattle.vlex.specs.declared.form.Form.{Form}
use Rattle.vlex.specs.declared.form.Form.TheVariants.{Token}
use Rattle.vlex.specs.declared.kind.TokenKind.{TokenKind}
use Rattle.vlex.specs.declared.list.Span.{Span}
use Rattle.vlex.specs.Lexed.{Cut, IsFront, Piece, Reaches, is_delay, readable, token_of, words_by}
use Rattle.vlex.specs.Lexed.Cut.{done, piece}
use Rattle.vlex.specs.Lexed.Reaches.{start, next}
use Rattle.vlex.specs.Tokenized.{AreInOrder, AreTokenSpans, AreWordSpans, IsTokenAt, piece_at}
use Rattle.vlex.proofs.Cuts.{one_cut, seen_within, some_front}
use Rattle.vlex.proofs.Pieces.{longest_of_front, same_length, same_form}

one_front : (text : List ℕ) (form other : Form) (len more : ℕ) → IsFront text form len → IsFront text other more → (more ≡ len) × (other ≡ form)
one_front text form other len more f g =
    let here = longest_of_front text form len f in
    let there = longest_of_front text other more g in
    (same_length text other form more len there here, same_form text other form more len there here)

-- ---- from place to place

-- the pieces from one place of the text on go up to another, each behind a # or not
data Onward (text : List ℕ) : Bool → ℕ → Bool → ℕ → Type 0 where
  here : (delay : Bool) (at : ℕ) → Onward text delay at delay at
  ahead : (delay : Bool) (at : ℕ) (form : Form) (len : ℕ) (last : Bool) (to : ℕ) → IsFront (readable delay (drop at text)) form len
      → Onward text (is_delay delay form (take len (drop at text))) (at + len) last to → Onward text delay at last to

record Steps (text : List ℕ) (delay : Bool) (at : ℕ) (last : Bool) (to : ℕ) : Type 0 where
  form : Form
  len : ℕ
  front : IsFront (readable delay (drop at text)) form len
  rest : Onward text (is_delay delay form (take len (drop at text))) (at + len) last to

cases_onward : (text : List ℕ) (delay : Bool) (at : ℕ) (last : Bool) (to : ℕ) → Onward text delay at last to → ((delay ≡ last) × (at ≡ to)) ⊎ Steps text delay at last to
cases_onward text delay at last to (here d a) = inl (refl, refl)
cases_onward text delay at last to (ahead d a form len e b f on) = inr (record { form = form; len = len; front = f; rest = on })

onward_le : (text : List ℕ) (delay : Bool) (at : ℕ) (last : Bool) (to : ℕ) → Onward text delay at last to → at ≤ to
onward_le text delay at last to (here d a) = omega arith
onward_le text delay at last to (ahead d a form len e b f on) = omega (arith, onward_le text (is_delay d form (take len (drop a text))) (a + len) e b on)

onward_one : (text : List ℕ) (delay : Bool) (at : ℕ) (last : Bool) (to : ℕ) → Onward text delay at last to → (form : Form) (len : ℕ) → IsFront (readable last (drop to text)) form len
    → Onward text delay at (is_delay last form (take len (drop to text))) (to + len)
onward_one text delay at last to (here d a) form len f =
    ahead d a form len (is_delay d form (take len (drop a text))) (a + len) f (here (is_delay d form (take len (drop a text))) (a + len))
onward_one text delay at last to (ahead d a other more e b g on) form len f =
    ahead d a other more (is_delay e form (take len (drop b text))) (b + len) g (onward_one text (is_delay d other (take more (drop a text))) (a + more) e b on form len f)

from_start : (text : List ℕ) (delay : Bool) (at : ℕ) → Reaches text delay at → Onward text false 0 delay at
from_start text delay at start = here false 0
from_start text delay at (next d a form len r f) = onward_one text false 0 d a (from_start text d a r) form len f

-- of two places that are reached one is reached from the other
either : (text : List ℕ) (from : Bool) (low : ℕ) (d : Bool) (a : ℕ) (e : Bool) (b : ℕ) → Onward text from low d a → Onward text from low e b → Onward text d a e b ⊎ Onward text e b d a
either text from low d a e b (here from' low') on = inl on
either text from low d a e b (ahead from' low' form len d' a' f on) other =
    elim (cases_onward text from' low' e b other) [
      | inl same ↦ inr (subst (λ (x : Bool). Onward text x b d' a') same.0 (subst (λ n. Onward text from' n d' a') same.1 (ahead from' low' form len d' a' f on)))
      | inr steps ↦
          let same : (steps.len ≡ len) × (steps.form ≡ form) = one_front (readable from' (drop low' text)) form steps.form len steps.len f steps.front in
          let P : ℕ → Type 0 = λ k. Onward text (is_delay from' steps.form (take k (drop low' text))) (low' + k) e b in
          let Q : Form → Type 0 = λ x. Onward text (is_delay from' x (take len (drop low' text))) (low' + len) e b in
          either text (is_delay from' form (take len (drop low' text))) (low' + len) d' a' e b on (subst Q same.1 (subst P same.0 steps.rest))
    ]

-- no place within a piece is reached
past_piece : (text : List ℕ) (d : Bool) (a : ℕ) (form : Form) (len : ℕ) → Reaches text d a → IsFront (readable d (drop a text)) form len → (e : Bool) (b : ℕ) → Reaches text e b → a ≤ b
    → ((b ≡ a) × (e ≡ d)) ⊎ (a + len ≤ b)
past_piece text d a form len r f e b s le =
    elim (either text false 0 d a e b (from_start text d a r) (from_start text e b s)) [
      | inl on ↦ elim (cases_onward text d a e b on) [
        | inl same ↦ inl (sym same.1, sym same.0)
        | inr steps ↦
            let same : (steps.len ≡ len) × (steps.form ≡ form) = one_front (readable d (drop a text)) form steps.form len steps.len f steps.front in
            inr (omega (arith, onward_le text (is_delay d steps.form (take steps.len (drop a text))) (a + steps.len) e b steps.rest, same.0))
      ]
      | inr on ↦ elim (cases_onward text e b d a on) [
        | inl same ↦ inl (same.1, same.0)
        | inr steps ↦ absurd (omega (arith, le, onward_le text (is_delay e steps.form (take steps.len (drop b text))) (b + steps.len) d a steps.rest, some_front (readable e (drop b text)) steps.form steps.len steps.front))
      ]
    ]

-- ---- spans in order, where a piece stands

-- the piece is a token, and the first span is its own
record First (text : List ℕ) (form : Form) (at len : ℕ) (spans : List Span) : Type 0 where
  kind : TokenKind
  form_is : form ≡ Token kind
  left : List Span
  is : spans ≡ record { start = at; len = len; kind = kind } ∷ left
  order : AreInOrder (at + len) left (length text)
  stand : All (IsTokenAt text) left

first_or_behind : (text : List ℕ) (delay : Bool) (at : ℕ) (form : Form) (len : ℕ) → Reaches text delay at → IsFront (readable delay (drop at text)) form len
    → (spans : List Span) → AreInOrder at spans (length text) → All (IsTokenAt text) spans → AreInOrder (at + len) spans (length text) ⊎ First text form at len spans
first_or_behind text delay at form len r f [] o h = inl (omega (arith, o, f.within, seen_within delay (drop at text), length-drop at text))
first_or_behind text delay at form len r f (s ∷ ss) o h =
    let t : IsTokenAt text s = All-head (IsTokenAt text) s ss h in
    elim (past_piece text delay at form len r f t.delay s.start t.reached o.0) [
      | inl same ↦
          let P : ℕ → Type 0 = λ n. IsFront (readable t.delay (drop n text)) (Token s.kind) s.len in
          let Q : Bool → Type 0 = λ b. IsFront (readable b (drop at text)) (Token s.kind) s.len in
          let one : (s.len ≡ len) × (Token s.kind ≡ form) = one_front (readable delay (drop at text)) form (Token s.kind) len s.len f (subst Q same.1 (subst P same.0 t.front)) in
          let ends : s.start + s.len ≡ at + len = omega (arith, same.0, one.0) in
          let Span_at : ℕ → ℕ → Span = λ n k. record { start = n; len = k; kind = s.kind } in
          inr (record {
            kind = s.kind;
            form_is = sym one.1;
            left = ss;
            is = ap (λ n. Span_at n s.len ∷ ss) same.0 ∙ ap (λ k. Span_at at k ∷ ss) one.0;
            order = subst (λ n. AreInOrder n ss (length text)) ends o.1;
            stand = All-tail (IsTokenAt text) s ss h;
          })
      | inr past ↦ inl (past, o.1)
    ]

-- what stands at a place of a text, as a text of its own, and the place behind its first piece
module _ (text : List ℕ) (delay : Bool) (rest : List ℕ) (form : Form) (len at : ℕ) (is : rest ≡ drop at text) (front : IsFront (readable delay rest) form len) (reached : Reaches text delay at) where
  front_there : IsFront (readable delay (drop at text)) form len
  front_there = subst (λ (l : List ℕ). IsFront (readable delay l) form len) is front

  behind_is : drop len rest ≡ drop (at + len) text
  behind_is = ap (drop len) is ∙ drop-drop len at text

  behind_reached : Reaches text (is_delay delay form (take len rest)) (at + len)
  behind_reached = subst (λ (l : List ℕ). Reaches text (is_delay delay form (take len l)) (at + len)) (sym is) (next delay at form len reached front_there)

-- no more spans stand in order than there are tokens
no_more : (text : List ℕ) (delay : Bool) (rest : List ℕ) (pieces : List Piece) → Cut delay rest pieces → (at : ℕ) → rest ≡ drop at text → Reaches text delay at
    → (spans : List Span) → AreInOrder at spans (length text) → All (IsTokenAt text) spans → length spans ≤ length pieces
no_more text delay rest pieces (done d) at is r [] o h = omega arith
no_more text delay rest pieces (done d) at is r (s ∷ ss) o h =
    let t : IsTokenAt text s = All-head (IsTokenAt text) s ss h in
    absurd (omega (arith, o.0, ap length is, length-drop at text, length-drop s.start text, t.front.within, seen_within t.delay (drop s.start text), some_front (readable t.delay (drop s.start text)) (Token s.kind) s.len t.front))
no_more text delay rest pieces (piece d t form len left f m) at is r spans o h =
    let more : (ss : List Span) → AreInOrder (at + len) ss (length text) → All (IsTokenAt text) ss → length ss ≤ length left =
    no_more text (is_delay d form (take len t)) (drop len t) left m (at + len) (behind_is text d t form len at is f r) (behind_reached text d t form len at is f r) in
    elim (first_or_behind text d at form len r (front_there text d t form len at is f r) spans o h) [
      | inl behind ↦ omega (arith, more spans behind h, length-append (token_of form (take len t)) left)
      | inr first ↦ omega (arith, ap length first.is, more first.left first.order first.stand, ap (λ x. length (token_of x (take len t) ++ left)) first.form_is)
    ]

-- as many as there are stand in one way
one_list : (text : List ℕ) (delay : Bool) (rest : List ℕ) (pieces : List Piece) → Cut delay rest pieces → (at : ℕ) → rest ≡ drop at text → Reaches text delay at
    → (spans others : List Span) → AreInOrder at spans (length text) → AreInOrder at others (length text) → All (IsTokenAt text) spans → All (IsTokenAt text) others
    → length spans ≡ length pieces → length others ≡ length pieces → spans ≡ others
one_list text delay rest pieces (done d) at is r [] [] o p h g n m = refl
one_list text delay rest pieces (done d) at is r [] (s ∷ ss) o p h g n m = absurd (omega (arith, m))
one_list text delay rest pieces (done d) at is r (s ∷ ss) others o p h g n m = absurd (omega (arith, n))
one_list text delay rest pieces (piece d t form len left f c) at is r spans others o p h g n m =
    by (one_list text (is_delay d form (take len t)) (drop len t) left c (at + len) (behind_is text d t form len at is f r) (behind_reached text d t form len at is f r))
    (first_or_behind text d at form len r (front_there text d t form len at is f r) spans o h)
    (first_or_behind text d at form len r (front_there text d t form len at is f r) others p g)
  where
    whole : List Piece
    whole = token_of form (take len t) ++ left

    sum : length whole ≡ length (token_of form (take len t)) + length left
    sum = length-append (token_of form (take len t)) left

    token : (kind : TokenKind) → form ≡ Token kind → length whole ≡ suc (length left)
    token kind e = ap (λ x. length (token_of x (take len t) ++ left)) e

    more : (ss : List Span) → AreInOrder (at + len) ss (length text) → All (IsTokenAt text) ss → length ss ≤ length left
    more = no_more text (is_delay d form (take len t)) (drop len t) left c (at + len) (behind_is text d t form len at is f r) (behind_reached text d t form len at is f r)

    Same : Type 0
    Same = (ss os : List Span) → AreInOrder (at + len) ss (length text) → AreInOrder (at + len) os (length text) → All (IsTokenAt text) ss → All (IsTokenAt text) os
        → length ss ≡ length left → length os ≡ length left → ss ≡ os

    by : Same → AreInOrder (at + len) spans (length text) ⊎ First text form at len spans → AreInOrder (at + len) others (length text) ⊎ First text form at len others → spans ≡ others
    by same (inl behind) (inl past) =
        same spans others behind past h g (omega (arith, n, sum, more spans behind h)) (omega (arith, m, sum, more others past g))
    by same (inl behind) (inr first) = absurd (omega (arith, n, more spans behind h, token first.kind first.form_is))
    by same (inr one) (inl past) = absurd (omega (arith, m, more others past g, token one.kind one.form_is))
    by same (inr one) (inr first) =
        let kinds : Token one.kind ≡ Token first.kind = sym one.form_is ∙ first.form_is in
        let kind : one.kind ≡ first.kind = cc in
        let lefts : one.left ≡ first.left = same one.left first.left one.order first.order one.stand first.stand
        (omega (arith, n, ap length one.is, token one.kind one.form_is)) (omega (arith, m, ap length first.is, token first.kind first.form_is)) in
        let Span_of : TokenKind → Span = λ k. record { start = at; len = len; kind = k } in
        one.is ∙ ap (λ k. Span_of k ∷ one.left) kind ∙ ap (λ ss. Span_of first.kind ∷ ss) lefts ∙ sym first.is

-- ---- the whole text

one_tokens : (text : List ℕ) (spans others : List Span) → AreTokenSpans text spans → AreTokenSpans text others → spans ≡ others
one_tokens text spans others h g =
    one_list text false text (map (piece_at text) spans) h.cut 0 refl start spans others h.in_order g.in_order h.stand g.stand
    (sym (length-map spans (piece_at text)))
    (sym (length-map others (piece_at text)) ∙ ap length (one_cut false text (map (piece_at text) others) (map (piece_at text) spans) g.cut h.cut))

pub one_words : (text : List ℕ) (words others : List Span) → AreWordSpans text words → AreWordSpans text others → words ≡ others
one_words text words others h g = h.left ∙ ap (words_by (piece_at text)) (one_tokens text h.tokens g.tokens h.are_all g.are_all) ∙ sym g.left
