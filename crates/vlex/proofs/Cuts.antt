-- One piece off the head of a text.
use Rattle.std.proofs.Common.{◌≡◌, ℕ, zero, suc, ◌+◌, ◌<◌, ◌≤◌, ◌⊎◌, Bool, true, false, cond, List, [], ◌∷◌, ◌++◌, None, Some, length, take, drop, map, refl, sym, ◌∙◌, ap, subst, arith, inl, inr, append_assoc, All}
use Rattle.std.specs.List.{prefix_len}
use Rattle.std.specs.Char.{is_ascii_digit}
use Rattle.std.proofs.lemmas.List.{drop-drop, length-drop, length-take, take-take, length-append, append-nil, map-append}
use Rattle.std.proofs.Math.ListN.{drop_of_length-le}
use Rattle.std.proofs.lemmas.List.Elements.{All-nil, All-cons, All-push}
use Rattle.vlex.specs.declared.form.Form.{Form}
use Rattle.vlex.specs.declared.form.Form.TheVariants.{Blank, Comment, Token}
use Rattle.vlex.specs.declared.list.Span.{Span}
use Rattle.vlex.specs.declared.bytes.Set.TheVariants.{Marks}
use Rattle.vlex.specs.Bytes.{is_in}
use Rattle.vlex.specs.Lexed.{Cut, IsFront, IsOpen, IsStuck, Lexed, Piece, words_of, Reaches, is_delay, readable, token_of}
use Rattle.vlex.specs.Lexed.Cut.{done, piece}
use Rattle.vlex.specs.Tokenized.{piece_at, AreInOrder, IsTokenAt}
use Rattle.vlex.specs.Inner.{spans_of}
use Rattle.vlex.proofs.Pieces.{longest_of_front, same_length, same_form}
use Rattle.vlex.proofs.Leads.{digit_no_blank}

-- what is read of a text is a front of it
pub seen_within : (delay : Bool) (text : List ℕ) → length (readable delay text) ≤ length text
seen_within false text = omega arith
seen_within true [] = omega arith
seen_within true (c ∷ cs) = by (is_ascii_digit c)
  where
    by : (b : Bool) → length (cond b (take (prefix_len (is_in Marks) (c ∷ cs)) (c ∷ cs)) (c ∷ cs)) ≤ length (c ∷ cs)
    by true = omega (arith, length-take (prefix_len (is_in Marks) (c ∷ cs)) (c ∷ cs))
    by false = omega arith

pub seen_some : (delay : Bool) (text : List ℕ) → 0 < length text → 0 < length (readable delay text)
seen_some false text some = some
seen_some true [] some = some
seen_some true (c ∷ cs) some = by (is_ascii_digit c) refl
  where
    mark : is_ascii_digit c ≡ true → is_in Marks c ≡ true
    mark digit = digit_no_blank c digit

    by : (b : Bool) → is_ascii_digit c ≡ b → 0 < length (cond b (take (prefix_len (is_in Marks) (c ∷ cs)) (c ∷ cs)) (c ∷ cs))
    by true is = subst (λ (m : Bool). 0 < length (take (cond m (1 + prefix_len (is_in Marks) cs) 0) (c ∷ cs))) (sym (mark is)) (omega (arith, length-take (1 + prefix_len (is_in Marks) cs) (c ∷ cs)))
    by false is = omega arith

pub seen_front : (delay : Bool) (text : List ℕ) (len : ℕ) → len ≤ length (readable delay text) → take len (readable delay text) ≡ take len text
seen_front false text len le = refl
seen_front true [] len le = refl
seen_front true (c ∷ cs) len le = by (is_ascii_digit c) le
  where
    run : ℕ
    run = prefix_len (is_in Marks) (c ∷ cs)

    by : (b : Bool) → len ≤ length (cond b (take run (c ∷ cs)) (c ∷ cs)) → take len (cond b (take run (c ∷ cs)) (c ∷ cs)) ≡ take len (c ∷ cs)
    by true le = take-take len run (c ∷ cs) (omega (arith, le, length-take run (c ∷ cs)))
    by false le = refl

-- what begins with a digit isn't open
digit_shut : (c : ℕ) (cs : List ℕ) → is_ascii_digit c ≡ true → IsOpen (c ∷ cs) → ⊥
digit_shut c [] digit same = let clash : false ≡ true = sym (ap is_ascii_digit same) ∙ digit in cc
digit_shut c (d ∷ ds) digit found = elim found [
  | inl comment ↦ let clash : false ≡ true = sym (ap is_ascii_digit comment.0) ∙ digit in cc
  | inr string ↦ let clash : false ≡ true = sym (ap is_ascii_digit string.0) ∙ digit in cc
]

front_shut : (n c : ℕ) (cs : List ℕ) → is_ascii_digit c ≡ true → IsOpen (take n (c ∷ cs)) → ⊥
front_shut zero c cs digit found = found
front_shut (suc n) c cs digit found = digit_shut c (take n cs) digit found

pub open_seen : (delay : Bool) (text : List ℕ) → IsOpen (readable delay text) → IsOpen text
open_seen false text found = found
open_seen true [] found = found
open_seen true (c ∷ cs) found = by (is_ascii_digit c) refl found
  where
    by : (b : Bool) → is_ascii_digit c ≡ b → IsOpen (cond b (take (prefix_len (is_in Marks) (c ∷ cs)) (c ∷ cs)) (c ∷ cs)) → IsOpen (c ∷ cs)
    by true is found = absurd (front_shut (prefix_len (is_in Marks) (c ∷ cs)) c cs is found)
    by false is found = found

pub seen_open : (delay : Bool) (text : List ℕ) → IsOpen text → IsOpen (readable delay text)
seen_open false text found = found
seen_open true [] found = found
seen_open true (c ∷ cs) found = by (is_ascii_digit c) refl
  where
    by : (b : Bool) → is_ascii_digit c ≡ b → IsOpen (cond b (take (prefix_len (is_in Marks) (c ∷ cs)) (c ∷ cs)) (c ∷ cs))
    by true is = absurd (digit_shut c cs is found)
    by false is = found

pub some_front : (text : List ℕ) (form : Form) (len : ℕ) → IsFront text form len → 0 < len
some_front text form zero f = let clash : None ≡ Some form = f.shape in cc
some_front text form (suc len) f = omega arith

record Begins (delay : Bool) (text : List ℕ) (pieces : List Piece) : Type 0 where
  form : Form
  len : ℕ
  left : List Piece
  front : IsFront (readable delay text) form len
  whole : pieces ≡ token_of form (take len text) ++ left
  rest : Cut (is_delay delay form (take len text)) (drop len text) left

cases_cut : (delay : Bool) (text : List ℕ) (pieces : List Piece) → Cut delay text pieces → ((text ≡ []) × (pieces ≡ [])) ⊎ Begins delay text pieces
cases_cut delay text pieces (done d) = inl (refl, refl)
cases_cut delay text pieces (piece d t form len left f l) = inr (record { form = form; len = len; left = left; front = f; whole = refl; rest = l })

-- the end of a text has no tokens
pub ends_cut : (delay : Bool) (pieces : List Piece) → Cut delay [] pieces → pieces ≡ []
ends_cut delay pieces l =
    elim (cases_cut delay [] pieces l) [
      | inl ended ↦ ended.1
      | inr begins ↦ absurd (omega (arith, begins.front.within, seen_within delay [], some_front (readable delay []) begins.form begins.len begins.front))
    ]

-- a text with a piece at its head has no tokens but those behind it, with it in front
pub take_piece : (delay : Bool) (text : List ℕ) (form : Form) (len : ℕ) (pieces : List Piece) → IsFront (readable delay text) form len → Cut delay text pieces
    → (left : List Piece) × ((pieces ≡ token_of form (take len text) ++ left) × Cut (is_delay delay form (take len text)) (drop len text) left)
take_piece delay text form len pieces f l =
    let here = longest_of_front (readable delay text) form len f in
    elim (cases_cut delay text pieces l) [
      | inl ended ↦ absurd (omega (arith, f.within, seen_within delay text, some_front (readable delay text) form len f, ap length ended.0))
      | inr begins ↦
          let there = longest_of_front (readable delay text) begins.form begins.len begins.front in
          let same_len : begins.len ≡ len = same_length (readable delay text) begins.form form begins.len len there here in
          let same : begins.form ≡ form = same_form (readable delay text) begins.form form begins.len len there here in
          let P : ℕ → Type 0 = λ k. Cut (is_delay delay begins.form (take k text)) (drop k text) begins.left in
          let Q : Form → Type 0 = λ x. Cut (is_delay delay x (take len text)) (drop len text) begins.left in (
            begins.left,
            (
              begins.whole ∙ ap (λ k. token_of begins.form (take k text) ++ begins.left) same_len ∙ ap (λ x. token_of x (take len text) ++ begins.left) same,
              subst Q same (subst P same_len begins.rest),
            ),
          )
    ]

-- a text without one has none
pub stuck_cut : (delay : Bool) (text : List ℕ) (pieces : List Piece) → 0 < length text → IsStuck (readable delay text) → Cut delay text pieces → ⊥
stuck_cut delay text pieces some stuck l =
    elim (cases_cut delay text pieces l) [ inl ended ↦ absurd (omega (arith, ap length ended.0)) | inr begins ↦ stuck begins.form begins.len begins.front ]

-- the tokens that spans give, with those of one more piece
pieces_grow : (text : List ℕ) (spans : List Span) (form : Form) (at len : ℕ)
    → map (piece_at text) (spans ++ spans_of form at len) ≡ map (piece_at text) spans ++ token_of form (take len (drop at text))
pieces_grow text spans Blank at len = map-append (piece_at text) spans []
pieces_grow text spans Comment at len = map-append (piece_at text) spans []
pieces_grow text spans (Token kind) at len = map-append (piece_at text) spans (record { start = at; len = len; kind = kind } ∷ [])

-- a piece adds one span at most, and has a byte at least
pub spans_grow : (spans : List Span) (form : Form) (at len : ℕ) → 0 < len → length (spans ++ spans_of form at len) ≤ length spans + len
spans_grow spans Blank at len some = simp append-nil (omega arith)
spans_grow spans Comment at len some = simp append-nil (omega arith)
spans_grow spans (Token kind) at len some = simp length-append (omega arith)

-- spans that end by one place end by a later one
pub in_order_more : (from : ℕ) (spans : List Span) (at to : ℕ) → at ≤ to → AreInOrder from spans at → AreInOrder from spans to
in_order_more from [] at to le h = omega arith
in_order_more from (span ∷ spans) at to le h = (h.0, in_order_more (span.start + span.len) spans at to le h.1)

in_order_push : (from : ℕ) (spans : List Span) (span : Span) (at : ℕ) → AreInOrder from spans at → at ≤ span.start → AreInOrder from (spans ++ span ∷ []) (span.start + span.len)
in_order_push from [] span at h le = (omega arith, omega arith)
in_order_push from (first ∷ spans) span at h le = (h.0, in_order_push (first.start + first.len) spans span at h.1 le)

-- one more piece stands behind the tokens so far
pub order_grows : (spans : List Span) (form : Form) (at len : ℕ) → AreInOrder 0 spans at → AreInOrder 0 (spans ++ spans_of form at len) (at + len)
order_grows spans Blank at len h =
    let P : List Span → Type 0 = λ ss. AreInOrder 0 ss (at + len) in subst P (sym (append-nil spans)) (in_order_more 0 spans at (at + len) (omega arith) h)
order_grows spans Comment at len h =
    let P : List Span → Type 0 = λ ss. AreInOrder 0 ss (at + len) in subst P (sym (append-nil spans)) (in_order_more 0 spans at (at + len) (omega arith) h)
order_grows spans (Token kind) at len h = in_order_push 0 spans (record { start = at; len = len; kind = kind }) at h (omega arith)

pub in_order_le : (from : ℕ) (spans : List Span) (to : ℕ) → AreInOrder from spans to → from ≤ to
in_order_le from [] to h = h
in_order_le from (span ∷ spans) to h = omega (arith, h.0, in_order_le (span.start + span.len) spans to h.1)

pub all_within : (from : ℕ) (spans : List Span) (to : ℕ) → AreInOrder from spans to → All (λ span. span.start + span.len ≤ to) spans
all_within from [] to h = All-nil (λ span. span.start + span.len ≤ to)
all_within from (span ∷ spans) to h =
    All-cons (λ s. s.start + s.len ≤ to) span spans (in_order_le (span.start + span.len) spans to h.1) (all_within (span.start + span.len) spans to h.1)

pub goes_onward : (delay : Bool) (text : List ℕ) (spans : List Span) (form : Form) (at len : ℕ) (pieces : List Piece) → IsFront (readable delay (drop at text)) form len
    → ((left : List Piece) → Cut delay (drop at text) left → Cut false text (map (piece_at text) spans ++ left))
    → Cut (is_delay delay form (take len (drop at text))) (drop (at + len) text) pieces → Cut false text (map (piece_at text) (spans ++ spans_of form at len) ++ pieces)
goes_onward delay text spans form at len pieces f onward l =
    let next : Bool = is_delay delay form (take len (drop at text)) in
    let P : List ℕ → Type 0 = λ xs. Cut next xs pieces in
    let behind : Cut next (drop len (drop at text)) pieces = subst P (sym (drop-drop len at text)) l in
    let head : List Piece = token_of form (take len (drop at text)) in
    let whole : map (piece_at text) (spans ++ spans_of form at len) ++ pieces ≡ map (piece_at text) spans ++ (head ++ pieces) =
    ap (λ ps. ps ++ pieces) (pieces_grow text spans form at len) ∙ append_assoc (map (piece_at text) spans) head pieces in
    subst (Cut false text) (sym whole) (onward (head ++ pieces) (piece delay (drop at text) form len pieces f behind))

pub goes_back : (delay : Bool) (text : List ℕ) (spans : List Span) (form : Form) (at len : ℕ) (pieces : List Piece) → IsFront (readable delay (drop at text)) form len
    → (left : List Piece) × ((pieces ≡ map (piece_at text) spans ++ left) × Cut delay (drop at text) left)
    → (left : List Piece) × ((pieces ≡ map (piece_at text) (spans ++ spans_of form at len) ++ left) × Cut (is_delay delay form (take len (drop at text))) (drop (at + len) text) left)
goes_back delay text spans form at len pieces f found =
    let head : List Piece = token_of form (take len (drop at text)) in
    let behind = take_piece delay (drop at text) form len found.0 f found.1.1 in
    let P : List ℕ → Type 0 = λ xs. Cut (is_delay delay form (take len (drop at text))) xs behind.0 in (
      behind.0,
      (
        found.1.0 ∙ ap (λ ps. map (piece_at text) spans ++ ps) behind.1.0 ∙ sym (append_assoc (map (piece_at text) spans) head behind.0)
            ∙ ap (λ ps. ps ++ behind.0) (sym (pieces_grow text spans form at len)),
        subst P (drop-drop len at text) behind.1.1,
      ),
    )

-- behind the last piece the text is lexed
pub all_lexed : (delay : Bool) (text : List ℕ) (spans : List Span) (at : ℕ) → length text ≤ at
    → ((left : List Piece) → Cut delay (drop at text) left → Cut false text (map (piece_at text) spans ++ left)) → Cut false text (map (piece_at text) spans)
all_lexed delay text spans at end onward =
    let P : List ℕ → Type 0 = λ xs. Cut delay xs [] in
    subst (Cut false text) (append-nil (map (piece_at text) spans)) (onward [] (subst P (sym (drop_of_length-le text end)) (done delay)))

-- where what is left is stuck, nothing is lexed
pub none_lexed : (delay : Bool) (text : List ℕ) (spans : List Span) (at : ℕ) (pieces : List Piece) → at < length text → IsStuck (readable delay (drop at text))
    → (left : List Piece) × ((pieces ≡ map (piece_at text) spans ++ left) × Cut delay (drop at text) left) → ⊥
none_lexed delay text spans at pieces within stuck found = stuck_cut delay (drop at text) found.0 (omega (arith, length-drop at text)) stuck found.1.1

-- one more piece is a token where the pieces before it end, if it is one
pub stands_grows : (delay : Bool) (text : List ℕ) (spans : List Span) (form : Form) (at len : ℕ) → Reaches text delay at → IsFront (readable delay (drop at text)) form len
    → All (IsTokenAt text) spans → All (IsTokenAt text) (spans ++ spans_of form at len)
stands_grows delay text spans Blank at len r f h = subst (All (IsTokenAt text)) (sym (append-nil spans)) h
stands_grows delay text spans Comment at len r f h = subst (All (IsTokenAt text)) (sym (append-nil spans)) h
stands_grows delay text spans (Token kind) at len r f h =
    All-push (IsTokenAt text) spans (record { start = at; len = len; kind = kind }) h (record { delay = delay; reached = r; front = f })

-- a text is cut in one way
pub one_cut : (delay : Bool) (text : List ℕ) (pieces others : List Piece) → Cut delay text pieces → Cut delay text others → pieces ≡ others
one_cut delay text pieces others (done d) l = sym (ends_cut d others l)
one_cut delay text pieces others (piece d t form len left f m) l =
    let (behind, (whole, rest)) = take_piece d t form len others f l in
    ap (λ ps. token_of form (take len t) ++ ps) (one_cut (is_delay d form (take len t)) (drop len t) left behind m rest) ∙ sym whole

-- and so it has one list of words
pub one_lexed : (text : List ℕ) (words others : List Piece) → Lexed text words → Lexed text others → words ≡ others
one_lexed text words others l m = l.1.1 ∙ ap words_of (one_cut false text l.0 m.0 l.1.0 m.1.0) ∙ sym m.1.1
