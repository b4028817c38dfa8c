-- Among a text's tokens, which a number is and which a name is, by their bytes and by their kinds.
use Rattle.std.proofs.Common.{◌≡◌, ◌⊎◌, ℕ, Bool, true, false, ◌&&◌, ◌||◌, ◌==◌, not, nat_le, List, [], ◌∷◌, ◌++◌, None, Some, take, drop, refl, sym, ap, ◌∙◌, arith, inl, inr, subst, All}
use Rattle.std.specs.List.{list_all, prefix_len}
use Rattle.std.proofs.Math.Bool.{or-false}
use Rattle.std.proofs.lemmas.Bool.{ne_eqb, cases_eq, and_parts, not-true}
use Rattle.std.proofs.lemmas.Bool.Decides.{nat_tests}
use Rattle.std.proofs.lemmas.List.Elements.{All-nil, All-cons, All-weaker}
use Rattle.vlex.specs.declared.bytes.Set.TheVariants.{Words, Escapes, Decimals}
use Rattle.vlex.specs.declared.bytes.Lead.{Lead}
use Rattle.vlex.specs.declared.bytes.Lead.TheVariants as lead
use Rattle.vlex.specs.declared.form.Form.{Form}
use Rattle.vlex.specs.declared.form.Form.TheVariants.{Blank, Comment, Token}
use Rattle.vlex.specs.declared.kind.TokenKind.{TokenKind}
use Rattle.vlex.specs.declared.kind.TokenKind.TheVariants.{Name, System, Plain, Based, Text as Quoted, Symbol}
use Rattle.vlex.specs.Bytes.{is_in, lead_of}
use Rattle.vlex.specs.Forms.{only_if, is_escaped, form_of, form_by, number_by, number_form, slash_form}
use Rattle.vlex.specs.Lexed.{Cut, Lexed, Piece, IsFront, is_delay, readable, token_of as pieces_by}
use Rattle.vlex.specs.Lexed.Cut.{done, piece}
use Rattle.vlex.proofs.Cuts.{seen_front}
use Rattle.vlex.proofs.Instances.{all_words}
use Rattle.vlex.proofs.Leads.{Says, says}
use Rattle.basis.specs.Letters.{begins_name, is_in_name}
use Rattle.vwords.specs.Words.{Text, is_name, is_number, is_reserved, is_printable, are_printable}
use Rattle.vwords.proofs.NameLemmas.{escaped_free}
use Rattle.basis.proofs.Bools.{and_left, and_right, and_both}
use Rattle.std.specs.Char.{is_ascii_digit}
use Rattle.vparse.specs.Words.{TellsNumber, TellsName}

abbrev is_numeric : TokenKind → Bool
is_numeric Plain = true
is_numeric Based = true
is_numeric Name = false
is_numeric System = false
is_numeric Quoted = false
is_numeric Symbol = false

abbrev is_word : TokenKind → Bool
is_word Name = true
is_word Plain = false
is_word Based = false
is_word System = false
is_word Quoted = false
is_word Symbol = false

-- the bytes of a token tell what its kind tells
record Tells (kind : TokenKind) (bytes : Text) : Type 0 where
  number : is_number bytes ≡ is_numeric kind
  name : is_name bytes ≡ (is_word kind && not (is_reserved bytes))

word_in_name : (c : ℕ) → is_in Words c ≡ is_in_name c
word_in_name c = grind (arith, nat_tests)

words_in_name : (cs : List ℕ) → list_all (is_in Words) cs ≡ list_all is_in_name cs
words_in_name [] = refl
words_in_name (c ∷ cs) = ap (λ b. b && list_all (is_in Words) cs) (word_in_name c) ∙ ap (λ b. is_in_name c && b) (words_in_name cs)

no_digit : (c : ℕ) → begins_name c ≡ true → (is_ascii_digit c || (c == 39)) ≡ false
no_digit c e = grind (arith, nat_tests)

letter_no_escape : (c : ℕ) (b : Bool) → begins_name c ≡ true → ((c == 92) && b) ≡ false
letter_no_escape c b e = grind (arith, nat_tests)

digit_no_backslash : (c : ℕ) → is_ascii_digit c ≡ true → (c == 92) ≡ false
digit_no_backslash c e = grind (arith, nat_tests)

digit_no_letter : (c : ℕ) → is_ascii_digit c ≡ true → begins_name c ≡ false
digit_no_letter c e = grind (arith, nat_tests)

name_tells : (c : ℕ) (cs : List ℕ) → begins_name c ≡ true → list_all is_in_name cs ≡ true → Tells Name (c ∷ cs)
name_tells c cs first all = record {
  number = no_digit c first;
  name = ap (λ b. (b && not (is_reserved (c ∷ cs))) || (c == 92 && are_printable cs)) (and_both (begins_name c) (list_all is_in_name cs) first all)
      ∙ ap (λ b. not (is_reserved (c ∷ cs)) || b) (letter_no_escape c (are_printable cs) first)
      ∙ or-false (not (is_reserved (c ∷ cs)));
}

-- the bytes of an escaped name are printable
escapes_printable : (cs : List ℕ) → is_escaped cs ≡ true → are_printable cs ≡ true
escapes_printable [] e = e
escapes_printable (c ∷ cs) e = all_printable (c ∷ cs) e
  where
    one_printable : (c : ℕ) → is_in Escapes c ≡ true → is_printable c ≡ true
    one_printable c e = and_left (nat_le 33 c && nat_le c 126) (not (c == 46)) e

    all_printable : (cs : List ℕ) → list_all (is_in Escapes) cs ≡ true → list_all is_printable cs ≡ true
    all_printable [] e = refl
    all_printable (c ∷ cs) e =
        and_both (is_printable c) (list_all is_printable cs) (one_printable c (and_left (is_in Escapes c) (list_all (is_in Escapes) cs) e))
        (all_printable cs (and_right (is_in Escapes c) (list_all (is_in Escapes) cs) e))

escape_tells : (cs : List ℕ) → is_escaped cs ≡ true → Tells Name (92 ∷ cs)
escape_tells cs all = record { number = refl; name = escapes_printable cs all ∙ ap not (sym (escaped_free cs)) }

other_tells : (kind : TokenKind) (c : ℕ) (cs : List ℕ) → is_word kind ≡ false → (is_ascii_digit c || (c == 39)) ≡ is_numeric kind → begins_name c ≡ false →
    (c == 92) ≡ false → Tells kind (c ∷ cs)
other_tells kind c cs other first letter backslash = record {
  number = first;
  name = ap (λ b. (b && list_all is_in_name cs && not (is_reserved (c ∷ cs))) || (c == 92 && are_printable cs)) letter
      ∙ ap (λ b. b && are_printable cs) backslash ∙ sym (ap (λ b. b && not (is_reserved (c ∷ cs))) other);
}

-- what holds at a byte and a kind holds at what equals them
told_at : (b : ℕ) (k kind : TokenKind) (c : ℕ) (cs : List ℕ) → c ≡ b → k ≡ kind → Tells k (b ∷ cs) → Tells kind (c ∷ cs)
told_at b k kind c cs byte same t = subst (λ j. Tells j (c ∷ cs)) same (subst (λ x. Tells k (x ∷ cs)) (sym byte) t)

-- the kind and the test of a form that is a token
token_of : (b : Bool) (k kind : TokenKind) → only_if b (Token k) ≡ Some (Token kind) → (k ≡ kind) × (b ≡ true)
token_of true k kind e = let same : Some (Token k) ≡ Some (Token kind) = e in (cc, refl)
token_of false k kind e = let clash : None ≡ Some (Token kind) = e in absurd cc

-- blanks and comments are no tokens

no_blank : (b : Bool) (kind : TokenKind) → only_if b Blank ≡ Some (Token kind) → ⊥
no_blank true kind e = let clash : Some Blank ≡ Some (Token kind) = e in cc
no_blank false kind e = let clash : None ≡ Some (Token kind) = e in cc

no_comment : (b : Bool) (kind : TokenKind) → only_if b Comment ≡ Some (Token kind) → ⊥
no_comment true kind e = let clash : Some Comment ≡ Some (Token kind) = e in cc
no_comment false kind e = let clash : None ≡ Some (Token kind) = e in cc

-- a token that begins with a slash is a symbol, and one that begins with a digit a number

slash_symbol : (cs : List ℕ) (kind : TokenKind) → slash_form cs ≡ Some (Token kind) → Symbol ≡ kind
slash_symbol [] kind e = let same : Some (Token Symbol) ≡ Some (Token kind) = e in cc
slash_symbol (d ∷ cs) kind e = elim (cases_eq d 47) [
  | inl line ↦ absurd (no_comment _ kind (rw line at e))
  | inr no_line ↦ elim (cases_eq d 42) [
    | inl block ↦ absurd (no_comment _ kind (rw block at e))
    | inr no_block ↦ let clash : None ≡ Some (Token kind) = rw (ne_eqb d 47 no_line, ne_eqb d 42 no_block) at e in absurd cc
  ]
]

digit_numeric : (bytes : List ℕ) (kind : TokenKind) → number_form bytes ≡ Some (Token kind) → (Plain ≡ kind) ⊎ (Based ≡ kind)
digit_numeric bytes kind e = by (take (prefix_len (is_in Decimals) bytes) bytes) (drop (prefix_len (is_in Decimals) bytes) bytes) e
  where
    by : (digits behind : List ℕ) → number_by digits behind ≡ Some (Token kind) → (Plain ≡ kind) ⊎ (Based ≡ kind)
    by digits [] e = let same : Some (Token Plain) ≡ Some (Token kind) = e in let is : Plain ≡ kind = cc in inl is
    by digits (c ∷ cs) e = inr (token_of _ Based kind e).0

by_lead : (l : Lead) (c : ℕ) (cs : List ℕ) (kind : TokenKind) → Says l c → form_by l c cs ≡ Some (Token kind) → Tells kind (c ∷ cs)
by_lead lead.Blank c cs kind s e = absurd (no_blank _ kind e)
by_lead lead.Letter c cs kind s e =
    let t = token_of _ Name kind e in
    told_at c Name kind c cs refl t.0 (name_tells c cs s (sym (words_in_name cs) ∙ t.1))
by_lead lead.Backslash c cs kind s e =
    let t = token_of _ Name kind e in
    told_at 92 Name kind c cs s t.0 (escape_tells cs t.1)
by_lead lead.Dollar c cs kind s e = told_at 36 System kind c cs s (token_of _ System kind e).0 (other_tells System 36 cs refl refl refl refl)
by_lead lead.Digit c cs kind s e =
    let first : (is_ascii_digit c || (c == 39)) ≡ true = ap (λ b. b || (c == 39)) s in
    elim (digit_numeric (c ∷ cs) kind e) [
      | inl plain ↦ told_at c Plain kind c cs refl plain (other_tells Plain c cs refl first (digit_no_letter c s) (digit_no_backslash c s))
      | inr based ↦ told_at c Based kind c cs refl based (other_tells Based c cs refl first (digit_no_letter c s) (digit_no_backslash c s))
    ]
by_lead lead.Apostrophe c cs kind s e = told_at 39 Based kind c cs s (token_of _ Based kind e).0 (other_tells Based 39 cs refl refl refl refl)
by_lead lead.Quote c cs kind s e = told_at 34 Quoted kind c cs s (token_of _ Quoted kind e).0 (other_tells Quoted 34 cs refl refl refl refl)
by_lead lead.Slash c cs kind s e = told_at 47 Symbol kind c cs s (slash_symbol cs kind e) (other_tells Symbol 47 cs refl refl refl refl)
by_lead lead.Punctuation c cs kind s e =
    let first : (is_ascii_digit c || (c == 39)) ≡ false = ap (λ b. b || (c == 39)) s.digit ∙ ne_eqb c 39 s.apostrophe in
    told_at c Symbol kind c cs refl (token_of _ Symbol kind e).0 (other_tells Symbol c cs refl first s.letter (ne_eqb c 92 s.backslash))
by_lead lead.Other c cs kind s e = let clash : None ≡ Some (Token kind) = e in absurd cc

front_tells : (text : List ℕ) (kind : TokenKind) (len : ℕ) → IsFront text (Token kind) len → Tells kind (take len text)
front_tells text kind len f = by_bytes (take len text) f.shape where
  by_bytes : (bytes : List ℕ) → form_of bytes ≡ Some (Token kind) → Tells kind bytes
  by_bytes [] e = let clash : None ≡ Some (Token kind) = e in absurd cc
  by_bytes (c ∷ cs) e = by_lead (lead_of c) c cs kind (says c (lead_of c) refl) e

tokens_tell : (delay : Bool) (text : List ℕ) (pieces : List Piece) → Cut delay text pieces → All (λ piece. Tells piece.kind piece.text) pieces
tokens_tell delay text pieces (done d) = All-nil (λ piece. Tells piece.kind piece.text)
tokens_tell delay text pieces (piece d t form len left f l) = by form f (tokens_tell (is_delay d form (take len t)) (drop len t) left l)
  where
    by : (form : Form) → IsFront (readable d t) form len → All (λ piece. Tells piece.kind piece.text) left → All (λ piece. Tells piece.kind piece.text) (pieces_by form (take len t) ++ left)
    by Blank f rest = rest
    by Comment f rest = rest
    by (Token kind) f rest =
        All-cons (λ piece. Tells piece.kind piece.text) (record { kind = kind; text = take len t }) left
        (subst (Tells kind) (seen_front d t len f.within) (front_tells (readable d t) kind len f)) rest

-- The same, kind by kind

numeric_kinds : (kind : TokenKind) → is_numeric kind ≡ true → (kind ≡ Plain) ⊎ (kind ≡ Based)
numeric_kinds Plain e = inl refl
numeric_kinds Based e = inr refl
numeric_kinds Name e = let clash : false ≡ true = e in absurd cc
numeric_kinds System e = let clash : false ≡ true = e in absurd cc
numeric_kinds Quoted e = let clash : false ≡ true = e in absurd cc
numeric_kinds Symbol e = let clash : false ≡ true = e in absurd cc

numeric_from : (kind : TokenKind) → (kind ≡ Plain) ⊎ (kind ≡ Based) → is_numeric kind ≡ true
numeric_from kind e = elim e [ inl plain ↦ ap is_numeric plain | inr based ↦ ap is_numeric based ]

word_kind : (kind : TokenKind) → is_word kind ≡ true → kind ≡ Name
word_kind Name e = refl
word_kind Plain e = let clash : false ≡ true = e in absurd cc
word_kind Based e = let clash : false ≡ true = e in absurd cc
word_kind System e = let clash : false ≡ true = e in absurd cc
word_kind Quoted e = let clash : false ≡ true = e in absurd cc
word_kind Symbol e = let clash : false ≡ true = e in absurd cc

number_told : (found : Piece) → Tells found.kind found.text → TellsNumber found
number_told found t = (λ e. numeric_kinds found.kind (sym t.number ∙ e), λ e. t.number ∙ numeric_from found.kind e)

name_told : (found : Piece) → Tells found.kind found.text → TellsName found
name_told found t = (
  λ e.
      let p = and_parts (is_word found.kind) (not (is_reserved found.text)) (sym t.name ∙ e) in
      (word_kind found.kind p.0, not-true (is_reserved found.text) p.1),
  λ e. t.name ∙ ap (λ k. is_word k && not (is_reserved found.text)) e.0 ∙ ap not e.1,
)

pub numbers_told : (text : List ℕ) (pieces : List Piece) → Lexed text pieces → All TellsNumber pieces
numbers_told text pieces l =
    subst (All TellsNumber) (sym l.1.1)
    (all_words TellsNumber l.0 (All-weaker (λ piece. Tells piece.kind piece.text) TellsNumber number_told l.0 (tokens_tell false text l.0 l.1.0)))

pub names_told : (text : List ℕ) (pieces : List Piece) → Lexed text pieces → All TellsName pieces
names_told text pieces l =
    subst (All TellsName) (sym l.1.1)
    (all_words TellsName l.0 (All-weaker (λ piece. Tells piece.kind piece.text) TellsName name_told l.0 (tokens_tell false text l.0 l.1.0)))
