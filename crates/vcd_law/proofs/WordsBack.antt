-- The words of lines.
use Rattle.std.proofs.Common.{◌≡◌, ℕ, ◌<◌, ◌≤◌, ◌^◌, Bool, true, false, ◌&&◌, ◌||◌, if◌then◌else◌, List, [], ◌∷◌, ◌++◌, refl, ap, sym, ◌∙◌, subst, arith, append_assoc, append-nil}
use Rattle.std.specs.Prelude.{All, nat_le, decimal}
use Rattle.std.specs.Char.{is_ascii_digit, is_ascii_whitespace}
use Rattle.std.specs.List.{list_all}
use Rattle.std.specs.Str.{all_ascii_digits}
use Rattle.std.proofs.lemmas.Bool.{leb-true, lt-leb}
use Rattle.std.proofs.lemmas.Fmt.{decimal_nonempty, digits_value-decimal}
use Rattle.std.proofs.lemmas.List.Elements.{All-head, All-tail}
use Rattle.basis.proofs.Bools.{and_left, and_right}
use Rattle.basis.proofs.Decimals.{decimal_digits}
use Rattle.basis.proofs.Digits.{decimal_numerals}
use Rattle.vcd_read.specs.Words.{Text, with_word, words_behind, words_of}
use Rattle.vcd_read.specs.Numbers.{IsDecimal}
use Rattle.vcd_read.specs.Commands.{Item, Tells, at, time}
use Rattle.vcd_read.specs.Telling.{Tell}
use Rattle.vcd_law.specs.Headers.{Plain}
use Rattle.vcd_text.specs.CodeLaws.{IsDigit}
use Rattle.vcd_text.specs.DumpText.{code, line, time_line}
use Rattle.vcd_text.proofs.CodeLemmas.{code_digits}

no_range : (a b d : Bool) → (((a && false) || (b && false)) || (d && false)) ≡ false
no_range true true true = refl
no_range true true false = refl
no_range true false true = refl
no_range true false false = refl
no_range false true true = refl
no_range false true false = refl
no_range false false true = refl
no_range false false false = refl

no_blank : (c : ℕ) → 33 ≤ c → is_ascii_whitespace c ≡ false
no_blank c h =
    let ten : nat_le c 10 ≡ false = lt-leb c 10 (omega arith) in
    let more : nat_le c 13 ≡ false = lt-leb c 13 (omega arith) in
    let last : nat_le c 32 ≡ false = lt-leb c 32 (omega arith) in
    (λ i. ((nat_le 9 c && ten i) || (nat_le 12 c && more i)) || (nat_le 32 c && last i)) ∙ no_range (nat_le 9 c) (nat_le 12 c) (nat_le 32 c)

pub letters_come : (w : Text) (rest : List ℕ) (letters : Text) → Plain w → words_behind (w ++ rest) letters ≡ words_behind rest (letters ++ w)
letters_come [] rest letters plain = ap (words_behind rest) (sym (append-nil letters))
letters_come (c ∷ cs) rest letters plain =
    ap (λ (b : Bool). if b then with_word letters (words_behind (cs ++ rest) []) else words_behind (cs ++ rest) (letters ++ c ∷ [])) (no_blank c plain.0)
    ∙ letters_come cs rest (letters ++ c ∷ []) plain.1 ∙ ap (words_behind rest) (append_assoc letters (c ∷ []) cs)

pub word_comes : (c : ℕ) (cs : Text) (blank : ℕ) (rest : List ℕ) → Plain (c ∷ cs) → is_ascii_whitespace blank ≡ true →
    words_of ((c ∷ cs) ++ blank ∷ rest) ≡ (c ∷ cs) ∷ words_of rest
word_comes c cs blank rest plain is =
    letters_come (c ∷ cs) (blank ∷ rest) [] plain
    ∙ ap (λ (b : Bool). if b then with_word (c ∷ cs) (words_behind rest []) else words_behind rest ((c ∷ cs) ++ blank ∷ [])) is

-- the text tells these items, and leads into a block or out of it: whatever is told behind it goes on from there
abbrev pub TellsText : Bool → Bool → List ℕ → List Item → Type 0
TellsText old new text items = (rest : List ℕ) (more : List Item) → Tells new (words_of rest) more → Tells old (words_of (text ++ rest)) (items ++ more)

pub text_then : (a b c : Bool) (s t : List ℕ) (is js : List Item) → TellsText a b s is → TellsText b c t js → TellsText a c (s ++ t) (is ++ js)
text_then a b c s t is js x y rest more d =
    subst (λ (text : List ℕ). Tells a (words_of text) ((is ++ js) ++ more)) (sym (append_assoc s t rest))
    (subst (λ (list : List Item). Tells a (words_of (s ++ (t ++ rest))) list) (sym (append_assoc is js more)) (x (t ++ rest) (js ++ more) (y rest more d)))

pub text_none : (a : Bool) → TellsText a a [] []
text_none a rest more d = d

-- nothing behind it
pub text_alone : (a b : Bool) (s : List ℕ) (is : List Item) → TellsText a b s is → TellsText a b (s ++ []) is
text_alone a b s is x = subst (λ (text : List ℕ). TellsText a b text is) (sym (append-nil s)) x

pub line_of_one : (old new : Bool) (c : ℕ) (cs : Text) (items : List Item) → Plain (c ∷ cs) → Tell ((c ∷ cs) ∷ []) old new items →
    TellsText old new (line (c ∷ cs)) items
line_of_one old new c cs items plain tell rest more d =
    subst (λ (words : List Text). Tells old words (items ++ more))
    (sym (ap words_of (append_assoc (c ∷ cs) (10 ∷ []) rest) ∙ word_comes c cs 10 rest plain refl)) (tell (words_of rest) more d)

pub line_of_two : (old new : Bool) (c : ℕ) (cs : Text) (d : ℕ) (ds : Text) (items : List Item) → Plain (c ∷ cs) → Plain (d ∷ ds) →
    Tell ((c ∷ cs) ∷ (d ∷ ds) ∷ []) old new items → TellsText old new (line ((c ∷ cs) ++ 32 ∷ d ∷ ds)) items
line_of_two old new c cs d ds items plain also tell rest more told =
    let text : line ((c ∷ cs) ++ 32 ∷ d ∷ ds) ++ rest ≡ (c ∷ cs) ++ 32 ∷ ((d ∷ ds) ++ 10 ∷ rest) =
    append_assoc ((c ∷ cs) ++ 32 ∷ d ∷ ds) (10 ∷ []) rest ∙ append_assoc (c ∷ cs) (32 ∷ d ∷ ds) (10 ∷ rest) in
    subst (λ (words : List Text). Tells old words (items ++ more))
    (sym (ap words_of text ∙ word_comes c cs 32 ((d ∷ ds) ++ 10 ∷ rest) plain refl ∙ ap (λ (words : List Text). (c ∷ cs) ∷ words) (word_comes d ds 10 rest also refl)))
    (tell (words_of rest) more told)

low_digit : (c : ℕ) → is_ascii_digit c ≡ true → 33 ≤ c
low_digit c h = let first : 48 ≤ c = leb-true 48 c (and_left (nat_le 48 c) (nat_le c 57) h) in omega arith

pub plain_numbers : (ds : Text) → all_ascii_digits ds ≡ true → Plain ds
plain_numbers [] h = tt
plain_numbers (c ∷ cs) h = (low_digit c (and_left (is_ascii_digit c) (all_ascii_digits cs) h), plain_numbers cs (and_right (is_ascii_digit c) (all_ascii_digits cs) h))

-- the decimal of a number is read
pub decimal_is : (n : ℕ) → n < 2 ^ 64 → IsDecimal (decimal n) n
decimal_is n small = record {
  some = decimal_nonempty n small;
  digits = decimal_digits n small;
  value = digits_value-decimal decimal_numerals n small;
  small = small;
}

pub time_told : (t : ℕ) → t < 2 ^ 64 → TellsText false false (time_line t) (at t ∷ [])
time_told t small =
    line_of_one false false 35 (decimal t) (at t ∷ []) (omega arith, plain_numbers (decimal t) (decimal_digits t small))
    (λ rest more d. time (decimal t) t rest more (decimal_is t small) d)

plain_code_digits : (ds : Text) → All IsDigit ds → Plain ds
plain_code_digits [] all = tt
plain_code_digits (c ∷ cs) all = ((All-head IsDigit c cs all).0, plain_code_digits cs (All-tail IsDigit c cs all))

pub plain_code : (n : ℕ) → Plain (code n)
plain_code n = plain_code_digits (code n) (code_digits n)

pub plain_word : (w : Text) → list_all (λ c. nat_le 33 c) w ≡ true → Plain w
plain_word [] h = tt
plain_word (c ∷ cs) h =
    let rest : Bool = list_all (λ c. nat_le 33 c) cs in (leb-true 33 c (and_left (nat_le 33 c) rest h), plain_word cs (and_right (nat_le 33 c) rest h))
