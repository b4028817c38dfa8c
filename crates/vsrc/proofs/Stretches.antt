-- What a comment and a string become a byte further on.
use Rattle.std.proofs.Common.{◌≡◌, ◌≢◌, ℕ, suc, ◌+◌, ◌-◌, ◌<◌, ◌≤◌, Bool, true, false, ◌&&◌, nat_eq, List, [], ◌∷◌, Option, Some, None, length, drop, get_or, refl, sym, ◌∙◌, ap, arith, unwrap_or, drop-cons}
use Rattle.std.proofs.Math.ListN.{drop_of_length-le}
use Rattle.std.specs.List.{position_or_len}
use Rattle.std.proofs.lemmas.Bool.{ne_eqb, false_from_ne_true}
use Rattle.std.proofs.lemmas.List.Sums.{position_or_len_is}
use Rattle.memchr.specs.Find.{IsFirstByte}
use Rattle.vsrc.specs.Outside.{further, block_end, string_end}

-- what `memchr` answers, with the length in the place of None
pub position_of_first : (test : ℕ → Bool) (xs : List ℕ) (r : Option ℕ) → IsFirstByte test xs r → unwrap_or r (length xs) ≡ position_or_len test xs
position_of_first test xs None h = sym (position_or_len_is test xs (length xs) 0 (omega arith) (λ k low. false_from_ne_true _ (h k (omega arith) low)) (λ low. absurd (omega arith)))
position_of_first test xs (Some k) h =
    sym (position_or_len_is test xs k 0 (omega (arith, h.0.high)) (λ j low. false_from_ne_true _ (h.0.before j (omega arith) low)) (λ low. h.1))

-- what is left from a place on begins with the byte there
pub drop_here : (text : List ℕ) (at : ℕ) → at < length text → drop at text ≡ get_or text at 0 ∷ drop (at + 1) text
drop_here text at within = let next : suc at ≡ at + 1 = omega arith in drop-cons text at 0 within ∙ ap (λ n. get_or text at 0 ∷ drop n text) next

-- ---- further on

pub further_none : (n : ℕ) (o : Option ℕ) → o ≡ None → further n o ≡ None
further_none n o e = ap (further n) e

further_more : (m n : ℕ) (o : Option ℕ) → further m (further n o) ≡ further (m + n) o
further_more m n None = refl
further_more m n (Some len) = ap Some (omega arith)

pub further_zero : (o : Option ℕ) → further 0 o ≡ o
further_zero None = refl
further_zero (Some len) = ap Some (omega arith)

-- ---- strings

quote : (c : ℕ) (cs : List ℕ) → c ≡ 34 → string_end (c ∷ cs) ≡ Some 1
quote c [] e = ap (λ x. string_end (x ∷ [])) e
quote c (d ∷ cs) e = ap (λ x. string_end (x ∷ d ∷ cs)) e

pub string_at_quote : (text : List ℕ) (at : ℕ) → at < length text → get_or text at 0 ≡ 34 → further at (string_end (drop at text)) ≡ Some (at + 1)
string_at_quote text at within e = ap (further at) (ap string_end (drop_here text at within) ∙ quote _ _ e)

feed : (c : ℕ) (cs : List ℕ) → c ≡ 10 → string_end (c ∷ cs) ≡ None
feed c [] e = ap (λ x. string_end (x ∷ [])) e
feed c (d ∷ cs) e = ap (λ x. string_end (x ∷ d ∷ cs)) e

pub string_at_feed : (text : List ℕ) (at : ℕ) → at < length text → get_or text at 0 ≡ 10 → further at (string_end (drop at text)) ≡ None
string_at_feed text at within e = ap (further at) (ap string_end (drop_here text at within) ∙ feed _ _ e)

pub string_at_end : (text : List ℕ) (at : ℕ) → length text ≤ at → further at (string_end (drop at text)) ≡ None
string_at_end text at end = ap (λ l. further at (string_end l)) (drop_of_length-le text end)

plain : (c : ℕ) (cs : List ℕ) → c ≢ 34 → c ≢ 10 → c ≢ 92 → string_end (c ∷ cs) ≡ further 1 (string_end cs)
plain c [] a b d = rw (ne_eqb c 34 a) refl
plain c (x ∷ cs) a b d = rw (ne_eqb c 34 a, ne_eqb c 10 b, ne_eqb c 92 d) refl

pub string_at_plain : (text : List ℕ) (at : ℕ) → at < length text → get_or text at 0 ≢ 34 → get_or text at 0 ≢ 10 → get_or text at 0 ≢ 92
    → further at (string_end (drop at text)) ≡ further (at + 1) (string_end (drop (at + 1) text))
string_at_plain text at within a b d = ap (further at) (ap string_end (drop_here text at within) ∙ plain _ _ a b d) ∙ further_more at 1 _

-- a backslash at the end stands alone
pub string_at_last : (text : List ℕ) (at : ℕ) → at < length text → length text ≤ at + 1 → get_or text at 0 ≡ 92
    → further at (string_end (drop at text)) ≡ further (at + 1) (string_end (drop (at + 1) text))
string_at_last text at within end e =
    ap (further at) (ap string_end (drop_here text at within) ∙ ap (λ l. string_end (get_or text at 0 ∷ l)) (drop_of_length-le text end) ∙ ap (λ c. string_end (c ∷ [])) e)
    ∙ ap (λ l. further (at + 1) (string_end l)) (sym (drop_of_length-le text end))

-- a backslash before a line feed stands alone
pub string_at_broken : (text : List ℕ) (at : ℕ) → at + 1 < length text → get_or text at 0 ≡ 92 → get_or text (at + 1) 0 ≡ 10
    → further at (string_end (drop at text)) ≡ further (at + 1) (string_end (drop (at + 1) text))
string_at_broken text at within e next =
    let here : at < length text = omega arith in
    let rest : drop (at + 1) text ≡ 10 ∷ drop (at + 1 + 1) text = drop_here text (at + 1) within ∙ ap (λ c. c ∷ drop (at + 1 + 1) text) next in
    ap (further at)
    (ap string_end (drop_here text at here) ∙ ap (λ l. string_end (get_or text at 0 ∷ l)) rest ∙ ap (λ c. string_end (c ∷ 10 ∷ drop (at + 1 + 1) text)) e
    ∙ ap (λ l. further 1 (string_end l)) (sym rest))
    ∙ further_more at 1 _

pub string_at_escape : (text : List ℕ) (at : ℕ) → at + 1 < length text → get_or text at 0 ≡ 92 → get_or text (at + 1) 0 ≢ 10
    → further at (string_end (drop at text)) ≡ further (at + 1 + 1) (string_end (drop (at + 1 + 1) text))
string_at_escape text at within e next =
    let here : at < length text = omega arith in
    let two : at + 2 ≡ at + 1 + 1 = omega arith in
    ap (further at)
    (ap string_end (drop_here text at here ∙ ap (λ l. get_or text at 0 ∷ l) (drop_here text (at + 1) within))
    ∙ rw (e, ne_eqb _ 10 next) refl)
    ∙ further_more at 2 _ ∙ ap (λ n. further n (string_end (drop (at + 1 + 1) text))) two

-- ---- comments

block_cut : (text : List ℕ) (at : ℕ) → 0 < at → at < length text → drop (at - 1) text ≡ get_or text (at - 1) 0 ∷ get_or text at 0 ∷ drop (at + 1) text
block_cut text at some within =
    let before : at - 1 < length text = omega arith in
    let next : at - 1 + 1 ≡ at = omega arith in
    drop_here text (at - 1) before ∙ ap (λ n. get_or text (at - 1) 0 ∷ drop n text) next ∙ ap (λ l. get_or text (at - 1) 0 ∷ l) (drop_here text at within)

pub block_at_mark : (text : List ℕ) (at : ℕ) → 0 < at → at < length text → (nat_eq (get_or text (at - 1) 0) 42 && nat_eq (get_or text at 0) 47) ≡ true
    → further (at - 1) (block_end (drop (at - 1) text)) ≡ Some (at + 1)
block_at_mark text at some within is =
    let whole : at - 1 + 2 ≡ at + 1 = omega arith in
    let found : block_end (get_or text (at - 1) 0 ∷ get_or text at 0 ∷ drop (at + 1) text) ≡ Some 2 = rw is refl in
    ap (further (at - 1)) (ap block_end (block_cut text at some within) ∙ found) ∙ ap Some whole

pub block_at_plain : (text : List ℕ) (at : ℕ) → 0 < at → at < length text → (nat_eq (get_or text (at - 1) 0) 42 && nat_eq (get_or text at 0) 47) ≡ false
    → further (at - 1) (block_end (drop (at - 1) text)) ≡ further at (block_end (drop at text))
block_at_plain text at some within other =
    let whole : at - 1 + 1 ≡ at = omega arith in
    let on : block_end (get_or text (at - 1) 0 ∷ get_or text at 0 ∷ drop (at + 1) text) ≡ further 1 (block_end (get_or text at 0 ∷ drop (at + 1) text)) = rw other refl in
    ap (further (at - 1)) (ap block_end (block_cut text at some within) ∙ on ∙ ap (λ l. further 1 (block_end l)) (sym (drop_here text at within)))
    ∙ further_more (at - 1) 1 _ ∙ ap (λ n. further n (block_end (drop at text))) whole

pub block_at_end : (text : List ℕ) → length text ≤ 1 → block_end text ≡ None
block_at_end [] short = refl
block_at_end (c ∷ []) short = refl
block_at_end (c ∷ d ∷ cs) short = absurd (omega arith)
