-- Each code is the numeral of its number, and the only one.
use Rattle.std.proofs.Common.{◌≡◌, ◌<◌, ◌≤◌, ◌+◌, ◌-◌, ◌*◌, ◌⊎◌, inl, inr, ℕ, zero, suc, false, true, List, [], ◌∷◌, refl, sym, ap, subst, ◌∙◌, arith}
use Rattle.std.specs.Prelude.{All, nat_lt}
use Rattle.std.proofs.lemmas.Bool.{cases_lt}
use Rattle.std.proofs.lemmas.Bool.Decides.{nat_tests}
use Rattle.std.proofs.lemmas.List.Elements.{All-nil, All-cons, All-head, All-tail}
use Rattle.vcd_text.specs.DumpText.{code, following}
use Rattle.vcd_text.specs.CodeLaws.{IsDigit, number_of}

pub following_less : (c : ℕ) (cs : List ℕ) → c < 126 → following (c ∷ cs) ≡ suc c ∷ cs
following_less c cs lt = let test : nat_lt c 126 ≡ true = grind (arith, nat_tests) in rw test

following_last : (c : ℕ) (cs : List ℕ) → 126 ≤ c → following (c ∷ cs) ≡ 33 ∷ following cs
following_last c cs ge = let test : nat_lt c 126 ≡ false = grind (arith, nat_tests) in rw test

-- ---- the digits of a code

digit_more : (c : ℕ) → IsDigit c → c < 126 → IsDigit (suc c)
digit_more c p lt = let low : 33 ≤ c = p.0 in (omega arith, omega arith)

digits_by_case : (c : ℕ) (cs : List ℕ) → (c < 126) ⊎ (126 ≤ c) → All IsDigit (c ∷ cs) → All IsDigit (following cs) → All IsDigit (following (c ∷ cs))
digits_by_case c cs (inl lt) all later =
    subst (All IsDigit) (sym (following_less c cs lt))
    (All-cons IsDigit (suc c) cs (digit_more c (All-head IsDigit c cs all) lt) (All-tail IsDigit c cs all))
digits_by_case c cs (inr ge) all later =
    subst (All IsDigit) (sym (following_last c cs ge)) (All-cons IsDigit 33 (following cs) (omega arith, omega arith) later)

following_digits : (cs : List ℕ) → All IsDigit cs → All IsDigit (following cs)
following_digits [] all = All-cons IsDigit 33 [] (omega arith, omega arith) all
following_digits (c ∷ cs) all = digits_by_case c cs (cases_lt c 126) all (following_digits cs (All-tail IsDigit c cs all))

pub code_digits : (n : ℕ) → All IsDigit (code n)
code_digits zero = All-cons IsDigit 33 [] (omega arith, omega arith) (All-nil IsDigit)
code_digits (suc n) = following_digits (code n) (code_digits n)

-- ---- the number of a code

digit_up : (c n : ℕ) → 33 ≤ c → (suc c - 32) + 94 * n ≡ suc ((c - 32) + 94 * n)
digit_up c n low = omega arith

carry : (c n m : ℕ) → c ≤ 126 → 126 ≤ c → m ≡ suc n → (33 - 32) + 94 * m ≡ suc ((c - 32) + 94 * n)
carry c n m high ge next = omega arith

number_by_case : (c : ℕ) (cs : List ℕ) → (c < 126) ⊎ (126 ≤ c) → IsDigit c → number_of (following cs) ≡ suc (number_of cs) →
    number_of (following (c ∷ cs)) ≡ suc (number_of (c ∷ cs))
number_by_case c cs (inl lt) p next = ap number_of (following_less c cs lt) ∙ digit_up c (number_of cs) p.0
number_by_case c cs (inr ge) p next = ap number_of (following_last c cs ge) ∙ carry c (number_of cs) (number_of (following cs)) p.1 ge next

following_number : (cs : List ℕ) → All IsDigit cs → number_of (following cs) ≡ suc (number_of cs)
following_number [] all = refl
following_number (c ∷ cs) all = number_by_case c cs (cases_lt c 126) (All-head IsDigit c cs all) (following_number cs (All-tail IsDigit c cs all))

pub code_number : (n : ℕ) → number_of (code n) ≡ n + 1
code_number zero = refl
code_number (suc n) = following_number (code n) (code_digits n) ∙ ap suc (code_number n) ∙ omega arith

-- ---- no other text is

same_rest : (c d n m : ℕ) → IsDigit c → IsDigit d → (c - 32) + 94 * n ≡ (d - 32) + 94 * m → n ≡ m
same_rest c d n m p q same = let high : c ≤ 126 = p.1 in let other : d ≤ 126 = q.1 in let low : 33 ≤ c = p.0 in let under : 33 ≤ d = q.0 in omega arith

same_first : (c d n m : ℕ) → IsDigit c → IsDigit d → n ≡ m → (c - 32) + 94 * n ≡ (d - 32) + 94 * m → c ≡ d
same_first c d n m p q rest same = let low : 33 ≤ c = p.0 in let under : 33 ≤ d = q.0 in omega arith

not_none : (c n : ℕ) → IsDigit c → 0 ≡ (c - 32) + 94 * n → ⊥
not_none c n p none = let low : 33 ≤ c = p.0 in omega arith

same_text : (xs ys : List ℕ) → All IsDigit xs → All IsDigit ys → number_of xs ≡ number_of ys → xs ≡ ys
same_text [] [] p q same = refl
same_text [] (d ∷ ds) p q same = absurd (not_none d (number_of ds) (All-head IsDigit d ds q) same)
same_text (c ∷ cs) [] p q same = absurd (not_none c (number_of cs) (All-head IsDigit c cs p) (sym same))
same_text (c ∷ cs) (d ∷ ds) p q same =
    let c_digit : IsDigit c = All-head IsDigit c cs p in
    let d_digit : IsDigit d = All-head IsDigit d ds q in
    let rest : number_of cs ≡ number_of ds = same_rest c d (number_of cs) (number_of ds) c_digit d_digit same in
    let first : c ≡ d = same_first c d (number_of cs) (number_of ds) c_digit d_digit rest same in
    ap (λ (e : ℕ). e ∷ cs) first ∙ ap (λ (es : List ℕ). d ∷ es) (same_text cs ds (All-tail IsDigit c cs p) (All-tail IsDigit d ds q) rest)

pub only_code : (n : ℕ) (text : List ℕ) → All IsDigit text → number_of text ≡ n + 1 → text ≡ code n
only_code n text digits number = same_text text (code n) digits (code_digits n) (number ∙ sym (code_number n))
