-- The order of values is that of their texts.
use Rattle.std.proofs.Common.{◌≡◌, ℕ, ◌+◌, ◌*◌, ◌<◌, cond, List, [], ◌∷◌, ◌++◌, length, length-append, map, reverse, refl, sym, ap, ◌∙◌, inl, inr, arith}
use Rattle.std.specs.Cmp.Lexicographic.{slice_cmp}
use Rattle.std.specs.Ordering.{nat_cmp, ordering_then}
use Rattle.std.specs.declared.cmp.Ordering.{Ordering}
use Rattle.std.specs.declared.cmp.Ordering.TheVariants.{Less, Equal, Greater}
use Rattle.std.proofs.lemmas.Bool.{cases_lt}
use Rattle.std.proofs.lemmas.Cmp.{nat_list_cmp_total, tied_itself}
use Rattle.std.proofs.lemmas.List.{map-append, reverse-append}
use Rattle.vbits.specs.declared.bit4.Bit4.{Bit4}
use Rattle.vbits.specs.declared.bit4.Bit4.TheVariants.{Zero, One, X, Z}
use Rattle.vbits.specs.Vectors.{Vector}
use Rattle.racebook.specs.Order.{IsTextBefore, digit_of, shape_of, text_number}
use Rattle.racebook.proofs.KeyLemmas.{digit_small, text_tells}
use Rattle.report_text.specs.WellFormed.{IsTextLess}
use Rattle.value_text.specs.ValueText.{binary, binary_digit as digit}

then_assoc : (o p q : Ordering) → ordering_then o (ordering_then p q) ≡ ordering_then (ordering_then o p) q
then_assoc Less p q = refl
then_assoc Equal p q = refl
then_assoc Greater p q = refl

then_equal : (o : Ordering) → ordering_then o Equal ≡ o
then_equal Less = refl
then_equal Equal = refl
then_equal Greater = refl

-- of lists of one length, one more on each decides only where all before is equal
last_decides : (xs ys : List ℕ) (x y : ℕ) → length xs ≡ length ys → slice_cmp nat_cmp (xs ++ x ∷ []) (ys ++ y ∷ []) ≡ ordering_then (slice_cmp nat_cmp xs ys) (nat_cmp x y)
last_decides [] [] x y l = then_equal (nat_cmp x y)
last_decides [] (b ∷ ys) x y l = absurd (omega arith)
last_decides (a ∷ xs) [] x y l = absurd (omega arith)
last_decides (a ∷ xs) (b ∷ ys) x y l =
    let same : length xs ≡ length ys = omega arith in
    ap (ordering_then (nat_cmp a b)) (last_decides xs ys x y same) ∙ then_assoc (nat_cmp a b) (slice_cmp nat_cmp xs ys) (nat_cmp x y)

digit_less : (a b : Bit4) → digit_of a < digit_of b → nat_cmp (digit a) (digit b) ≡ Less
digit_less Zero Zero h = absurd (omega arith)
digit_less Zero One h = refl
digit_less Zero X h = refl
digit_less Zero Z h = refl
digit_less One Zero h = absurd (omega arith)
digit_less One One h = absurd (omega arith)
digit_less One X h = refl
digit_less One Z h = refl
digit_less X Zero h = absurd (omega arith)
digit_less X One h = absurd (omega arith)
digit_less X X h = absurd (omega arith)
digit_less X Z h = refl
digit_less Z Zero h = absurd (omega arith)
digit_less Z One h = absurd (omega arith)
digit_less Z X h = absurd (omega arith)
digit_less Z Z h = absurd (omega arith)

-- letters stand lowest first, digits leftmost first
abbrev text : List Bit4 → List ℕ
text letters = map digit (reverse letters)

text_more : (x : Bit4) (xs : List Bit4) → text (x ∷ xs) ≡ text xs ++ digit x ∷ []
text_more x xs = ap (map digit) (reverse-append (x ∷ []) xs) ∙ map-append digit (reverse xs) (x ∷ [])

pub text_length : (xs : List Bit4) → length (text xs) ≡ length xs
text_length [] = refl
text_length (x ∷ xs) = let h = text_length xs in ap length (text_more x xs) ∙ omega (arith, length-append (text xs) (digit x ∷ []))

by_last : (xs ys : List Bit4) (x y : Bit4) (o p : Ordering) → length xs ≡ length ys → slice_cmp nat_cmp (text xs) (text ys) ≡ o → nat_cmp (digit x) (digit y) ≡ p → ordering_then o p ≡ Less →
    IsTextLess (text (x ∷ xs)) (text (y ∷ ys))
by_last xs ys x y o p same before last less =
    let long : length (text xs) ≡ length (text ys) = text_length xs ∙ same ∙ sym (text_length ys) in
    ap (slice_cmp nat_cmp (text (x ∷ xs))) (text_more y ys) ∙ ap (λ zs. slice_cmp nat_cmp zs (text ys ++ digit y ∷ [])) (text_more x xs)
    ∙ last_decides (text xs) (text ys) (digit x) (digit y) long ∙ (λ i. ordering_then (before i) (last i)) ∙ less

-- the lesser number has the lesser text
less_text : (xs ys : List Bit4) → length xs ≡ length ys → text_number xs < text_number ys → IsTextLess (text xs) (text ys)
less_text [] [] l h = absurd (omega arith)
less_text [] (y ∷ ys) l h = absurd (omega arith)
less_text (x ∷ xs) [] l h = absurd (omega arith)
less_text (x ∷ xs) (y ∷ ys) l h =
    let hx = digit_small x in
    let hy = digit_small y in
    let same : length xs ≡ length ys = omega arith in
    elim (cases_lt (text_number xs) (text_number ys)) [
      | inl less ↦ by_last xs ys x y Less (nat_cmp (digit x) (digit y)) same (less_text xs ys same less) refl refl
      | inr not ↦
          let equal : text_number xs ≡ text_number ys = omega (arith, hx, hy, h, not) in
          let digits : digit_of x < digit_of y = omega (arith, h, equal) in
          let alike : slice_cmp nat_cmp (text xs) (text ys) ≡ Equal =
          ap (λ zs. slice_cmp nat_cmp (text zs) (text ys)) (text_tells xs ys same equal) ∙ tied_itself nat_list_cmp_total (text ys) in
          by_last xs ys x y Equal Less same alike (digit_less x y digits) refl
    ]

-- of values of one shape the earlier one has the lesser text
pub text_less : (v w : Vector) → length v.letters ≡ length w.letters → v.signed ≡ w.signed → IsTextBefore v w → IsTextLess (binary v) (binary w)
text_less v w long sign (inr (same, less)) = less_text v.letters w.letters long less
text_less v w long sign (inl apart) =
    let same : shape_of v ≡ shape_of w = λ i. 2 * long i + cond (sign i) 1 0 in
    absurd (omega (arith, apart, same))
