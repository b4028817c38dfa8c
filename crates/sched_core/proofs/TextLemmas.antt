-- Facts about the decimals in a log's text.
use Rattle.std.proofs.Common.{◌≡◌, ◌≢◌, ℕ, ◌+◌, ◌^◌, ◌<◌, ◌≤◌, zero, suc, true, false, List, [], ◌∷◌, ◌++◌, length, get_or, take, drop, arith, ap, refl, sym, subst, inl, inr, ◌∙◌, add-one, append_assoc, IfSome, IfNone, Option, None, Some, Result, Ok, Err}
use Rattle.std.specs.Char.{is_ascii_digit}
use Rattle.std.specs.Str.{all_ascii_digits}
use Rattle.std.specs.Str.Parse.{digits_value, ParsesUnsigned}
use Rattle.std.specs.Result.{OkIff, result_ok}
use Rattle.std.specs.Fmt.{decimal}
use Rattle.std.proofs.lemmas.Str.Parse.{parse_digits}
use Rattle.std.proofs.lemmas.Fmt.{digits_decimal, digits_value-decimal, decimal-digits_value, first_decimal, decimal_digit, decimal_nonempty, decimal_injective}
use Rattle.basis.proofs.Bools.{and_left, and_right}
use Rattle.basis.proofs.Decimals.{counted, decimal_digits}
use Rattle.std.proofs.lemmas.Bool.{cases_Bool}
use Rattle.std.specs.List.{prefix_len}
use Rattle.sched_core.specs.LogText.{member_text}
use Rattle.sched_core.specs.Inner.Reading.{StartsNoNumber, IsNumberFront, HasNoNumber}

no_digit : (c : ℕ) (cs : List ℕ) → all_ascii_digits (c ∷ cs) ≡ true → is_ascii_digit c ≡ false → ⊥
no_digit c cs h n = let e : is_ascii_digit c ≡ true = and_left _ _ h in cc

-- two readings of one text take the same digits
pub front_unique : (ds es r s : List ℕ) → all_ascii_digits ds ≡ true → all_ascii_digits es ≡ true → StartsNoNumber r → StartsNoNumber s → ds ++ r ≡ es ++ s → (ds ≡ es) × (r ≡ s)
front_unique [] [] r s p q a b e = (refl, e)
front_unique [] (y ∷ ys) r s p q a b e = absurd (no_digit y ys q (subst StartsNoNumber e a))
front_unique (x ∷ xs) [] r s p q a b e = absurd (no_digit x xs p (subst StartsNoNumber (sym e) b))
front_unique (x ∷ xs) (y ∷ ys) r s p q a b e =
    let head : x ≡ y = cc in
    let tail : xs ++ r ≡ ys ++ s = cc in
    let rest : ◌≡◌ {A = List ℕ} xs ys × (r ≡ s) = front_unique xs ys r s (and_right _ _ p) (and_right _ _ q) a b tail in
    ((λ i. head i ∷ rest.0 i), rest.1)

-- after the digits at the front none follows
pub stops_behind : (text : List ℕ) → StartsNoNumber (drop (prefix_len is_ascii_digit text) text)
stops_behind [] = tt
stops_behind (c ∷ cs) = elim (cases_Bool (is_ascii_digit c)) [
  | inl digit ↦ subst (λ n. StartsNoNumber (drop n (c ∷ cs))) (sym (counted c cs digit)) (stops_behind cs)
  | inr other ↦ rw other other
]

pub small_digits : (n : ℕ) → n < 2 ^ 32 → all_ascii_digits (decimal n) ≡ true
small_digits n h = decimal_digits n (omega (arith, h))

-- where digits that are no number's stand at the front, no number does
pub no_number_front : (text ds rest : List ℕ) → ds ++ rest ≡ text → all_ascii_digits ds ≡ true → StartsNoNumber rest → ((n : ℕ) → n < 2 ^ 32 → ds ≢ decimal n) → HasNoNumber text
no_number_front text ds rest whole digits stops none n r small after e =
    none n small (front_unique ds (decimal n) rest r digits (small_digits n small) stops after (whole ∙ e)).0

-- a number and what follows it can be cut in one way
pub number_unique : (n m : ℕ) (r s : List ℕ) → n < 2 ^ 32 → m < 2 ^ 32 → StartsNoNumber r → StartsNoNumber s → decimal n ++ r ≡ decimal m ++ s → (n ≡ m) × (r ≡ s)
number_unique n m r s small small' stop stop' e =
    let both : ◌≡◌ {A = List ℕ} (decimal n) (decimal m) × (r ≡ s) =
    front_unique (decimal n) (decimal m) r s (small_digits n small) (small_digits m small') stop stop' e in
    (decimal_injective n m (omega arith) (omega arith) both.0, both.1)

pub member_whole : (m : ℕ × ℕ) (rest : List ℕ) → member_text m ++ rest ≡ decimal m.0 ++ (58 ∷ (decimal m.1 ++ rest))
member_whole m rest = append_assoc (decimal m.0) (58 ∷ decimal m.1) rest

-- after the step of a member stands its colon and its index
pub after_step : (text : List ℕ) (n : ℕ) (after : List ℕ) (m : ℕ × ℕ) (rest : List ℕ) → m.0 < 2 ^ 32 → IsNumberFront text n after → text ≡ member_text m ++ rest → after ≡ 58 ∷ (decimal m.1 ++ rest)
after_step text n after m rest small' f e =
    (number_unique n m.0 after (58 ∷ (decimal m.1 ++ rest)) f.small small' f.stops refl (sym f.whole ∙ e ∙ member_whole m rest)).1

-- a member and what follows it can be cut in one way
pub member_unique : (m k : ℕ × ℕ) (r s : List ℕ) → m.0 < 2 ^ 32 → m.1 < 2 ^ 32 → k.0 < 2 ^ 32 → k.1 < 2 ^ 32 → StartsNoNumber r → StartsNoNumber s → member_text m ++ r ≡ member_text k ++ s → (m ≡ k) × (r ≡ s)
member_unique m k r s small0 small1 small2 small3 stop stop' e =
    let steps : (m.0 ≡ k.0) × ((58 ∷ (decimal m.1 ++ r)) ≡ (58 ∷ (decimal k.1 ++ s))) =
    number_unique m.0 k.0 (58 ∷ (decimal m.1 ++ r)) (58 ∷ (decimal k.1 ++ s)) small0 small2 refl refl
    (sym (member_whole m r) ∙ e ∙ member_whole k s) in
    let inner : decimal m.1 ++ r ≡ decimal k.1 ++ s = ap (drop 1) steps.1 in
    let indices : (m.1 ≡ k.1) × (r ≡ s) = number_unique m.1 k.1 r s small1 small3 stop stop' inner in
    (λ i. (steps.0 i, indices.0 i), indices.1)
