-- Cuts of a text at a byte, and fronts.
use Rattle.std.proofs.Common.{◌≡◌, ◌≢◌, ℕ, ◌+◌, ◌<◌, ◌==◌, zero, suc, not, true, List, [], ◌∷◌, ◌++◌, length, get_or, take, drop, arith, ap, refl, sym, subst, ◌∙◌, Option, None, Some, MatchOption}
use Rattle.std.proofs.lemmas.List.{append_cancel_left}
use Rattle.std.proofs.lemmas.Bool.Decides.{nat_tests}
use Rattle.basis.proofs.Bools.{and_left, and_right, and_both}
use Rattle.memchr.specs.Find.{IsFirstByte, is_byte}
use Rattle.report_text.specs.Inner.Fronts.{lacks, IsCut}

not_same : (b c : ℕ) → not (c == b) ≡ true → c ≢ b
not_same b c h e = grind (arith, nat_tests)

is_other : (b c : ℕ) → c ≢ b → not (c == b) ≡ true
is_other b c h = grind (arith, nat_tests)

-- a text is cut in one way
pub cut_unique : (b : ℕ) (l m r s : List ℕ) → lacks b l ≡ true → lacks b m ≡ true → l ++ b ∷ r ≡ m ++ b ∷ s → (l ≡ m) × (r ≡ s)
cut_unique b [] [] r s p q e = (refl, ap (drop 1) e)
cut_unique b [] (y ∷ ys) r s p q e = let head : y ≡ b = cc in absurd (not_same b y (and_left _ _ q) head)
cut_unique b (x ∷ xs) [] r s p q e = let head : x ≡ b = cc in absurd (not_same b x (and_left _ _ p) head)
cut_unique b (x ∷ xs) (y ∷ ys) r s p q e =
    let head : x ≡ y = cc in
    let tail : xs ++ b ∷ r ≡ ys ++ b ∷ s = cc in
    let rest : ◌≡◌ {A = List ℕ} xs ys × (r ≡ s) = cut_unique b xs ys r s (and_right _ _ p) (and_right _ _ q) tail in
    ((λ i. head i ∷ rest.0 i), rest.1)

first_cut : (b : ℕ) (text : List ℕ) (k : ℕ) → k < length text → ((j : ℕ) → j < k → ¬ ((get_or text j 0 == b) ≡ true)) → (get_or text k 0 == b) ≡ true → IsCut b text (take k text) (drop (suc k) text)
first_cut b [] k h none here = absurd (omega (arith, h))
first_cut b (x ∷ xs) zero h none here = let same : x ≡ b = grind (arith, nat_tests, here) in (refl, ap (λ y. y ∷ xs) same)
first_cut b (x ∷ xs) (suc k) h none here =
    let rest : IsCut b xs (take k xs) (drop (suc k) xs) = first_cut b xs k (omega (arith, h)) (λ j low. none (suc j) (omega (arith, low))) here in
    (and_both _ _ (is_other b x (λ e. none 0 (omega arith) (grind (arith, nat_tests, e)))) rest.0, ap (λ t. x ∷ t) rest.1)

byte_stands : (b : ℕ) (l r : List ℕ) → (length l < length (l ++ b ∷ r)) × (get_or (l ++ b ∷ r) (length l) 0 ≡ b)
byte_stands b [] r = (omega arith, refl)
byte_stands b (x ∷ l) r = let rest = byte_stands b l r in (omega (arith, rest.0), rest.1)

pub no_cut : (b : ℕ) (text l r : List ℕ) → IsFirstByte (is_byte b) text None → IsCut b text l r → ⊥
no_cut b text l r none c =
    let at = byte_stands b l r in
    none (length l) (omega arith) (rw c.1 at.0) (rw c.1 (grind (arith, nat_tests, at.1)))

pub cut_at : (b : ℕ) (text : List ℕ) (k : ℕ) → IsFirstByte (is_byte b) text (Some k) → IsCut b text (take k text) (drop (k + 1) text)
cut_at b text k h = let next : suc k ≡ k + 1 = omega arith in subst (λ n. IsCut b text (take k text) (drop n text)) next (first_cut b text k h.0.high (λ j low. h.0.before j (omega arith) low) h.1)

pub cut_same : (b : ℕ) (text l m r s : List ℕ) → IsCut b text l r → IsCut b text m s → (l ≡ m) × (r ≡ s)
cut_same b text l m r s c d = cut_unique b l m r s c.0 d.0 (sym c.1 ∙ d.1)

-- what follows given bytes is told by them
pub after_same : (text prefix r s : List ℕ) → text ≡ prefix ++ r → text ≡ prefix ++ s → r ≡ s
after_same text prefix r s e f = append_cancel_left prefix r s (sym e ∙ f)

pub match_each : {X : Type 0} (P : Type 0) (Q R : X → Type 0) (r : Option X) → (P → ⊥) → ((x : X) → Q x → R x) → MatchOption r P Q → MatchOption r ⊥ R
match_each P Q R None f g h = f h
match_each P Q R (Some x) f g h = g x h
