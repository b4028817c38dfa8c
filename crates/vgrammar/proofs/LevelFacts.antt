-- Levels of trees, and truth values in another order.
use Rattle.std.proofs.Common.{◌≡◌, ℕ, suc, ◌+◌, ◌<◌, ◌≤◌, Bool, true, false, ◌&&◌, max, nat_le, refl, ap, ◌∙◌, arith}
use Rattle.std.proofs.lemmas.Bool.Decides.{nat_tests}
use Rattle.basis.proofs.Bools.{and_left, and_right, and_both, same_truth, and_false}

pub one_up : (d n : ℕ) → nat_le (1 + d) (suc n) ≡ nat_le d n
one_up d n = same_truth (nat_le (1 + d) (suc n)) (nat_le d n) (down d n) (up d n)
  where
    down : (d n : ℕ) → nat_le (1 + d) (suc n) ≡ true → nat_le d n ≡ true
    down d n e = grind (arith, nat_tests)

    up : (d n : ℕ) → nat_le d n ≡ true → nat_le (1 + d) (suc n) ≡ true
    up d n e = grind (arith, nat_tests)

pub larger_two : (c d n : ℕ) → nat_le (max c d) n ≡ (nat_le c n && nat_le d n)
larger_two c d n =
    same_truth (nat_le (max c d) n) (nat_le c n && nat_le d n)
    (λ e. and_both (nat_le c n) (nat_le d n) (down_left c d n e) (down_right c d n e))
    (λ e. up c d n (and_left (nat_le c n) (nat_le d n) e) (and_right (nat_le c n) (nat_le d n) e))
  where
    down_left : (c d n : ℕ) → nat_le (max c d) n ≡ true → nat_le c n ≡ true
    down_left c d n e = grind (arith, nat_tests)

    down_right : (c d n : ℕ) → nat_le (max c d) n ≡ true → nat_le d n ≡ true
    down_right c d n e = grind (arith, nat_tests)

    up : (c d n : ℕ) → nat_le c n ≡ true → nat_le d n ≡ true → nat_le (max c d) n ≡ true
    up c d n e f = grind (arith, nat_tests)

pub two_up : (c d n : ℕ) → nat_le (1 + max c d) (suc n) ≡ (nat_le c n && nat_le d n)
two_up c d n = one_up (max c d) n ∙ larger_two c d n

pub none_within : (d : ℕ) → nat_le (1 + d) 0 ≡ true → ⊥
none_within d e = true_false (nat_le (1 + d) 0) e (none d)
  where
    none : (d : ℕ) → nat_le (1 + d) 0 ≡ false
    none d = grind (arith, nat_tests)

    true_false : (b : Bool) → b ≡ true → b ≡ false → ⊥
    true_false true e f = let no : true ≡ false = f in cc
    true_false false e f = let no : false ≡ true = e in cc

-- a depth of one at least asks for a level
pub some_level : (d n : ℕ) → 0 < d → nat_le d n ≡ true → nat_le 1 n ≡ true
some_level d n p e = grind (arith, nat_tests)

-- so many levels at most are so many more at most
pub within_more : (d n m : ℕ) → n ≤ m → nat_le d n ≡ true → nat_le d m ≡ true
within_more d n m e f = grind (arith, nat_tests)

pub and_true : (a : Bool) → (a && true) ≡ a
and_true true = refl
and_true false = refl

-- two that fit and are within the levels
pub pair_valid : (f g p q : Bool) → ((f && g) && (p && q)) ≡ ((f && p) && (g && q))
pair_valid true true p q = refl
pair_valid true false true q = refl
pair_valid true false false q = refl
pair_valid false g p q = refl

-- three
pub triple_valid : (f g h p q r : Bool) → (((f && g) && h) && (p && (q && r))) ≡ ((f && p) && ((g && q) && (h && r)))
triple_valid f g h p q r = pair_valid (f && g) h p (q && r) ∙ regroup f g h p q r
  where
    regroup : (f g h p q r : Bool) → (((f && g) && p) && (h && (q && r))) ≡ ((f && p) && ((g && q) && (h && r)))
    regroup false g h p q r = refl
    regroup true g h false q r = ap (λ b. b && (h && (q && r))) (and_false g)
    regroup true g h true q r = ap (λ b. b && (h && (q && r))) (and_true g) ∙ last g h q r
      where
        last : (g h q r : Bool) → (g && (h && (q && r))) ≡ ((g && q) && (h && r))
        last false h q r = refl
        last true true q r = refl
        last true false true r = refl
        last true false false r = refl
