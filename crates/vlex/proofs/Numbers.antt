-- Based numbers, plain numbers and sizes.
use Rattle.std.proofs.Common.{◌≡◌, ℕ, zero, suc, ◌+◌, ◌-◌, ◌<◌, ◌≤◌, true, false, ◌||◌, nat_eq, List, [], ◌∷◌, Option, None, Some, length, take, drop, get_or, refl, sym, ◌∙◌, ap, subst, arith}
use Rattle.std.specs.List.{prefix_len}
use Rattle.std.proofs.lemmas.List.{length-drop}
use Rattle.std.proofs.lemmas.List.Sums.{prefix_len-le-length}
use Rattle.vlex.specs.declared.bytes.Set.{Set}
use Rattle.vlex.specs.declared.bytes.Set.TheVariants.{Blanks}
use Rattle.vlex.specs.Bytes.{is_in}
use Rattle.vlex.specs.Forms.{is_based, is_base_and_digits, are_digits, digits_after, are_in, skip_blanks}
use Rattle.vlex.specs.Inner.{IsLongest, Finds, Never}
use Rattle.vlex.proofs.Runs.{run_longest, run_taken}

-- Digits of a base

pub digits_none : (base : ℕ) (ds : List ℕ) → digits_after base (get_or ds 0 0) ≡ None → Never (are_digits base) ds
digits_none base ds none zero = refl
digits_none base [] none (suc n) = refl
digits_none base (d ∷ ds) none (suc n) = ap (λ set. are_in set (take n ds)) none

pub digits_some : (base : ℕ) (bytes : List ℕ) (set : Set) (whole : ℕ) → 0 < length bytes → digits_after base (get_or bytes 0 0) ≡ Some set
    → whole ≡ 1 + prefix_len (is_in set) (drop 1 bytes) → IsLongest (are_digits base) bytes whole
digits_some base [] set whole short some sum = absurd (omega arith)
digits_some base (d ∷ ds) set whole short some sum =
    let run = run_longest (is_in set) ds in
    let same : whole ≡ suc (prefix_len (is_in set) ds) = omega (arith, sum) in
    subst (IsLongest (are_digits base) (d ∷ ds)) (sym same) (record {
      within = omega (arith, run.within);
      passes = ap (λ s. are_in s (take (prefix_len (is_in set) ds) ds)) some ∙ run.passes;
      longest = longer;
    })
  where
    longer : (n : ℕ) → suc (prefix_len (is_in set) ds) < n → n ≤ length (d ∷ ds) → are_digits base (take n (d ∷ ds)) ≡ false
    longer zero lt le = absurd (omega arith)
    longer (suc n) lt le = ap (λ s. are_in s (take n ds)) some ∙ (run_longest (is_in set) ds).longest n (omega arith) (omega arith)

-- The base, and blanks behind it

module _ (base : ℕ) (cs : List ℕ) where
  based_front : (n : ℕ) → is_base_and_digits (take (suc n) (base ∷ cs)) ≡ are_digits base (take (n - prefix_len (is_in Blanks) cs) (skip_blanks cs))
  based_front n = ap (are_digits base) (run_taken (is_in Blanks) cs n)

  behind_none : Never (are_digits base) (skip_blanks cs) → Never is_base_and_digits (base ∷ cs)
  behind_none never zero = refl
  behind_none never (suc n) = based_front n ∙ never (n - prefix_len (is_in Blanks) cs)

  behind_some : (len whole : ℕ) → whole ≡ 1 + prefix_len (is_in Blanks) cs + len → IsLongest (are_digits base) (skip_blanks cs) len → IsLongest is_base_and_digits (base ∷ cs) whole
  behind_some len whole sum l =
      let same : whole ≡ suc (prefix_len (is_in Blanks) cs + len) = omega (arith, sum) in
      subst (IsLongest is_base_and_digits (base ∷ cs)) (sym same) (record {
        within = omega (arith, l.within, length-drop (prefix_len (is_in Blanks) cs) cs, prefix_len-le-length (is_in Blanks) cs);
        passes = based_front (prefix_len (is_in Blanks) cs + len) ∙ ap (λ k. are_digits base (take k (skip_blanks cs))) less ∙ l.passes;
        longest = longer;
      })
    where
      less : prefix_len (is_in Blanks) cs + len - prefix_len (is_in Blanks) cs ≡ len
      less = omega arith

      longer : (n : ℕ) → suc (prefix_len (is_in Blanks) cs + len) < n → n ≤ length (base ∷ cs) → is_base_and_digits (take n (base ∷ cs)) ≡ false
      longer zero lt le = absurd (omega arith)
      longer (suc n) lt le =
          based_front n ∙ l.longest (n - prefix_len (is_in Blanks) cs) (omega arith) (omega (arith, length-drop (prefix_len (is_in Blanks) cs) cs))

pub base_none : (bytes : List ℕ) → 0 < length bytes → Never (are_digits (get_or bytes 0 0)) (skip_blanks (drop 1 bytes)) → Never is_base_and_digits bytes
base_none [] some never = absurd (omega arith)
base_none (base ∷ cs) some never = behind_none base cs never

pub base_some : (bytes : List ℕ) (len whole : ℕ) → 0 < length bytes → whole ≡ 1 + prefix_len (is_in Blanks) (drop 1 bytes) + len
    → IsLongest (are_digits (get_or bytes 0 0)) (skip_blanks (drop 1 bytes)) len → IsLongest is_base_and_digits bytes whole
base_some [] len whole some sum l = absurd (omega arith)
base_some (base ∷ cs) len whole some sum l = behind_some base cs len whole sum l

-- The sign

unsigned_front : (bytes : List ℕ) (n : ℕ) → (nat_eq (get_or bytes 0 0) 115 || nat_eq (get_or bytes 0 0) 83) ≡ false → is_based (take n bytes) ≡ is_base_and_digits (take n bytes)
unsigned_front bytes zero plain = refl
unsigned_front [] (suc n) plain = refl
unsigned_front (c ∷ cs) (suc n) plain = rw plain refl

pub based_unsigned : (bytes : List ℕ) (r : Option ℕ) → (nat_eq (get_or bytes 0 0) 115 || nat_eq (get_or bytes 0 0) 83) ≡ false → Finds is_base_and_digits bytes r → Finds is_based bytes r
based_unsigned bytes None plain never = λ n. unsigned_front bytes n plain ∙ never n
based_unsigned bytes (Some len) plain l = record {
  within = l.within;
  passes = unsigned_front bytes len plain ∙ l.passes;
  longest = λ n lt le. unsigned_front bytes n plain ∙ l.longest n lt le;
}

signed_front : (c : ℕ) (cs : List ℕ) (n : ℕ) → (nat_eq c 115 || nat_eq c 83) ≡ true → is_based (take (suc n) (c ∷ cs)) ≡ is_base_and_digits (take n cs)
signed_front c cs n signed = rw signed refl

pub based_signed_none : (bytes : List ℕ) → (nat_eq (get_or bytes 0 0) 115 || nat_eq (get_or bytes 0 0) 83) ≡ true → Never is_base_and_digits (drop 1 bytes) → Never is_based bytes
based_signed_none bytes signed never zero = refl
based_signed_none [] signed never (suc n) = refl
based_signed_none (c ∷ cs) signed never (suc n) = signed_front c cs n signed ∙ never n

pub based_signed_some : (bytes : List ℕ) (len whole : ℕ) → 0 < length bytes → (nat_eq (get_or bytes 0 0) 115 || nat_eq (get_or bytes 0 0) 83) ≡ true
    → whole ≡ 1 + len → IsLongest is_base_and_digits (drop 1 bytes) len → IsLongest is_based bytes whole
based_signed_some [] len whole some signed sum l = absurd (omega arith)
based_signed_some (c ∷ cs) len whole some signed sum l =
    let same : whole ≡ suc len = omega (arith, sum) in
    subst (IsLongest is_based (c ∷ cs)) (sym same) (record {
      within = omega (arith, l.within);
      passes = signed_front c cs len signed ∙ l.passes;
      longest = longer;
    })
  where
    longer : (n : ℕ) → suc len < n → n ≤ length (c ∷ cs) → is_based (take n (c ∷ cs)) ≡ false
    longer zero lt le = absurd (omega arith)
    longer (suc n) lt le = signed_front c cs n signed ∙ l.longest n (omega arith) (omega arith)
