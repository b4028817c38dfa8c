-- The end of a comment or of a string: what is found in a front of the bytes is what is found in all of them, if it
-- lies in the front. So only one front ends there.
use Rattle.std.proofs.Common.{◌≡◌, ℕ, zero, suc, ◌+◌, ◌<◌, ◌≤◌, Bool, true, false, cond, ◌&&◌, not, nat_eq, nat_le, List, [], ◌∷◌, Option, None, Some, length, take, refl, sym, ◌∙◌, ap, arith}
use Rattle.std.proofs.lemmas.Bool.{eqb-true, eq-eqb}
use Rattle.std.proofs.lemmas.Bool.Decides.{nat_tests}
use Rattle.std.proofs.lemmas.List.{length-take}
use Rattle.std.proofs.lemmas.Option.{same_Some}
use Rattle.vsrc.specs.Outside.{further, block_end, string_end}
use Rattle.vlex.specs.Forms.{is_whole}
use Rattle.vlex.specs.Inner.{Never}
use Rattle.vlex.proofs.Pieces.{IsOnly}

-- what is found, if it lies within so many bytes
abbrev pub up_to : ℕ → Option ℕ → Option ℕ
up_to n None = None
up_to n (Some len) = cond (nat_le len n) (Some len) None

further_up_to : (m n k : ℕ) (o : Option ℕ) → n ≡ m + k → up_to n (further m o) ≡ further m (up_to k o)
further_up_to m n k None sum = refl
further_up_to m n k (Some len) sum = ap (λ b. cond b (Some (m + len)) None) (lower m n k len sum) ∙ spread (nat_le len k)
  where
    lower : (m n k len : ℕ) → n ≡ m + k → nat_le (m + len) n ≡ nat_le len k
    lower m n k len sum = grind (arith, nat_tests)

    spread : (b : Bool) → cond b (Some (m + len)) None ≡ further m (cond b (Some len) None)
    spread true = refl
    spread false = refl

none_below : (m n : ℕ) (o : Option ℕ) → n < m → up_to n (further m o) ≡ None
none_below m n None less = refl
none_below m n (Some len) less = ap (λ b. cond b (Some (m + len)) None) (far m n len less)
  where
    far : (m n len : ℕ) → n < m → nat_le (m + len) n ≡ false
    far m n len less = grind (arith, nat_tests)

kept : (m n : ℕ) → m ≤ n → up_to n (Some m) ≡ Some m
kept m n within = ap (λ b. cond b (Some m) None) (near m n within)
  where
    near : (m n : ℕ) → m ≤ n → nat_le m n ≡ true
    near m n within = grind (arith, nat_tests)

pub stable_block : (bytes : List ℕ) (n : ℕ) → block_end (take n bytes) ≡ up_to n (block_end bytes)
stable_block [] zero = refl
stable_block [] (suc n) = refl
stable_block (c ∷ []) zero = refl
stable_block (c ∷ []) (suc zero) = refl
stable_block (c ∷ []) (suc (suc n)) = refl
stable_block (c ∷ d ∷ cs) zero = by (nat_eq c 42 && nat_eq d 47)
  where
    by : (b : Bool) → None ≡ up_to 0 (cond b (Some 2) (further 1 (block_end (d ∷ cs))))
    by true = refl
    by false = sym (none_below 1 0 (block_end (d ∷ cs)) (omega arith))
stable_block (c ∷ d ∷ cs) (suc zero) = by (nat_eq c 42 && nat_eq d 47) (stable_block (d ∷ cs) zero)
  where
    by : (b : Bool) → None ≡ up_to 0 (block_end (d ∷ cs)) → None ≡ up_to 1 (cond b (Some 2) (further 1 (block_end (d ∷ cs))))
    by true e = refl
    by false e = ap (further 1) e ∙ sym (further_up_to 1 1 0 (block_end (d ∷ cs)) (omega arith))
stable_block (c ∷ d ∷ cs) (suc (suc n)) = by (nat_eq c 42 && nat_eq d 47) (stable_block (d ∷ cs) (suc n))
  where
    by : (b : Bool) → block_end (d ∷ take n cs) ≡ up_to (suc n) (block_end (d ∷ cs)) →
        cond b (Some 2) (further 1 (block_end (d ∷ take n cs))) ≡ up_to (suc (suc n)) (cond b (Some 2) (further 1 (block_end (d ∷ cs))))
    by true e = sym (kept 2 (suc (suc n)) (omega arith))
    by false e = ap (further 1) e ∙ sym (further_up_to 1 (suc (suc n)) (suc n) (block_end (d ∷ cs)) (omega arith))

pub stable_string : (bytes : List ℕ) (n : ℕ) → string_end (take n bytes) ≡ up_to n (string_end bytes)
stable_string [] zero = refl
stable_string [] (suc n) = refl
stable_string (c ∷ []) zero = by (nat_eq c 34)
  where
    by : (q : Bool) → None ≡ up_to 0 (cond q (Some 1) None)
    by true = refl
    by false = refl
stable_string (c ∷ []) (suc n) = front n ∙ by (nat_eq c 34)
  where
    front : (n : ℕ) → string_end (take (suc n) (c ∷ [])) ≡ cond (nat_eq c 34) (Some 1) None
    front zero = refl
    front (suc n) = refl

    by : (q : Bool) → cond q (Some 1) None ≡ up_to (suc n) (cond q (Some 1) None)
    by true = sym (kept 1 (suc n) (omega arith))
    by false = refl
stable_string (c ∷ d ∷ cs) zero = by (nat_eq c 34) (nat_eq c 10) (nat_eq c 92 && not (nat_eq d 10))
  where
    by : (q f e : Bool) → None ≡ up_to 0 (cond q (Some 1) (cond f None (cond e (further 2 (string_end cs)) (further 1 (string_end (d ∷ cs))))))
    by true f e = refl
    by false true e = refl
    by false false true = sym (none_below 2 0 (string_end cs) (omega arith))
    by false false false = sym (none_below 1 0 (string_end (d ∷ cs)) (omega arith))
stable_string (c ∷ d ∷ cs) (suc zero) = by (nat_eq c 34) (nat_eq c 10) (nat_eq c 92 && not (nat_eq d 10)) (stable_string (d ∷ cs) zero)
  where
    by : (q f e : Bool) → None ≡ up_to 0 (string_end (d ∷ cs)) →
        cond q (Some 1) None ≡ up_to 1 (cond q (Some 1) (cond f None (cond e (further 2 (string_end cs)) (further 1 (string_end (d ∷ cs))))))
    by true f e h = refl
    by false true e h = refl
    by false false true h = sym (none_below 2 1 (string_end cs) (omega arith))
    by false false false h = ap (further 1) h ∙ sym (further_up_to 1 1 0 (string_end (d ∷ cs)) (omega arith))
stable_string (c ∷ d ∷ cs) (suc (suc n)) =
    by (nat_eq c 34) (nat_eq c 10) (nat_eq c 92 && not (nat_eq d 10)) (stable_string cs n) (stable_string (d ∷ cs) (suc n))
  where
    by : (q f e : Bool) → string_end (take n cs) ≡ up_to n (string_end cs) → string_end (d ∷ take n cs) ≡ up_to (suc n) (string_end (d ∷ cs)) →
        cond q (Some 1) (cond f None (cond e (further 2 (string_end (take n cs))) (further 1 (string_end (d ∷ take n cs)))))
        ≡ up_to (suc (suc n)) (cond q (Some 1) (cond f None (cond e (further 2 (string_end cs)) (further 1 (string_end (d ∷ cs))))))
    by true f e g h = sym (kept 1 (suc (suc n)) (omega arith))
    by false true e g h = refl
    by false false true g h = ap (further 2) g ∙ sym (further_up_to 2 (suc (suc n)) n (string_end cs) (omega arith))
    by false false false g h = ap (further 1) h ∙ sym (further_up_to 1 (suc (suc n)) (suc n) (string_end (d ∷ cs)) (omega arith))

module _ (find : List ℕ → Option ℕ) (stable : (bytes : List ℕ) (n : ℕ) → find (take n bytes) ≡ up_to n (find bytes)) where
  -- where no end is found, no front ends
  pub never_ends : (bytes : List ℕ) → find bytes ≡ None → Never (λ front. is_whole (find front) front) bytes
  never_ends bytes none n = ap (λ o. is_whole o (take n bytes)) (stable bytes n ∙ ap (up_to n) none)

  -- a front that ends shows where the end is
  pub ends_there : (bytes : List ℕ) (n : ℕ) → n ≤ length bytes → is_whole (find (take n bytes)) (take n bytes) ≡ true → find bytes ≡ Some n
  ends_there bytes n within h = by (find bytes) (sym (ap (λ o. is_whole o (take n bytes)) (stable bytes n)) ∙ h)
    where
      shown : (len : ℕ) (b : Bool) → is_whole (cond b (Some len) None) (take n bytes) ≡ true → Some len ≡ Some n
      shown len true e = ap Some (eqb-true len (length (take n bytes)) e ∙ length-take n bytes ∙ omega arith)
      shown len false e = let clash : false ≡ true = e in absurd cc

      by : (o : Option ℕ) → is_whole (up_to n o) (take n bytes) ≡ true → o ≡ Some n
      by None e = let clash : false ≡ true = e in absurd cc
      by (Some len) e = shown len (nat_le len n) e

  -- where one is found, the front up to it is the only one that ends
  pub ends_once : (bytes : List ℕ) (len : ℕ) → find bytes ≡ Some len → len ≤ length bytes → IsOnly (λ front. is_whole (find front) front) bytes len
  ends_once bytes len found within = record {
    within = within;
    passes = ap (λ o. is_whole o (take len bytes)) (stable bytes len ∙ ap (up_to len) found) ∙ shown (nat_le len len) (reached len);
    only = λ n le h. same_Some n len (sym (ends_there bytes n le h) ∙ found);
  } where
    reached : (n : ℕ) → nat_le n n ≡ true
    reached n = grind (arith, nat_tests)

    shown : (b : Bool) → b ≡ true → is_whole (cond b (Some len) None) (take len bytes) ≡ true
    shown true e = let len_is : len ≡ length (take len bytes) = omega (arith, length-take len bytes) in eq-eqb len (length (take len bytes)) len_is
    shown false e = let clash : false ≡ true = e in absurd cc
