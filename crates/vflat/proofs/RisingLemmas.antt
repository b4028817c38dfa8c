-- Rising lists are one where they have the same members.
use Rattle.std.proofs.Common.{◌≡◌, inl, inr, ℕ, suc, ◌<◌, ◌≤◌, nat_lt, ◌==◌, Bool, true, false, ◌||◌, cond, List, [], ◌∷◌, refl, sym, ap, ◌∙◌, subst, arith}
use Rattle.std.proofs.lemmas.Bool.Decides.{nat_tests}
use Rattle.std.proofs.lemmas.Bool.{ne_eqb}
use Rattle.vmodel.specs.Queue.{with_process}
use Rattle.vmodel.specs.Kept.{RisesFrom}
use Rattle.basis.proofs.Bools.{or_first}
use Rattle.vmodel.proofs.PlaceLemmas.{alike}
use Rattle.vmodel.proofs.ProcessLemmas.{same as equal_numbers}

-- whether a number stands in a list
abbrev pub is_in : ℕ → List ℕ → Bool
is_in r [] = false
is_in r (q ∷ qs) = (r == q) || is_in r qs

-- where two tests change places
swapped : (a b c : Bool) → (a || (b || c)) ≡ (b || (a || c))
swapped true true c = refl
swapped true false c = refl
swapped false true c = refl
swapped false false c = refl

again : (a c : Bool) → (a || c) ≡ (a || (a || c))
again true c = refl
again false c = refl

in_with_by : (r p q : ℕ) (qs : List ℕ) (below same : Bool) → nat_lt p q ≡ below → (p == q) ≡ same → is_in r (with_process p qs) ≡ ((r == p) || is_in r qs) →
    is_in r (with_process p (q ∷ qs)) ≡ ((r == p) || is_in r (q ∷ qs))
in_with_by r p q qs true same lt eq rest = ap (λ b. is_in r (cond b (p ∷ q ∷ qs) (cond (p == q) (q ∷ qs) (q ∷ with_process p qs)))) lt
in_with_by r p q qs false true lt eq rest =
    let e : p ≡ q = grind (arith, nat_tests) in
    ap (λ b. is_in r (cond b (p ∷ q ∷ qs) (cond (p == q) (q ∷ qs) (q ∷ with_process p qs)))) lt
    ∙ ap (λ b. is_in r (cond b (q ∷ qs) (q ∷ with_process p qs))) eq
    ∙ again (r == q) (is_in r qs)
    ∙ ap (λ n. (r == n) || ((r == q) || is_in r qs)) (sym e)
in_with_by r p q qs false false lt eq rest =
    ap (λ b. is_in r (cond b (p ∷ q ∷ qs) (cond (p == q) (q ∷ qs) (q ∷ with_process p qs)))) lt
    ∙ ap (λ b. is_in r (cond b (q ∷ qs) (q ∷ with_process p qs))) eq
    ∙ ap (λ b. (r == q) || b) rest
    ∙ swapped (r == q) (r == p) (is_in r qs)

-- one more is in it
pub in_with : (r p : ℕ) (qs : List ℕ) → is_in r (with_process p qs) ≡ ((r == p) || is_in r qs)
in_with r p [] = refl
in_with r p (q ∷ qs) = in_with_by r p q qs (nat_lt p q) (p == q) refl refl (in_with r p qs)

rises_by : (p low q : ℕ) (qs : List ℕ) (below same : Bool) → nat_lt p q ≡ below → (p == q) ≡ same → low ≤ p → RisesFrom low (q ∷ qs) →
    (suc q ≤ p → RisesFrom (suc q) (with_process p qs)) → RisesFrom low (with_process p (q ∷ qs))
rises_by p low q qs true same lt eq le h rest =
    let less : p < q = grind (arith, nat_tests) in
    subst (λ b. RisesFrom low (cond b (p ∷ q ∷ qs) (cond (p == q) (q ∷ qs) (q ∷ with_process p qs)))) (sym lt) (le, (less, h.1))
rises_by p low q qs false true lt eq le h rest =
    subst (λ b. RisesFrom low (cond b (p ∷ q ∷ qs) (cond (p == q) (q ∷ qs) (q ∷ with_process p qs)))) (sym lt)
    (subst (λ b. RisesFrom low (cond b (q ∷ qs) (q ∷ with_process p qs))) (sym eq) h)
rises_by p low q qs false false lt eq le h rest =
    let more : suc q ≤ p = grind (arith, nat_tests) in
    subst (λ b. RisesFrom low (cond b (p ∷ q ∷ qs) (cond (p == q) (q ∷ qs) (q ∷ with_process p qs)))) (sym lt)
    (subst (λ b. RisesFrom low (cond b (q ∷ qs) (q ∷ with_process p qs))) (sym eq) (h.0, rest more))

pub rises_with : (p low : ℕ) (qs : List ℕ) → low ≤ p → RisesFrom low qs → RisesFrom low (with_process p qs)
rises_with p low [] le h = (le, tt)
rises_with p low (q ∷ qs) le h = rises_by p low q qs (nat_lt p q) (p == q) refl refl le h (λ more. rises_with p (suc q) qs more h.1)

-- what stands below a list isn't in it
below_not : (r low : ℕ) (qs : List ℕ) → r < low → RisesFrom low qs → is_in r qs ≡ false
below_not r low [] lt h = refl
below_not r low (q ∷ qs) lt h =
    let above : low ≤ q = h.0 in
    ap (λ b. b || is_in r qs) (ne_eqb r q (omega (arith, lt, above))) ∙ below_not r (suc q) qs (omega (arith, lt, above)) h.1

false_or : (b c : Bool) → (b || c) ≡ true → b ≡ false → c ≡ true
false_or true c h e = absurd cc
false_or false c h e = h

-- two lists from the same number on that both have their firsts have the same first
first_same : (p q : ℕ) (ps qs : List ℕ) → RisesFrom (suc p) ps → RisesFrom (suc q) qs → is_in p (q ∷ qs) ≡ true → is_in q (p ∷ ps) ≡ true → p ≡ q
first_same p q ps qs hp hq inq inp = elim (alike p q) [
  | inl e ↦ e
  | inr ne ↦
      let later : is_in p qs ≡ true = false_or (p == q) (is_in p qs) inq (ne_eqb p q ne) in
      let back : is_in q ps ≡ true = false_or (q == p) (is_in q ps) inp (ne_eqb q p (λ e. ne (sym e))) in
      absurd (by later back (nat_lt p q) refl)
]
  where
    by : is_in p qs ≡ true → is_in q ps ≡ true → (b : Bool) → nat_lt p q ≡ b → ⊥
    by later back true lt =
        let none : is_in p qs ≡ false = below_not p (suc q) qs (grind (arith, nat_tests)) hq in cc
    by later back false ge =
        let none : is_in q ps ≡ false = below_not q (suc p) ps (grind (arith, nat_tests)) hp in cc

-- and behind it the same members
rest_same : (r p : ℕ) (ps qs : List ℕ) → RisesFrom (suc p) ps → RisesFrom (suc p) qs → is_in r (p ∷ ps) ≡ is_in r (p ∷ qs) → is_in r ps ≡ is_in r qs
rest_same r p ps qs hp hq e = elim (alike r p) [
  | inl same ↦ below_not r (suc p) ps (omega (arith, same)) hp ∙ sym (below_not r (suc p) qs (omega (arith, same)) hq)
  | inr ne ↦ sym (ap (λ b. b || is_in r ps) (ne_eqb r p ne)) ∙ e ∙ ap (λ b. b || is_in r qs) (ne_eqb r p ne)
]

pub same_members : (low up : ℕ) (ps qs : List ℕ) → RisesFrom low ps → RisesFrom up qs → ((r : ℕ) → is_in r ps ≡ is_in r qs) → ps ≡ qs
same_members low up [] [] hp hq same = refl
same_members low up [] (q ∷ qs) hp hq same =
    let there : is_in q (q ∷ qs) ≡ true = or_first (q == q) (is_in q qs) (equal_numbers q q refl) in
    let none : false ≡ is_in q (q ∷ qs) = same q in absurd cc
same_members low up (p ∷ ps) [] hp hq same =
    let there : is_in p (p ∷ ps) ≡ true = or_first (p == p) (is_in p ps) (equal_numbers p p refl) in
    let none : is_in p (p ∷ ps) ≡ false = same p in absurd cc
same_members low up (p ∷ ps) (q ∷ qs) hp hq same =
    let one : p ≡ q = first_same p q ps qs hp.1 hq.1
    (sym (same p) ∙ or_first (p == p) (is_in p ps) (equal_numbers p p refl)) (same q ∙ or_first (q == q) (is_in q qs) (equal_numbers q q refl)) in
    let here : RisesFrom (suc p) qs = subst (λ n. RisesFrom (suc n) qs) (sym one) hq.1 in
    λ i. one i ∷ same_members (suc p) (suc p) ps qs hp.1 here
    (λ r. rest_same r p ps qs hp.1 here (same r ∙ ap (λ n. is_in r (n ∷ qs)) (sym one))) i
