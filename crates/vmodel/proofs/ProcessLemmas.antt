-- Sets of processes as rising lists.
use Rattle.std.proofs.Common.{◌≡◌, ◌≢◌, ℕ, zero, suc, ◌+◌, ◌<◌, ◌≤◌, Bool, true, false, ◌&&◌, ◌==◌, nat_le, nat_lt, List, [], ◌∷◌, length, drop, get_or, Some, refl, ap, ◌∙◌, arith}
use Rattle.std.specs.Prelude.{slice_get}
use Rattle.std.proofs.lemmas.Bool.Decides.{nat_tests}
use Rattle.std.proofs.lemmas.Bool.{ltb-false, ne_eqb}
use Rattle.vmodel.specs.ProcessSets.{rises}
use Rattle.vmodel.specs.Queue.{with_process, without_process}

-- what a rising list says of its first number, and of the others
pub rises_parts : (low p : ℕ) (ps : List ℕ) → rises low (p ∷ ps) ≡ true → (low ≤ p) × (p < 256) × (rises (suc p) ps ≡ true)
rises_parts low p ps h = parts (nat_le low p) (nat_lt p 256) (rises (suc p) ps) refl refl h
  where
    parts : (a b c : Bool) → nat_le low p ≡ a → nat_lt p 256 ≡ b → (a && b && c) ≡ true → (low ≤ p) × (p < 256) × (c ≡ true)
    parts true true c ea eb e = (grind (arith, nat_tests), grind (arith, nat_tests), e)
    parts true false c ea eb e = cc
    parts false b c ea eb e = cc

pub rises_from : (low p : ℕ) (ps : List ℕ) → low ≤ p → p < 256 → rises (suc p) ps ≡ true → rises low (p ∷ ps) ≡ true
rises_from low p ps above below h = whole (nat_le low p) (nat_lt p 256) (grind (arith, nat_tests)) (grind (arith, nat_tests)) h
  where
    whole : (a b : Bool) {c : Bool} → a ≡ true → b ≡ true → c ≡ true → (a && b && c) ≡ true
    whole true true ea eb ec = ec
    whole true false ea eb ec = cc
    whole false b ea eb ec = cc

-- a rising list has no more members than there are numbers from its start on
pub length-rises : (low : ℕ) (ps : List ℕ) → rises low ps ≡ true → low ≤ 256 → length ps + low ≤ 256
length-rises low [] h few = omega arith
length-rises low (p ∷ ps) h few =
    let parts = rises_parts low p ps h in
    let rest : length ps + suc p ≤ 256 = length-rises (suc p) ps parts.2 (omega (arith, parts.1)) in
    omega (arith, parts.0, parts.1, rest)

pub get_or-rises : (low : ℕ) (ps : List ℕ) (i d : ℕ) → rises low ps ≡ true → i < length ps → get_or ps i d < 256
get_or-rises low [] i d h lt = absurd (omega arith)
get_or-rises low (p ∷ ps) zero d h lt = (rises_parts low p ps h).1
get_or-rises low (p ∷ ps) (suc i) d h lt = get_or-rises (suc p) ps i d (rises_parts low p ps h).2 (omega arith)

-- a list that rises from a number rises from any below it
pub rises_lower : (low lower : ℕ) (ps : List ℕ) → rises low ps ≡ true → lower ≤ low → rises lower ps ≡ true
rises_lower low lower [] h le = refl
rises_lower low lower (p ∷ ps) h le =
    let parts = rises_parts low p ps h in
    rises_from lower p ps (omega (arith, parts.0)) parts.1 parts.2

-- the tests at one member
pub lt_true : (a b : ℕ) → nat_lt a b ≡ true → a < b
lt_true a b e = grind (arith, nat_tests)

pub is_lt : (a b : ℕ) → a < b → nat_lt a b ≡ true
is_lt a b h = grind (arith, nat_tests)

pub not_lt : (a b : ℕ) → b ≤ a → nat_lt a b ≡ false
not_lt a b h = grind (arith, nat_tests)

pub same : (a b : ℕ) → a ≡ b → (a == b) ≡ true
same a b h = grind (arith, nat_tests)

pub same_back : (a b : ℕ) → (a == b) ≡ true → a ≡ b
same_back a b h = grind (arith, nat_tests)

-- the three cases of `with_process`
pub with_less : (p q : ℕ) (qs : List ℕ) → p < q → with_process p (q ∷ qs) ≡ p ∷ q ∷ qs
with_less p q qs lt = rw (is_lt p q lt)

pub with_same : (p q : ℕ) (qs : List ℕ) → p ≡ q → with_process p (q ∷ qs) ≡ q ∷ qs
with_same p q qs e = rw (not_lt p q (omega arith), same p q e)

pub with_more : (p q : ℕ) (qs : List ℕ) → q < p → with_process p (q ∷ qs) ≡ q ∷ with_process p qs
with_more p q qs lt = rw (not_lt p q (omega arith), ne_eqb p q (omega arith))

pub without_other : (p q : ℕ) (qs : List ℕ) → p ≢ q → without_process p (q ∷ qs) ≡ q ∷ without_process p qs
without_other p q qs ne = rw (ne_eqb p q ne)

pub without_same : (p q : ℕ) (qs : List ℕ) → p ≡ q → without_process p (q ∷ qs) ≡ without_process p qs
without_same p q qs e = rw (same p q e)

-- what stands above a number isn't taken out with it
without_above : (p low : ℕ) (qs : List ℕ) → rises low qs ≡ true → p < low → without_process p qs ≡ qs
without_above p low [] h lt = refl
without_above p low (q ∷ qs) h lt =
    let parts = rises_parts low q qs h in
    without_other p q qs (omega (arith, parts.0)) ∙ ap (λ rest. q ∷ rest) (without_above p (suc q) qs parts.2 (omega (arith, parts.0)))

-- two numbers are in order, or the same, or the other way round
pub data Compared (p q : ℕ) : Type 0 where
  less : p < q → Compared p q
  equal : p ≡ q → Compared p q
  more : q < p → Compared p q

pub compared : (p q : ℕ) → Compared p q
compared p q = by_tests (nat_lt p q) (nat_lt q p) refl refl
  where
    by_tests : (a b : Bool) → nat_lt p q ≡ a → nat_lt q p ≡ b → Compared p q
    by_tests true b ea eb = less (lt_true p q ea)
    by_tests false true ea eb = more (lt_true q p eb)
    by_tests false false ea eb = equal (omega (arith, ltb-false p q ea, ltb-false q p eb))

pub rises-without : (p low : ℕ) (qs : List ℕ) → rises low qs ≡ true → rises low (without_process p qs) ≡ true
rises-without p low [] h = refl
rises-without p low (q ∷ qs) h =
    let parts : (low ≤ q) × (q < 256) × (rises (suc q) qs ≡ true) = rises_parts low q qs h in
    let kept : p ≢ q → rises low (without_process p (q ∷ qs)) ≡ true = λ ne. ap (rises low) (without_other p q qs ne) ∙ rises_from low q (without_process p qs) parts.0 parts.1 (rises-without p (suc q) qs parts.2) in
    elim (compared p q) [
      | less lt ↦ kept (omega arith)
      | equal e ↦ ap (rises low) (without_same p q qs e) ∙ rises_lower (suc q) low (without_process p qs) (rises-without p (suc q) qs parts.2) (omega (arith, parts.0))
      | more gt ↦ kept (omega arith)
    ]

pub rises-with : (p low : ℕ) (qs : List ℕ) → rises low qs ≡ true → low ≤ p → p < 256 → rises low (with_process p qs) ≡ true
rises-with p low [] h le lt = rises_from low p [] le lt refl
rises-with p low (q ∷ qs) h le lt =
    let parts : (low ≤ q) × (q < 256) × (rises (suc q) qs ≡ true) = rises_parts low q qs h in
    elim (compared p q) [
      | less below ↦ ap (rises low) (with_less p q qs below) ∙ rises_from low p (q ∷ qs) le lt (rises_from (suc p) q qs (omega arith) parts.1 parts.2)
      | equal e ↦ ap (rises low) (with_same p q qs e) ∙ h
      | more above ↦ ap (rises low) (with_more p q qs above)
          ∙ rises_from low q (with_process p qs) parts.0 parts.1 (rises-with p (suc q) qs parts.2 (omega arith) lt)
    ]

-- one that is no process stands in no set
pub without_far : (p low : ℕ) (qs : List ℕ) → rises low qs ≡ true → 256 ≤ p → without_process p qs ≡ qs
without_far p low [] h far = refl
without_far p low (q ∷ qs) h far =
    let parts = rises_parts low q qs h in
    without_other p q qs (omega (arith, parts.1, far)) ∙ ap (λ rest. q ∷ rest) (without_far p (suc q) qs parts.2 far)

-- the lowest of a set is its first
pub without_first : (low p : ℕ) (ps : List ℕ) → rises low ps ≡ true → slice_get ps 0 ≡ Some p → without_process p ps ≡ drop 1 ps
without_first low p [] h first = cc
without_first low p (q ∷ qs) h first =
    let same_one : p ≡ q = cc in
    without_same p q qs same_one ∙ without_above p (suc q) qs (rises_parts low q qs h).2 (omega (arith, same_one))
