-- Chains of visits, and the visit that is found by them.
use Rattle.std.proofs.Common.{◌≡◌, ℕ, zero, suc, ◌+◌, ◌*◌, ◌%◌, ◌==◌, ◌<◌, ◌≤◌, Bool, true, false, List, [], ◌∷◌, ◌++◌, length, Option, Some, None, slice_get, slice_set, option_map, inl, inr, refl, sym, ap, subst, ◌∙◌, arith}
use Rattle.std.proofs.lemmas.Bool.{cases_lt, eqb-true}
use Rattle.std.proofs.lemmas.Option.{same_Some, slice_get_within, slice_get_past}
use Rattle.basis.proofs.Bools.{and_left, and_right}
use Rattle.footprints.specs.declared.footprint.Footprint.{Footprint}
use Rattle.footprints.specs.declared.visit.Visit.{Visit}
use Rattle.footprints.specs.Chains.{chain_of, number_of, NoneIn, AreChains}
use Rattle.footprints.specs.Latest.{number_at}
use Rattle.footprints.specs.Inner.{is_same_as}
use Rattle.footprints.specs.Swaps.{footprint_in, found_or}
use Rattle.footprints.specs.Visits.{same_actor, same_visit}
use Rattle.footprints.proofs.NumberLemmas.{one_actor}
use Rattle.footprints.proofs.LatestLemmas.{set_there}

set_other : (list : List ℕ) (place n k : ℕ) → (k ≡ place → ⊥) → number_at (slice_set list place n) k ≡ number_at list k
set_other [] place n k other = refl
set_other (x ∷ list) zero n zero other = absurd (other refl)
set_other (x ∷ list) zero n (suc k) other = refl
set_other (x ∷ list) (suc place) n zero other = refl
set_other (x ∷ list) (suc place) n (suc k) other = set_other list place n k (λ e. other (ap suc e))

set_long : (list : List ℕ) (place n : ℕ) → length (slice_set list place n) ≡ length list
set_long [] place n = refl
set_long (x ∷ list) zero n = refl
set_long (x ∷ list) (suc place) n = ap suc (set_long list place n)

number_front : (list : List ℕ) (n k : ℕ) → k < length list → number_at (list ++ n ∷ []) k ≡ number_at list k
number_front [] n k lt = absurd (omega (arith, lt))
number_front (x ∷ list) n zero lt = refl
number_front (x ∷ list) n (suc k) lt = number_front list n k (omega (arith, lt))

number_last : (list : List ℕ) (n k : ℕ) → k ≡ length list → number_at (list ++ n ∷ []) k ≡ n
number_last [] n zero e = refl
number_last [] n (suc k) e = absurd (omega (arith, e))
number_last (x ∷ list) n zero e = absurd (omega (arith, e))
number_last (x ∷ list) n (suc k) e = number_last list n k (omega (arith, e))

one_longer : (list : List ℕ) (n : ℕ) → length (list ++ n ∷ []) ≡ length list + 1
one_longer [] n = refl
one_longer (x ∷ list) n = omega (arith, one_longer list n)

-- the same visit stands in the same chain
pub one_chain : (v w : Visit) (count : ℕ) → same_visit v w ≡ true → chain_of v count ≡ chain_of w count
one_chain v w count same =
    let actors : v.actor ≡ w.actor = one_actor v.actor w.actor (and_left (same_actor v.actor w.actor) (v.number == w.number) same) in
    let numbers : v.number ≡ w.number = eqb-true v.number w.number (and_right (same_actor v.actor w.actor) (v.number == w.number) same) in
    λ i. (number_of (actors i) + numbers i * 2654435761) % count

-- one visit more
module _ (visits : List Visit) (n : ℕ) (v : Visit) (at : slice_get visits n ≡ Some v) (last before : List ℕ) (chains : AreChains visits n last before)
    (c : ℕ) (is : c ≡ chain_of v (length last)) (within : c < length last) where
  behind_on : (d : ℕ) → d < length last → NoneIn visits (length last) d (number_at (slice_set last c (n + 1)) d) (n + 1)
  behind_on d lt j w from to at_j in_chain =
      elim (cases_lt d c) [
        | inl below ↦ other (λ e. omega (arith, e, below))
        | inr ge ↦ elim (cases_lt c d) [
          | inl above ↦ other (λ e. omega (arith, e, above))
          | inr le ↦ (
              let here : d ≡ c = omega (arith, ge, le) in
              let set : number_at (slice_set last c (n + 1)) d ≡ n + 1 = ap (number_at (slice_set last c (n + 1))) here ∙ set_there last c (n + 1) within in
              omega (arith, set, from, to))
        ]
      ]
    where
      other : (d ≡ c → ⊥) → ⊥
      other differs = elim (cases_lt j n) [
        | inl lt_n ↦ (
            let same : number_at (slice_set last c (n + 1)) d ≡ number_at last d = set_other last c (n + 1) d differs in
            chains.none_behind d lt j w (omega (arith, same, from)) lt_n at_j in_chain)
        | inr ge_n ↦ (
            let here : j ≡ n = omega (arith, ge_n, to) in
            let same : w ≡ v = same_Some w v (sym at_j ∙ ap (slice_get visits) here ∙ at) in
            differs (sym in_chain ∙ ap (λ (u : Visit). chain_of u (length last)) same ∙ sym is))
      ]

  between_on : (k : ℕ) (w : Visit) → k < n + 1 → slice_get visits k ≡ Some w →
      NoneIn visits (length last) (chain_of w (length last)) (number_at (before ++ number_at last c ∷ []) k) k
  between_on k w lt at_k j u from to at_j in_chain =
      elim (cases_lt k n) [
        | inl below ↦ (
            let same : number_at (before ++ number_at last c ∷ []) k ≡ number_at before k = number_front before (number_at last c) k (omega (arith, below, chains.long)) in
            chains.none_between k w below at_k j u (omega (arith, same, from)) to at_j in_chain)
        | inr ge ↦ (
            let here : k ≡ n = omega (arith, ge, lt) in
            let same : number_at (before ++ number_at last c ∷ []) k ≡ number_at last c = number_last before (number_at last c) k (here ∙ sym chains.long) in
            let visit : w ≡ v = same_Some w v (sym at_k ∙ ap (slice_get visits) here ∙ at) in
            chains.none_behind c within j u (omega (arith, same, from)) (omega (arith, to, here)) at_j
            (in_chain ∙ ap (λ (x : Visit). chain_of x (length last)) visit ∙ sym is))
      ]

  on : AreChains visits (n + 1) (slice_set last c (n + 1)) (before ++ number_at last c ∷ [])
  on = record {
    some = subst (λ (m : ℕ). 0 < m) (sym (set_long last c (n + 1))) chains.some;
    long = one_longer before (number_at last c) ∙ ap (λ (m : ℕ). m + 1) chains.long;
    none_behind = subst (λ (m : ℕ). (d : ℕ) → d < m → NoneIn visits m d (number_at (slice_set last c (n + 1)) d) (n + 1)) (sym (set_long last c (n + 1))) behind_on;
    none_between = subst (λ (m : ℕ). (k : ℕ) (w : Visit) → k < n + 1 → slice_get visits k ≡ Some w →
        NoneIn visits m (chain_of w m) (number_at (before ++ number_at last c ∷ []) k) k) (sym (set_long last c (n + 1))) between_on;
  }

  pub chains_on : (new_last new_before : List ℕ) → new_last ≡ slice_set last c (n + 1) → new_before ≡ before ++ number_at last c ∷ [] →
      AreChains visits (n + 1) new_last new_before
  chains_on new_last new_before e d = subst (λ (list : List ℕ). AreChains visits (n + 1) list new_before) (sym e)
      (subst (λ (list : List ℕ). AreChains visits (n + 1) (slice_set last c (n + 1)) list) (sym d) on)

pub no_chains : (visits : List Visit) (last : List ℕ) (m : ℕ) → length last ≡ m → 1 ≤ m → AreChains visits 0 last []
no_chains visits last m e some = record {
  some = omega (arith, e, some);
  long = refl;
  none_behind = λ c lt j v from to at_j in_chain. omega (arith, to);
  none_between = λ k v lt at_k. absurd (omega (arith, lt));
}

-- ---- what is found

pub found_nowhere : (v : Visit) (visits : List Visit) → ((j : ℕ) (w : Visit) → slice_get visits j ≡ Some w → same_visit v w ≡ false) → footprint_in v visits ≡ None
found_nowhere v [] none = refl
found_nowhere v (w ∷ visits) none =
    ap (λ (found : Option Footprint). found_or found (same_visit v w) w.footprint) (found_nowhere v visits (λ j u e. none (suc j) u e))
    ∙ ap (λ (test : Bool). found_or None test w.footprint) (none 0 w refl)

pub found_there : (v : Visit) (visits : List Visit) (place : ℕ) (w : Visit) → slice_get visits place ≡ Some w → same_visit v w ≡ true →
    ((j : ℕ) (u : Visit) → place < j → slice_get visits j ≡ Some u → same_visit v u ≡ false) → footprint_in v visits ≡ Some w.footprint
found_there v [] place w at same none = absurd cc
found_there v (u ∷ visits) zero w at same none =
    ap (λ (found : Option Footprint). found_or found (same_visit v u) u.footprint) (found_nowhere v visits (λ j x e. none (suc j) x (omega arith) e))
    ∙ ap (λ (x : Visit). found_or None (same_visit v x) x.footprint) (same_Some u w at)
    ∙ ap (λ (test : Bool). found_or None test w.footprint) same
found_there v (u ∷ visits) (suc place) w at same none =
    ap (λ (found : Option Footprint). found_or found (same_visit v u) u.footprint) (found_there v visits place w at same (λ j x lt e. none (suc j) x (omega (arith, lt)) e))

-- ---- the search in a chain

false_of : (b : Bool) → (b ≡ true → ⊥) → b ≡ false
false_of true never = absurd (never refl)
false_of false never = refl

pub none_first : (v : Visit) (visits : List Visit) (last before : List ℕ) (chain first : ℕ) → AreChains visits (length visits) last before →
    chain ≡ chain_of v (length last) → chain < length last → first ≡ number_at last chain → (j : ℕ) (w : Visit) → first ≤ j → slice_get visits j ≡ Some w →
    same_visit v w ≡ false
none_first v visits last before chain first chains is within at j w le at_j =
    false_of (same_visit v w) (λ same.
    chains.none_behind chain within j w (omega (arith, le, at)) (slice_get_within visits j w at_j) at_j (sym (one_chain v w (length last) same) ∙ sym is))

pub none_before : (v : Visit) (visits : List Visit) (count chain from to left : ℕ) → chain ≡ chain_of v count → NoneIn visits count chain from to →
    is_same_as v (slice_get visits to) ≡ false → left ≡ to + 1 → ((j : ℕ) (w : Visit) → left ≤ j → slice_get visits j ≡ Some w → same_visit v w ≡ false) →
    (j : ℕ) (w : Visit) → from ≤ j → slice_get visits j ≡ Some w → same_visit v w ≡ false
none_before v visits count chain from to left is none here next later j w le at_j =
    elim (cases_lt j to) [
      | inl lt ↦ false_of (same_visit v w) (λ same. none j w le lt at_j (sym (one_chain v w count same) ∙ sym is))
      | inr ge ↦ elim (cases_lt to j) [
        | inl lt ↦ later j w (omega (arith, lt, next)) at_j
        | inr le_to ↦ (
            let same_place : j ≡ to = omega (arith, ge, le_to) in
            sym (ap (is_same_as v) (ap (slice_get visits) (sym same_place) ∙ at_j)) ∙ here)
      ]
    ]

there_is : (v : Visit) (found : Option Visit) → is_same_as v found ≡ true → (w : Visit) × (found ≡ Some w) × (same_visit v w ≡ true)
there_is v None e = absurd cc
there_is v (Some w) e = (w, refl, e)

pub found_is : (v : Visit) (visits : List Visit) (place left : ℕ) → is_same_as v (slice_get visits place) ≡ true → left ≡ place + 1 →
    ((j : ℕ) (w : Visit) → left ≤ j → slice_get visits j ≡ Some w → same_visit v w ≡ false) →
    footprint_in v visits ≡ option_map (λ (found : Visit). found.footprint) (slice_get visits place)
found_is v visits place left same next later =
    let (w, at, is) = there_is v (slice_get visits place) same in
    found_there v visits place w at is (λ j u lt e. later j u (omega (arith, lt, next)) e)
    ∙ sym (ap (λ (found : Option Visit). option_map (λ (one : Visit). one.footprint) found) at)

pub found_not : (v : Visit) (visits : List Visit) (place left : ℕ) → left ≤ 0 → place ≡ length visits →
    ((j : ℕ) (w : Visit) → left ≤ j → slice_get visits j ≡ Some w → same_visit v w ≡ false) →
    footprint_in v visits ≡ option_map (λ (found : Visit). found.footprint) (slice_get visits place)
found_not v visits place left le at later =
    found_nowhere v visits (λ j w e. later j w (omega (arith, le)) e)
    ∙ sym (ap (λ (found : Option Visit). option_map (λ (one : Visit). one.footprint) found) (slice_get_past visits place (omega (arith, at))))

pub there_within : (v : Visit) (visits : List Visit) (place : ℕ) → is_same_as v (slice_get visits place) ≡ true → place ≤ length visits
there_within v visits place same =
    let (w, at, is) = there_is v (slice_get visits place) same in
    omega (arith, slice_get_within visits place w at)
