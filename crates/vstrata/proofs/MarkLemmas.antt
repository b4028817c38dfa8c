-- Which future times the bits of a word mark, and where a time stands by them.
use Rattle.std.proofs.Common.{◌≡◌, ◌≢◌, ℕ, zero, suc, ◌+◌, ◌-◌, ◌/◌, ◌%◌, ◌^◌, ◌<◌, ◌≤◌, ◌==◌, List, [], ◌∷◌, length, take, drop, get_or, refl, sym, ap, subst, ◌∙◌, arith}
use Rattle.std.specs.Prelude.{count_ones, if◌then◌else◌}
use Rattle.std.specs.Int.{bit_at}
use Rattle.std.proofs.lemmas.Bool.{ne_eqb}
use Rattle.std.proofs.lemmas.Nat.{ones_cat, mod-pow-add, mod_below, zero_from_ones, ones_le_self, pow_pos, shr-shr}
use Rattle.std.proofs.lemmas.Nat.Bits.{bit_at-lt, bit_at_above}
use Rattle.vmodel.specs.Queue.{Later, empty_slot, later_at}
use Rattle.vmodel.proofs.ProcessLemmas.{less, equal, more, compared, same}
use Rattle.vmodel.specs.Inner.{place_of_time}
use Rattle.vstrata.specs.Marks.{mark_of, TimesFrom, AreMarks, IsRing}
use Rattle.vstrata.proofs.PlaceLemmas.{place_behind, place_first, later_behind, later_here, later_before}

-- ---- sums

add_up : (a b c x y z : ℕ) → a ≡ x → b ≡ y → c ≡ z → x ≡ y + z → a ≡ b + c
add_up a b c x y z p q r s = omega (arith, p, q, r, s)

suc_right : (a b c : ℕ) → a ≡ b + c → suc a ≡ suc b + c
suc_right a b c h = omega (arith, h)

suc_left : (a b c : ℕ) → a + b ≡ c → suc a + b ≡ suc c
suc_left a b c h = omega (arith, h)

nothing_before : (a : ℕ) → 0 + a ≡ a
nothing_before a = omega arith

turned : (a b : ℕ) → a + b ≡ b + a
turned a b = omega arith

-- ---- the mark of a time

mark_here : (t : ℕ) (e : ℕ × Later) (es : List (ℕ × Later)) → t ≡ e.0 → mark_of t (e ∷ es) ≡ 1
mark_here t e es is = rw (same t e.0 is)

mark_else : (t : ℕ) (e : ℕ × Later) (es : List (ℕ × Later)) → t ≢ e.0 → mark_of t (e ∷ es) ≡ mark_of t es
mark_else t e es differ = rw (ne_eqb t e.0 differ)

-- behind the same future time
mark_alike : (t : ℕ) (e : ℕ × Later) (es others : List (ℕ × Later)) → mark_of t es ≡ mark_of t others → mark_of t (e ∷ es) ≡ mark_of t (e ∷ others)
mark_alike t e es others h = ap (λ (m : ℕ). if t == e.0 then 1 else m) h

-- none is marked before the first
mark_before : (t low : ℕ) (es : List (ℕ × Later)) → TimesFrom low es → t < low → mark_of t es ≡ 0
mark_before t low [] rises lt = refl
mark_before t low (e ∷ es) rises lt =
    mark_else t e es (omega (arith, rises.0)) ∙ mark_before t (suc e.0) es rises.1 (omega (arith, rises.0))

-- ---- places

place_none : (t low : ℕ) (es : List (ℕ × Later)) → TimesFrom low es → t ≤ low → place_of_time t es ≡ 0
place_none t low [] rises le = refl
place_none t low (e ∷ es) rises le = place_first t e es (omega (arith, rises.0))

-- one more stands before the next time where this one is marked
place_next : (t low : ℕ) (es : List (ℕ × Later)) → TimesFrom low es → place_of_time (suc t) es ≡ place_of_time t es + mark_of t es
place_next t low [] rises = refl
place_next t low (e ∷ es) rises = elim (compared t e.0) [
  | less lt ↦
      add_up (place_of_time (suc t) (e ∷ es)) (place_of_time t (e ∷ es)) (mark_of t (e ∷ es)) 0 0 0
      (place_first (suc t) e es (omega arith))
      (place_first t e es (omega arith))
      (mark_else t e es (omega arith) ∙ mark_before t (suc e.0) es rises.1 (omega arith))
      refl
  | equal is ↦
      add_up (place_of_time (suc t) (e ∷ es)) (place_of_time t (e ∷ es)) (mark_of t (e ∷ es)) 1 0 1
      (place_behind (suc t) e es (omega arith) ∙ ap suc (place_none (suc t) (suc e.0) es rises.1 (omega arith)))
      (place_first t e es (omega arith))
      (mark_here t e es is)
      refl
  | more gt ↦
      add_up (place_of_time (suc t) (e ∷ es)) (place_of_time t (e ∷ es)) (mark_of t (e ∷ es)) (suc (place_of_time (suc t) es)) (suc (place_of_time t es)) (mark_of t es)
      (place_behind (suc t) e es (omega arith))
      (place_behind t e es gt)
      (mark_else t e es (omega arith))
      (suc_right (place_of_time (suc t) es) (place_of_time t es) (mark_of t es) (place_next t (suc e.0) es rises.1))
]

-- a later time stands behind all that stand before an earlier one
pub place_skip : (s t : ℕ) (es : List (ℕ × Later)) → s ≤ t → place_of_time s es + place_of_time t (drop (place_of_time s es) es) ≡ place_of_time t es
place_skip s t [] le = refl
place_skip s t (e ∷ es) le = elim (compared e.0 s) [
  | less lt ↦
      subst (λ (k : ℕ). k + place_of_time t (drop k (e ∷ es)) ≡ place_of_time t (e ∷ es)) (sym (place_behind s e es lt))
      (suc_left (place_of_time s es) (place_of_time t (drop (place_of_time s es) es)) (place_of_time t es) (place_skip s t es le)
      ∙ sym (place_behind t e es (omega arith)))
  | equal is ↦ subst (λ (k : ℕ). k + place_of_time t (drop k (e ∷ es)) ≡ place_of_time t (e ∷ es)) (sym (place_first s e es (omega arith))) (nothing_before (place_of_time t (e ∷ es)))
  | more gt ↦ subst (λ (k : ℕ). k + place_of_time t (drop k (e ∷ es)) ≡ place_of_time t (e ∷ es)) (sym (place_first s e es (omega arith))) (nothing_before (place_of_time t (e ∷ es)))
]

-- ---- counts of bits

ones_bit : (b : ℕ) → b < 2 → count_ones b ≡ b
ones_bit zero lt = omega (arith, ones_le_self 0)
ones_bit (suc zero) lt = one (count_ones 1) refl
  where
    one : (n : ℕ) → count_ones 1 ≡ n → count_ones 1 ≡ 1
    one zero e = absurd (omega (arith, zero_from_ones 1 e))
    one (suc n) e = omega (arith, e, ones_le_self 1)
ones_bit (suc (suc b)) lt = absurd (omega (arith, lt))

-- as many bits are set below one as future times stand before its time
pub ones_below : (time near : ℕ) (es : List (ℕ × Later)) → TimesFrom (suc time) es → AreMarks near time es → (j : ℕ) → j ≤ 64 →
    count_ones (near % 2 ^ j) ≡ place_of_time (time + j) es
ones_below time near es rises marks zero le =
    let none : near % 2 ^ 0 ≡ 0 = omega arith in
    ap count_ones none ∙ ones_bit 0 (omega arith) ∙ sym (place_none (time + 0) (suc time) es rises (omega arith))
ones_below time near es rises marks (suc j) le =
    let bit : count_ones (near / 2 ^ j % 2) ≡ mark_of (time + j) es = ones_bit (near / 2 ^ j % 2) (bit_at-lt near j) ∙ marks j (omega (arith, le)) in
    let rest : count_ones (near % 2 ^ j) ≡ place_of_time (time + j) es = ones_below time near es rises marks j (omega (arith, le)) in
    let one : suc j ≡ 1 + j = omega arith in
    let next : suc (time + j) ≡ time + suc j = omega arith in
    ap (λ (i : ℕ). count_ones (near % 2 ^ i)) one
    ∙ ap count_ones (mod-pow-add near 1 j)
    ∙ ones_cat j (near / 2 ^ j % 2) (near % 2 ^ j) (mod_below near (2 ^ j) (pow_pos j))
    ∙ (λ i. bit i + rest i)
    ∙ turned (mark_of (time + j) es) (place_of_time (time + j) es)
    ∙ sym (place_next (time + j) (suc time) es rises)
    ∙ ap (λ (t : ℕ). place_of_time t es) next

-- and as many in the word as near future times stand
pub ones_near : (time near : ℕ) (es : List (ℕ × Later)) → TimesFrom (suc time) es → AreMarks near time es → near < 2 ^ 64 →
    count_ones near ≡ place_of_time (time + 64) es
ones_near time near es rises marks word =
    let whole : near ≡ near % 2 ^ 64 = omega (arith, word) in
    ap count_ones whole ∙ ones_below time near es rises marks 64 (omega arith)

-- ---- one more future time

module _ (t : ℕ) (put : Later → Later) where
  mark_put : (es : List (ℕ × Later)) → mark_of t (later_at t put es) ≡ 1
  mark_put [] = mark_here t (t, put empty_slot) [] refl
  mark_put (e ∷ es) = elim (compared t e.0) [
    | less lt ↦ ap (mark_of t) (later_before t put e es lt) ∙ mark_here t (t, put empty_slot) (e ∷ es) refl
    | equal is ↦ ap (mark_of t) (later_here t put e es is) ∙ mark_here t (e.0, put e.1) es is
    | more gt ↦ ap (mark_of t) (later_behind t put e es gt) ∙ mark_else t e (later_at t put es) (omega arith) ∙ mark_put es
  ]

  mark_others : (k : ℕ) (es : List (ℕ × Later)) → k ≢ t → mark_of k (later_at t put es) ≡ mark_of k es
  mark_others k [] differ = mark_else k (t, put empty_slot) [] differ
  mark_others k (e ∷ es) differ = elim (compared t e.0) [
    | less lt ↦ ap (mark_of k) (later_before t put e es lt) ∙ mark_else k (t, put empty_slot) (e ∷ es) differ
    | equal is ↦ ap (mark_of k) (later_here t put e es is)
    | more gt ↦ ap (mark_of k) (later_behind t put e es gt) ∙ mark_alike k e (later_at t put es) es (mark_others k es differ)
  ]

  rises_put : (low : ℕ) (es : List (ℕ × Later)) → TimesFrom low es → low ≤ t → TimesFrom low (later_at t put es)
  rises_put low [] rises le = (le, tt)
  rises_put low (e ∷ es) rises le = elim (compared t e.0) [
    | less lt ↦ subst (TimesFrom low) (sym (later_before t put e es lt)) (le, (omega arith, rises.1))
    | equal is ↦ subst (TimesFrom low) (sym (later_here t put e es is)) (rises.0, rises.1)
    | more gt ↦ subst (TimesFrom low) (sym (later_behind t put e es gt)) (rises.0, rises_put (suc e.0) es rises.1 (omega arith))
  ]

  pub ring_with : (time near word : ℕ) (es after : List (ℕ × Later)) → IsRing time near es → time < t → after ≡ later_at t put es →
      (t - time < 64 → bit_at word (t - time) ≡ 1) → ((k : ℕ) → k < 64 → k ≢ t - time → bit_at word k ≡ bit_at near k) →
      IsRing time word after
  ring_with time near word es after ring lt becomes this others = record {
    rises = subst (TimesFrom (suc time)) (sym becomes) (rises_put (suc time) es ring.rises (omega arith));
    marks = λ k few. elim (compared k (t - time)) [
      | less below ↦ other k few (omega arith)
      | equal is ↦
          let sum : time + k ≡ t = omega (arith, is) in
          let near_enough : t - time < 64 = omega (arith, is) in
          ap (bit_at word) is
          ∙ this near_enough
          ∙ sym (ap (mark_of (time + k)) becomes ∙ ap (λ (s : ℕ). mark_of s (later_at t put es)) sum ∙ mark_put es)
      | more above ↦ other k few (omega arith)
    ];
  }
    where
      other : (k : ℕ) → k < 64 → k ≢ t - time → bit_at word k ≡ mark_of (time + k) after
      other k few differ =
          let apart : time + k ≢ t = λ sum. differ (omega (arith, sum)) in
          others k few differ ∙ ring.marks k few ∙ sym (ap (mark_of (time + k)) becomes ∙ mark_others (time + k) es apart)

-- ---- future times up to a place

mark_taken : (es : List (ℕ × Later)) (p : ℕ) (e : ℕ × Later) → p < length es → e ≡ get_or es p e → mark_of e.0 (take (suc p) es) ≡ 1
mark_taken [] p e lt is = absurd (omega (arith, lt))
mark_taken (x ∷ xs) zero e lt is = mark_here e.0 x (take 0 xs) (ap (λ (y : ℕ × Later). y.0) is)
mark_taken (x ∷ xs) (suc p) e lt is = elim (compared e.0 x.0) [
  | less below ↦ mark_else e.0 x (take (suc p) xs) (omega arith) ∙ mark_taken xs p e (omega (arith, lt)) is
  | equal same_time ↦ mark_here e.0 x (take (suc p) xs) same_time
  | more above ↦ mark_else e.0 x (take (suc p) xs) (omega arith) ∙ mark_taken xs p e (omega (arith, lt)) is
]

mark_as_taken : (t : ℕ) (es : List (ℕ × Later)) (p : ℕ) (e : ℕ × Later) → p < length es → e ≡ get_or es p e → t ≢ e.0 →
    mark_of t (take (suc p) es) ≡ mark_of t (take p es)
mark_as_taken t [] p e lt is differ = absurd (omega (arith, lt))
mark_as_taken t (x ∷ xs) zero e lt is differ = mark_else t x [] (λ same_time. differ (same_time ∙ sym (ap (λ (y : ℕ × Later). y.0) is)))
mark_as_taken t (x ∷ xs) (suc p) e lt is differ = mark_alike t x (take (suc p) xs) (take p xs) (mark_as_taken t xs p e (omega (arith, lt)) is differ)

pub time_from : (low : ℕ) (es : List (ℕ × Later)) (p : ℕ) (e : ℕ × Later) → TimesFrom low es → p < length es → e ≡ get_or es p e → low ≤ e.0
time_from low [] p e rises lt is = absurd (omega (arith, lt))
time_from low (x ∷ xs) zero e rises lt is = omega (arith, rises.0, ap (λ (y : ℕ × Later). y.0) is)
time_from low (x ∷ xs) (suc p) e rises lt is = omega (arith, rises.0, time_from (suc x.0) xs p e rises.1 (omega (arith, lt)) is)

-- those from a place on don't mark what is before the time there
mark_seen : (t low : ℕ) (es : List (ℕ × Later)) (p : ℕ) (e : ℕ × Later) → TimesFrom low es → p < length es → e ≡ get_or es p e → t < e.0 →
    mark_of t (take p es) ≡ mark_of t es
mark_seen t low [] p e rises lt is before = absurd (omega (arith, lt))
mark_seen t low (x ∷ xs) zero e rises lt is before =
    let x_is : e.0 ≡ x.0 = ap (λ (y : ℕ × Later). y.0) is in
    sym (mark_else t x xs (omega (arith, x_is)) ∙ mark_before t (suc x.0) xs rises.1 (omega (arith, x_is)))
mark_seen t low (x ∷ xs) (suc p) e rises lt is before =
    mark_alike t x (take p xs) xs (mark_seen t (suc x.0) xs p e rises.1 (omega (arith, lt)) is before)

take_all : (n : ℕ) (es : List (ℕ × Later)) → length es ≤ n → take n es ≡ es
take_all zero [] le = refl
take_all (suc n) [] le = refl
take_all zero (e ∷ es) le = absurd (omega (arith, le))
take_all (suc n) (e ∷ es) le = ap (λ (xs : List (ℕ × Later)). e ∷ xs) (take_all n es (omega (arith, le)))

-- all were seen
pub marks_all : (word time n : ℕ) (es : List (ℕ × Later)) → AreMarks word time (take n es) → length es ≤ n → AreMarks word time es
marks_all word time n es marks le = subst (AreMarks word time) (take_all n es le) marks

module _ (time : ℕ) (es : List (ℕ × Later)) (p : ℕ) (e : ℕ × Later) (rises : TimesFrom (suc time) es) (lt : p < length es) (is : e ≡ get_or es p e) where
  -- the rest is far
  pub marks_seen : (word : ℕ) → AreMarks word time (take p es) → 64 ≤ e.0 - time → AreMarks word time es
  marks_seen word marks far = λ k few. marks k few ∙ mark_seen (time + k) (suc time) es p e rises lt is (omega arith)

  -- one more was seen
  marked_next : (word after : ℕ) → AreMarks word time (take p es) → (e.0 - time < 64 → bit_at after (e.0 - time) ≡ 1) →
      ((k : ℕ) → k < 64 → k ≢ e.0 - time → bit_at after k ≡ bit_at word k) → AreMarks after time (take (suc p) es)
  marked_next word after marks this others = λ k few. elim (compared k (e.0 - time)) [
    | less below ↦ other k few (omega arith)
    | equal is_near ↦
        let sum : time + k ≡ e.0 = omega (arith, is_near, time_from (suc time) es p e rises lt is) in
        let near_enough : e.0 - time < 64 = omega (arith, is_near) in
        ap (bit_at after) is_near ∙ this near_enough ∙ sym (ap (λ (s : ℕ). mark_of s (take (suc p) es)) sum ∙ mark_taken es p e lt is)
    | more above ↦ other k few (omega arith)
  ]
    where
      other : (k : ℕ) → k < 64 → k ≢ e.0 - time → bit_at after k ≡ mark_of (time + k) (take (suc p) es)
      other k few differ =
          let apart : time + k ≢ e.0 = λ sum. differ (omega (arith, sum)) in
          others k few differ ∙ marks k few ∙ sym (mark_as_taken (time + k) es p e lt is apart)

  pub marks_next : (word after : ℕ) → AreMarks word time (take p es) → (e.0 - time < 64 → bit_at after (e.0 - time) ≡ 1) →
      ((k : ℕ) → k < 64 → k ≢ e.0 - time → bit_at after k ≡ bit_at word k) → AreMarks after time (take (p + 1) es)
  marks_next word after marks this others =
      let next : suc p ≡ p + 1 = omega arith in
      subst (λ (n : ℕ). AreMarks after time (take n es)) next (marked_next word after marks this others)

-- ---- the time goes on

-- the future times before a time mark what is before it
mark_near : (t s low : ℕ) (es : List (ℕ × Later)) → TimesFrom low es → t < s → mark_of t (take (place_of_time s es) es) ≡ mark_of t es
mark_near t s low [] rises lt = refl
mark_near t s low (e ∷ es) rises lt = elim (compared e.0 s) [
  | less below ↦
      ap (λ (n : ℕ). mark_of t (take n (e ∷ es))) (place_behind s e es below)
      ∙ mark_alike t e (take (place_of_time s es) es) es (mark_near t s (suc e.0) es rises.1 lt)
  | equal is ↦
      ap (λ (n : ℕ). mark_of t (take n (e ∷ es))) (place_first s e es (omega arith))
      ∙ sym (mark_else t e es (omega arith) ∙ mark_before t (suc e.0) es rises.1 (omega arith))
  | more above ↦
      ap (λ (n : ℕ). mark_of t (take n (e ∷ es))) (place_first s e es (omega arith))
      ∙ sym (mark_else t e es (omega arith) ∙ mark_before t (suc e.0) es rises.1 (omega arith))
]

-- and nothing else
mark_far : (t s : ℕ) (es : List (ℕ × Later)) → s ≤ t → mark_of t (take (place_of_time s es) es) ≡ 0
mark_far t s [] le = refl
mark_far t s (e ∷ es) le = elim (compared e.0 s) [
  | less below ↦
      ap (λ (n : ℕ). mark_of t (take n (e ∷ es))) (place_behind s e es below)
      ∙ mark_else t e (take (place_of_time s es) es) (omega arith)
      ∙ mark_far t s es le
  | equal is ↦ ap (λ (n : ℕ). mark_of t (take n (e ∷ es))) (place_first s e es (omega arith))
  | more above ↦ ap (λ (n : ℕ). mark_of t (take n (e ∷ es))) (place_first s e es (omega arith))
]

module _ (now near : ℕ) (e : ℕ × Later) (es : List (ℕ × Later)) (ring : IsRing now near (e ∷ es)) (word : near < 2 ^ 64) where
  -- as many were near as are marked, with the first
  pub near_behind : e.0 - now < 64 → count_ones near ≡ suc (place_of_time (now + 64) es)
  near_behind few =
      ones_near now near (e ∷ es) ring.rises ring.marks word
      ∙ place_behind (now + 64) e es (omega (arith, ring.rises.0))

  -- the bit of a time after the first
  shifted_bit : (k : ℕ) → k ≢ 0 → e.0 - now < 64 → bit_at (near / 2 ^ (e.0 - now)) k ≡ mark_of (e.0 + k) (take (place_of_time (now + 64) es) es)
  shifted_bit k later few = elim (compared (e.0 - now + k) 64) [
    | less below ↦
        let time : now + (e.0 - now + k) ≡ e.0 + k = omega (arith, ring.rises.0) in
        let apart : now + (e.0 - now + k) ≢ e.0 = λ same_time. later (omega (arith, same_time, time)) in
        ap (λ (n : ℕ). n % 2) (shr-shr near (e.0 - now) k)
        ∙ ring.marks (e.0 - now + k) below
        ∙ mark_else (now + (e.0 - now + k)) e es apart
        ∙ ap (λ (t : ℕ). mark_of t es) time
        ∙ sym (mark_near (e.0 + k) (now + 64) (suc e.0) es ring.rises.1 (omega (arith, ring.rises.0)))
    | equal is ↦ none (omega arith)
    | more above ↦ none (omega arith)
  ]
    where
      none : 64 ≤ e.0 - now + k → bit_at (near / 2 ^ (e.0 - now)) k ≡ mark_of (e.0 + k) (take (place_of_time (now + 64) es) es)
      none far =
          ap (λ (n : ℕ). n % 2) (shr-shr near (e.0 - now) k)
          ∙ bit_at_above near 64 (e.0 - now + k) word far
          ∙ sym (mark_far (e.0 + k) (now + 64) es (omega (arith, ring.rises.0)))

  -- what is kept marks the times that were near
  pub kept_marks : (kept : ℕ) → e.0 - now < 64 → bit_at kept 0 ≡ 0 →
      ((k : ℕ) → k < 64 → k ≢ 0 → bit_at kept k ≡ bit_at (near / 2 ^ (e.0 - now)) k) →
      AreMarks kept e.0 (take (place_of_time (now + 64) es) es)
  kept_marks kept few first others = λ k within. elim (compared k 0) [
    | less below ↦ absurd (omega (arith, below))
    | equal is ↦
        let same_time : e.0 + k < suc e.0 = omega (arith, is) in
        ap (bit_at kept) is
        ∙ first
        ∙ sym (mark_near (e.0 + k) (now + 64) (suc e.0) es ring.rises.1 (omega (arith, is, ring.rises.0))
        ∙ mark_before (e.0 + k) (suc e.0) es ring.rises.1 same_time)
    | more above ↦ others k within (omega (arith, above)) ∙ shifted_bit k (omega (arith, above)) few
  ]
