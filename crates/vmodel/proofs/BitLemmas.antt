-- Sets of processes as bits.
use Rattle.std.proofs.Common.{◌≡◌, ◌≢◌, ℕ, zero, suc, ◌+◌, ◌-◌, ◌*◌, ◌%◌, ◌^◌, ◌<◌, ◌≤◌, Bool, true, false, ◌&&◌, ◌==◌, nat_lt, cond, List, [], ◌∷◌, length, drop, refl, sym, ap, subst, ◌∙◌, arith, bit_or, bit_and, Some, None}
use Rattle.std.specs.Prelude.{slice_get, nat_eq}
use Rattle.std.specs.Cmp.Lexicographic.{pointwise}
use Rattle.std.specs.Int.{bit_at, bit_not, trailing_zeros, w128}
use Rattle.std.proofs.lemmas.Bool.Decides.{nat_tests}
use Rattle.std.proofs.lemmas.Nat.Bits.{bit_at_set_same, bit_at_set_other, bit_at_clear_same, bit_at_clear_other, bit_at-zero, bit_at-lt, bit_at-trailing_zeros, same_from_bits_below}
use Rattle.std.proofs.lemmas.Bool.{ltb-false}
use Rattle.vmodel.specs.ProcessSets.{has, listed, members, rises}
use Rattle.vmodel.specs.Queue.{with_process, without_process}
use Rattle.vmodel.proofs.ProcessLemmas.{less, equal, more, compared, with_less, with_same, with_more, without_same, without_other, same, rises_from, rises_lower, rises_parts, is_lt, not_lt, lt_true}

pub listed_none : (f : ℕ → Bool) (from : ℕ) → listed f zero from ≡ []
unfolding listed
listed_none f from = refl

listed_by : (f : ℕ → Bool) (count from : ℕ) → listed f (suc count) from ≡ cond (f from) (from ∷ listed f count (suc from)) (listed f count (suc from))
unfolding listed
listed_by f count from = refl

pub listed_when : (f : ℕ → Bool) (count from : ℕ) → f from ≡ true → listed f (suc count) from ≡ from ∷ listed f count (suc from)
listed_when f count from is =
    listed_by f count from ∙ ap (λ b. cond b (from ∷ listed f count (suc from)) (listed f count (suc from))) is

pub listed_unless : (f : ℕ → Bool) (count from : ℕ) → f from ≡ false → listed f (suc count) from ≡ listed f count (suc from)
listed_unless f count from is =
    listed_by f count from ∙ ap (λ b. cond b (from ∷ listed f count (suc from)) (listed f count (suc from))) is

-- what is listed by one test is listed by another that says the same
pub listed_alike : (f g : ℕ → Bool) (count from : ℕ) → ((n : ℕ) → from ≤ n → n < from + count → f n ≡ g n) → listed f count from ≡ listed g count from
listed_alike f g zero from h = listed_none f from ∙ sym (listed_none g from)
listed_alike f g (suc count) from h =
    let rest : listed f count (suc from) ≡ listed g count (suc from) =
    listed_alike f g count (suc from) (λ n above below. h n (omega (arith, above)) (omega (arith, below))) in
    let here : f from ≡ g from = h from (omega arith) (omega arith) in
    listed_by f count from
    ∙ ap (λ b. cond b (from ∷ listed f count (suc from)) (listed f count (suc from))) here
    ∙ ap (λ ns. cond (g from) (from ∷ ns) ns) rest
    ∙ sym (listed_by g count from)

rises_by : (f : ℕ → Bool) (count from low : ℕ) (b : Bool) → f from ≡ b → low ≤ from → from + suc count ≤ 256 →
    rises (suc from) (listed f count (suc from)) ≡ true → rises low (listed f (suc count) from) ≡ true
rises_by f count from low true is le few rest =
    ap (rises low) (listed_when f count from is) ∙ rises_from low from (listed f count (suc from)) le (omega (arith, few)) rest
rises_by f count from low false is le few rest =
    ap (rises low) (listed_unless f count from is) ∙ rises_lower (suc from) low (listed f count (suc from)) rest (omega (arith, le))

pub listed_rises : (f : ℕ → Bool) (count from low : ℕ) → low ≤ from → from + count ≤ 256 → rises low (listed f count from) ≡ true
listed_rises f zero from low le few = ap (rises low) (listed_none f from)
listed_rises f (suc count) from low le few =
    rises_by f count from low (f from) refl le few (listed_rises f count (suc from) (suc from) (omega arith) (omega (arith, few)))

-- one that comes before all goes to the front
with_before : (p : ℕ) (qs : List ℕ) → rises (suc p) qs ≡ true → with_process p qs ≡ p ∷ qs
with_before p [] h = refl
with_before p (q ∷ qs) h = with_less p q qs (omega (arith, (rises_parts (suc p) q qs h).0))

-- ---- one test says the same as another but of one number, of which it says yes

module _ (f g : ℕ → Bool) (p count from : ℕ) where
  with_later : (b : Bool) → f from ≡ b → g from ≡ b → from < p → listed g count (suc from) ≡ with_process p (listed f count (suc from)) →
      listed g (suc count) from ≡ with_process p (listed f (suc count) from)
  with_later true was now lt there =
      listed_when g count from now
      ∙ ap (λ ns. from ∷ ns) there
      ∙ sym (with_more p from (listed f count (suc from)) lt)
      ∙ sym (ap (with_process p) (listed_when f count from was))
  with_later false was now lt there =
      listed_unless g count from now ∙ there ∙ sym (ap (with_process p) (listed_unless f count from was))

  with_here : (b : Bool) → f from ≡ b → from ≡ p → rises (suc p) (listed f count (suc from)) ≡ true →
      p ∷ listed f count (suc from) ≡ with_process p (listed f (suc count) from)
  with_here true was e rise =
      ap (λ n. n ∷ listed f count (suc from)) (sym e)
      ∙ sym (ap (with_process p) (listed_when f count from was) ∙ with_same p from (listed f count (suc from)) (sym e))
  with_here false was e rise =
      sym (ap (with_process p) (listed_unless f count from was) ∙ with_before p (listed f count (suc from)) rise)

  longer_later : (b : Bool) → f from ≡ b → g from ≡ b → length (listed g count (suc from)) ≡ suc (length (listed f count (suc from))) →
      length (listed g (suc count) from) ≡ suc (length (listed f (suc count) from))
  longer_later true was now there =
      ap length (listed_when g count from now) ∙ ap suc there ∙ sym (ap (λ (ns : List ℕ). suc (length ns)) (listed_when f count from was))
  longer_later false was now there =
      ap length (listed_unless g count from now) ∙ there ∙ sym (ap (λ (ns : List ℕ). suc (length ns)) (listed_unless f count from was))

  without_later : (b : Bool) → f from ≡ b → g from ≡ b → p ≢ from → listed g count (suc from) ≡ without_process p (listed f count (suc from)) →
      listed g (suc count) from ≡ without_process p (listed f (suc count) from)
  without_later true was now ne there =
      listed_when g count from now
      ∙ ap (λ ns. from ∷ ns) there
      ∙ sym (without_other p from (listed f count (suc from)) ne)
      ∙ sym (ap (without_process p) (listed_when f count from was))
  without_later false was now ne there =
      listed_unless g count from now ∙ there ∙ sym (ap (without_process p) (listed_unless f count from was))

  without_here : (b : Bool) → f from ≡ b → p ≡ from → without_process p (listed f count (suc from)) ≡ without_process p (listed f (suc count) from)
  without_here true was e =
      sym (ap (without_process p) (listed_when f count from was) ∙ without_same p from (listed f count (suc from)) e)
  without_here false was e = sym (ap (without_process p) (listed_unless f count from was))

pub listed_with : (f g : ℕ → Bool) (p count from : ℕ) → g p ≡ true → ((n : ℕ) → n ≢ p → n < from + count → g n ≡ f n) →
    from ≤ p → p < from + count → from + count ≤ 256 → listed g count from ≡ with_process p (listed f count from)
listed_with f g p zero from is others above below few = absurd (omega (arith, above, below))
listed_with f g p (suc count) from is others above below few =
    elim (compared from p) [
      | less lt ↦ with_later f g p count from (f from) refl (others from (omega (arith, lt)) (omega arith)) lt
          (listed_with f g p count (suc from) is (λ n ne le. others n ne (omega (arith, le))) (omega (arith, lt)) (omega (arith, below)) (omega (arith, few)))
      | equal e ↦ listed_when g count from (ap g e ∙ is)
          ∙ ap (λ ns. from ∷ ns) (listed_alike g f count (suc from) (λ n le lt. others n (omega (arith, le, e)) (omega (arith, lt))))
          ∙ ap (λ n. n ∷ listed f count (suc from)) e
          ∙ with_here f g p count from (f from) refl e (listed_rises f count (suc from) (suc p) (omega (arith, e)) (omega (arith, few)))
      | more gt ↦ absurd (omega (arith, gt, above))
    ]

-- it wasn't there, so that there is one more
pub listed_longer : (f g : ℕ → Bool) (p count from : ℕ) → f p ≡ false → g p ≡ true → ((n : ℕ) → n ≢ p → n < from + count → g n ≡ f n) →
    from ≤ p → p < from + count → length (listed g count from) ≡ suc (length (listed f count from))
listed_longer f g p zero from isnt is others above below = absurd (omega (arith, above, below))
listed_longer f g p (suc count) from isnt is others above below =
    elim (compared from p) [
      | less lt ↦ longer_later f g p count from (f from) refl (others from (omega (arith, lt)) (omega arith))
          (listed_longer f g p count (suc from) isnt is (λ n ne le. others n ne (omega (arith, le))) (omega (arith, lt)) (omega (arith, below)))
      | equal e ↦ ap length (listed_when g count from (ap g e ∙ is))
          ∙ ap (λ (ns : List ℕ). suc (length ns)) (listed_alike g f count (suc from) (λ n le lt. others n (omega (arith, le, e)) (omega (arith, lt))))
          ∙ sym (ap (λ (ns : List ℕ). suc (length ns)) (listed_unless f count from (ap f e ∙ isnt)))
      | more gt ↦ absurd (omega (arith, gt, above))
    ]

-- ---- one test says the same as another but of one number, of which it says no

pub listed_without : (f g : ℕ → Bool) (p count from : ℕ) → g p ≡ false → ((n : ℕ) → n ≢ p → n < from + count → g n ≡ f n) →
    listed g count from ≡ without_process p (listed f count from)
listed_without f g p zero from isnt others = listed_none g from ∙ sym (ap (without_process p) (listed_none f from))
listed_without f g p (suc count) from isnt others =
    let there : listed g count (suc from) ≡ without_process p (listed f count (suc from)) =
    listed_without f g p count (suc from) isnt (λ n ne le. others n ne (omega (arith, le))) in
    elim (compared p from) [
      | less lt ↦ without_later f g p count from (f from) refl (others from (omega (arith, lt)) (omega arith)) (omega (arith, lt)) there
      | equal e ↦ listed_unless g count from (ap g (sym e) ∙ isnt) ∙ there ∙ without_here f g p count from (f from) refl e
      | more gt ↦ without_later f g p count from (f from) refl (others from (omega (arith, gt)) (omega arith)) (omega (arith, gt)) there
    ]

-- ---- two tests that list the same say the same

isnt_first : (from : ℕ) (ns ms : List ℕ) → rises (suc from) ms ≡ true → from ∷ ns ≡ ms → ⊥
isnt_first from ns [] h e = cc
isnt_first from ns (m ∷ ms) h e =
    let same : from ≡ m = cc in
    omega (arith, same, (rises_parts (suc from) m ms h).0)

same_by : (f g : ℕ → Bool) (count from n : ℕ) (a b : Bool) → f from ≡ a → g from ≡ b →
    from + suc count ≤ 256 →
    listed f (suc count) from ≡ listed g (suc count) from →
    (a ≡ b) × (listed f count (suc from) ≡ listed g count (suc from))
same_by f g count from n true true fa gb few e =
    (refl, ap (λ (ns : List ℕ). drop 1 ns) (sym (listed_when f count from fa) ∙ e ∙ listed_when g count from gb))
same_by f g count from n false false fa gb few e = (refl, sym (listed_unless f count from fa) ∙ e ∙ listed_unless g count from gb)
same_by f g count from n true false fa gb few e =
    absurd (isnt_first from (listed f count (suc from)) (listed g count (suc from))
    (listed_rises g count (suc from) (suc from) (omega arith) (omega (arith, few)))
    (sym (listed_when f count from fa) ∙ e ∙ listed_unless g count from gb))
same_by f g count from n false true fa gb few e =
    absurd (isnt_first from (listed g count (suc from)) (listed f count (suc from))
    (listed_rises f count (suc from) (suc from) (omega arith) (omega (arith, few)))
    (sym (listed_when g count from gb) ∙ sym e ∙ listed_unless f count from fa))

pub same_when_listed : (f g : ℕ → Bool) (count from n : ℕ) → from + count ≤ 256 → listed f count from ≡ listed g count from → from ≤ n → n < from + count → f n ≡ g n
same_when_listed f g zero from n few e above below = absurd (omega (arith, above, below))
same_when_listed f g (suc count) from n few e above below =
    let parts = same_by f g count from n (f from) (g from) refl refl few e in
    elim (compared from n) [
      | less lt ↦ same_when_listed f g count (suc from) n (omega (arith, few)) parts.1 (omega (arith, lt)) (omega (arith, below))
      | equal is ↦ subst (λ (m : ℕ). f m ≡ g m) is parts.0
      | more gt ↦ absurd (omega (arith, gt, above))
    ]

-- ---- bits of a word

-- the bit of a number is set, and the others are as they were
pub set_is : (word p : ℕ) → p < 128 → (bit_at (bit_or word (1 * 2 ^ p % 2 ^ 128)) p == 1) ≡ true
set_is word p lt = same (bit_at (bit_or word (1 * 2 ^ p % 2 ^ 128)) p) 1 (bit_at_set_same w128 word p lt)

pub set_keeps : (word p n : ℕ) → p < 128 → n ≢ p → (bit_at (bit_or word (1 * 2 ^ p % 2 ^ 128)) n == 1) ≡ (bit_at word n == 1)
set_keeps word p n lt ne = ap (λ b. b == 1) (bit_at_set_other w128 word p lt n ne)

pub clear_isnt : (word p : ℕ) → p < 128 → (bit_at (bit_and word (bit_not w128 (1 * 2 ^ p % 2 ^ 128))) p == 1) ≡ false
clear_isnt word p lt = ap (λ b. b == 1) (bit_at_clear_same w128 word p lt)

pub clear_keeps : (word p n : ℕ) → p < 128 → n < 128 → n ≢ p → (bit_at (bit_and word (bit_not w128 (1 * 2 ^ p % 2 ^ 128))) n == 1) ≡ (bit_at word n == 1)
clear_keeps word p n lt few ne = ap (λ b. b == 1) (bit_at_clear_other w128 word p lt n few ne)

-- ---- the numbers of two words

pub has_low : (low high p : ℕ) → p < 128 → has low high p ≡ (bit_at low p == 1)
has_low low high p lt = ap (λ b. cond b (bit_at low p == 1) (bit_at high (p - 128) == 1)) (is_lt p 128 lt)

pub has_high : (low high p : ℕ) → 128 ≤ p → has low high p ≡ (bit_at high (p - 128) == 1)
has_high low high p le = ap (λ b. cond b (bit_at low p == 1) (bit_at high (p - 128) == 1)) (not_lt p 128 le)

pub members_are : (low high : ℕ) → members low high ≡ listed (has low high) 256 0
unfolding members
members_are low high = refl

pub members_rise : (low high : ℕ) → rises 0 (members low high) ≡ true
members_rise low high = ap (rises 0) (members_are low high) ∙ listed_rises (has low high) 256 0 0 (omega arith) (omega arith)

-- words of which one has a bit more, and else the same
pub record SetOne (low high low' high' p : ℕ) : Type 0 where
  pub is : has low' high' p ≡ true
  pub others : (n : ℕ) → n ≢ p → n < 256 → has low' high' n ≡ has low high n

pub record ClearedOne (low high low' high' p : ℕ) : Type 0 where
  pub isnt : has low' high' p ≡ false
  pub others : (n : ℕ) → n ≢ p → n < 256 → has low' high' n ≡ has low high n

low_alike : (low high word n : ℕ) → (n < 128 → (bit_at word n == 1) ≡ (bit_at low n == 1)) → has word high n ≡ has low high n
low_alike low high word n h = by (nat_lt n 128) refl
  where
    by : (b : Bool) → nat_lt n 128 ≡ b → has word high n ≡ has low high n
    by true is = let lt = lt_true n 128 is in has_low word high n lt ∙ h lt ∙ sym (has_low low high n lt)
    by false is = let le = ltb-false n 128 is in has_high word high n le ∙ sym (has_high low high n le)

high_alike : (low high word n : ℕ) → (128 ≤ n → (bit_at word (n - 128) == 1) ≡ (bit_at high (n - 128) == 1)) → has low word n ≡ has low high n
high_alike low high word n h = by (nat_lt n 128) refl
  where
    by : (b : Bool) → nat_lt n 128 ≡ b → has low word n ≡ has low high n
    by true is = let lt = lt_true n 128 is in has_low low word n lt ∙ sym (has_low low high n lt)
    by false is = let le = ltb-false n 128 is in has_high low word n le ∙ h le ∙ sym (has_high low high n le)

pub set_low : (low high p : ℕ) → p < 128 → SetOne low high (bit_or low (1 * 2 ^ p % 2 ^ 128)) high p
set_low low high p lt = record {
  is = has_low (bit_or low (1 * 2 ^ p % 2 ^ 128)) high p lt ∙ set_is low p lt;
  others = λ n ne few. low_alike low high (bit_or low (1 * 2 ^ p % 2 ^ 128)) n (λ under. set_keeps low p n lt ne);
}

pub set_high : (low high p : ℕ) → 128 ≤ p → p < 256 → SetOne low high low (bit_or high (1 * 2 ^ (p - 128) % 2 ^ 128)) p
set_high low high p le lt = record {
  is = has_high low (bit_or high (1 * 2 ^ (p - 128) % 2 ^ 128)) p le ∙ set_is high (p - 128) (omega (arith, lt));
  others = λ n ne few. high_alike low high (bit_or high (1 * 2 ^ (p - 128) % 2 ^ 128)) n (λ above. set_keeps high (p - 128) (n - 128) (omega (arith, lt)) (omega (arith, ne, le, above)));
}

pub clear_low : (low high p : ℕ) → p < 128 → ClearedOne low high (bit_and low (bit_not w128 (1 * 2 ^ p % 2 ^ 128))) high p
clear_low low high p lt = record {
  isnt = has_low (bit_and low (bit_not w128 (1 * 2 ^ p % 2 ^ 128))) high p lt ∙ clear_isnt low p lt;
  others = λ n ne few. low_alike low high (bit_and low (bit_not w128 (1 * 2 ^ p % 2 ^ 128))) n (λ under. clear_keeps low p n lt under ne);
}

pub clear_high : (low high p : ℕ) → 128 ≤ p → p < 256 → ClearedOne low high low (bit_and high (bit_not w128 (1 * 2 ^ (p - 128) % 2 ^ 128))) p
clear_high low high p le lt = record {
  isnt = has_high low (bit_and high (bit_not w128 (1 * 2 ^ (p - 128) % 2 ^ 128))) p le ∙ clear_isnt high (p - 128) (omega (arith, lt));
  others = λ n ne few. high_alike low high (bit_and high (bit_not w128 (1 * 2 ^ (p - 128) % 2 ^ 128))) n (λ above. clear_keeps high (p - 128) (n - 128) (omega (arith, lt)) (omega (arith, few)) (omega (arith, ne, le, above)));
}

module _ (low high low' high' p : ℕ) (few : p < 256) where
  pub members_with : SetOne low high low' high' p → members low' high' ≡ with_process p (members low high)
  members_with set =
      members_are low' high'
      ∙ listed_with (has low high) (has low' high') p 256 0 set.is set.others (omega arith) (omega (arith, few)) (omega arith)
      ∙ sym (ap (with_process p) (members_are low high))

  pub members_longer : has low high p ≡ false → SetOne low high low' high' p → length (members low' high') ≡ suc (length (members low high))
  members_longer isnt set =
      ap length (members_are low' high')
      ∙ listed_longer (has low high) (has low' high') p 256 0 isnt set.is set.others (omega arith) (omega (arith, few))
      ∙ sym (ap (λ (ns : List ℕ). suc (length ns)) (members_are low high))

  pub members_without : ClearedOne low high low' high' p → members low' high' ≡ without_process p (members low high)
  members_without cleared =
      members_are low' high'
      ∙ listed_without (has low high) (has low' high') p 256 0 cleared.isnt cleared.others
      ∙ sym (ap (without_process p) (members_are low high))

  pub members_shorter : has low high p ≡ true → ClearedOne low high low' high' p → length (members low high) ≡ suc (length (members low' high'))
  members_shorter is cleared =
      ap length (members_are low high)
      ∙ listed_longer (has low' high') (has low high) p 256 0 cleared.isnt is (λ n ne lt. sym (cleared.others n ne lt)) (omega arith) (omega (arith, few))
      ∙ sym (ap (λ (ns : List ℕ). suc (length ns)) (members_are low' high'))

-- one that is in, or isn't, makes no difference
module _ (low high p : ℕ) (few : p < 256) where
  pub members_had : has low high p ≡ true → with_process p (members low high) ≡ members low high
  members_had is =
      ap (with_process p) (members_are low high)
      ∙ sym (listed_with (has low high) (has low high) p 256 0 is (λ n ne lt. refl) (omega arith) (omega (arith, few)) (omega arith))
      ∙ sym (members_are low high)

  pub members_hadnt : has low high p ≡ false → without_process p (members low high) ≡ members low high
  members_hadnt isnt =
      ap (without_process p) (members_are low high)
      ∙ sym (listed_without (has low high) (has low high) p 256 0 isnt (λ n ne lt. refl))
      ∙ sym (members_are low high)

-- ---- no bits

bit_none : (p : ℕ) → has 0 0 p ≡ false
bit_none p = by (nat_lt p 128) refl
  where
    by : (b : Bool) → nat_lt p 128 ≡ b → has 0 0 p ≡ false
    by true is = has_low 0 0 p (lt_true p 128 is) ∙ ap (λ b. b == 1) (bit_at-zero p)
    by false is = has_high 0 0 p (ltb-false p 128 is) ∙ ap (λ b. b == 1) (bit_at-zero (p - 128))

listed_nothing : (f : ℕ → Bool) (count from : ℕ) → ((n : ℕ) → f n ≡ false) → listed f count from ≡ []
listed_nothing f zero from h = listed_none f from
listed_nothing f (suc count) from h = listed_unless f count from (h from) ∙ listed_nothing f count (suc from) h

pub members_none : members 0 0 ≡ []
members_none = members_are 0 0 ∙ listed_nothing (has 0 0) 256 0 bit_none

-- ---- words with the same members are the same

bit_of_test : (a b : ℕ) → a < 2 → b < 2 → (a == 1) ≡ (b == 1) → a ≡ b
bit_of_test zero zero la lb e = refl
bit_of_test zero (suc zero) la lb e = cc
bit_of_test (suc zero) zero la lb e = cc
bit_of_test (suc zero) (suc zero) la lb e = refl
bit_of_test (suc (suc a)) b la lb e = absurd (omega (arith, la))
bit_of_test a (suc (suc b)) la lb e = absurd (omega (arith, lb))

module _ (low high low' high' : ℕ) (same : members low high ≡ members low' high') where
  has_same : (n : ℕ) → n < 256 → has low high n ≡ has low' high' n
  has_same n few =
      same_when_listed (has low high) (has low' high') 256 0 n (omega arith)
      (sym (members_are low high) ∙ same ∙ members_are low' high') (omega arith) (omega (arith, few))

  pub low_same : low < 2 ^ 128 → low' < 2 ^ 128 → low ≡ low'
  low_same fits fits' =
      same_from_bits_below 128 low low' fits fits'
      (λ i lt. bit_of_test (bit_at low i) (bit_at low' i) (bit_at-lt low i) (bit_at-lt low' i)
      (sym (has_low low high i lt) ∙ has_same i (omega (arith, lt)) ∙ has_low low' high' i lt))

  pub high_same : high < 2 ^ 128 → high' < 2 ^ 128 → high ≡ high'
  high_same fits fits' =
      same_from_bits_below 128 high high' fits fits'
      (λ i lt. bit_of_test (bit_at high i) (bit_at high' i) (bit_at-lt high i) (bit_at-lt high' i)
      (above i
      (sym (has_high low high (i + 128) (omega arith)) ∙ has_same (i + 128) (omega (arith, lt)) ∙ has_high low' high' (i + 128) (omega arith))))
    where
      above : (i : ℕ) → (bit_at high (i + 128 - 128) == 1) ≡ (bit_at high' (i + 128 - 128) == 1) → (bit_at high i == 1) ≡ (bit_at high' i == 1)
      above i e = let back : i + 128 - 128 ≡ i = omega arith in
          ap (λ n. bit_at high n == 1) (sym back) ∙ e ∙ ap (λ n. bit_at high' n == 1) back

-- ---- one that is there

pub members_some : (low high p : ℕ) → p < 256 → has low high p ≡ true → 1 ≤ length (members low high)
members_some low high p few is = by (nat_lt p 128) refl
  where
    by : (b : Bool) → nat_lt p 128 ≡ b → 1 ≤ length (members low high)
    by true lt = omega (arith, members_shorter low high _ _ p few is (clear_low low high p (lt_true p 128 lt)))
    by false le = omega (arith, members_shorter low high _ _ p few is (clear_high low high p (ltb-false p 128 le) few))

-- without it there is one less
pub length_without : (low high p : ℕ) → p < 256 → has low high p ≡ true → length (members low high) ≡ suc (length (without_process p (members low high)))
length_without low high p few is = by (nat_lt p 128) refl
  where
    from : (low' high' : ℕ) → ClearedOne low high low' high' p → length (members low high) ≡ suc (length (without_process p (members low high)))
    from low' high' cleared =
        members_shorter low high low' high' p few is cleared
        ∙ ap (λ (ns : List ℕ). suc (length ns)) (members_without low high low' high' p few cleared)

    by : (b : Bool) → nat_lt p 128 ≡ b → length (members low high) ≡ suc (length (without_process p (members low high)))
    by true lt = from _ _ (clear_low low high p (lt_true p 128 lt))
    by false le = from _ _ (clear_high low high p (ltb-false p 128 le) few)

-- ---- the lowest number

-- the first number of a list is the first of which the test says yes
listed_first : (f : ℕ → Bool) (p count from : ℕ) → from ≤ p → p < from + count → f p ≡ true → ((n : ℕ) → n < p → f n ≡ false) →
    slice_get (listed f count from) 0 ≡ Some p
listed_first f p zero from above below is before = absurd (omega (arith, above, below))
listed_first f p (suc count) from above below is before =
    elim (compared from p) [
      | less lt ↦ ap (λ ns. slice_get ns 0) (listed_unless f count from (before from lt))
          ∙ listed_first f p count (suc from) (omega (arith, lt)) (omega (arith, below)) is before
      | equal e ↦ ap (λ ns. slice_get ns 0) (listed_when f count from (ap f e ∙ is)) ∙ ap Some e
      | more gt ↦ absurd (omega (arith, gt, above))
    ]

-- a bit that is 0 or 1, as the test has it
bit_isnt : (b : ℕ) → b ≡ 0 → (b == 1) ≡ false
bit_isnt b e = ap (λ c. c == 1) e

bit_is : (b : ℕ) → b ≡ 1 → (b == 1) ≡ true
bit_is b e = ap (λ c. c == 1) e

pub lowest_low : (low high : ℕ) → 0 < low → low < 2 ^ 128 → slice_get (members low high) 0 ≡ Some (trailing_zeros w128 low)
lowest_low low high some fits =
    let p : ℕ = trailing_zeros w128 low in
    let found : (p < 128) × (bit_at low p ≡ 1) × ((i : ℕ) → i < p → bit_at low i ≡ 0) = bit_at-trailing_zeros w128 low some fits in
    ap (λ ns. slice_get ns 0) (members_are low high)
    ∙ listed_first (has low high) p 256 0 (omega arith) (omega (arith, found.0))
    (has_low low high p found.0 ∙ bit_is (bit_at low p) found.1)
    (λ n lt. has_low low high n (omega (arith, lt, found.0)) ∙ bit_isnt (bit_at low n) (found.2 n lt))

has_none_low : (high n : ℕ) → n < 128 → has 0 high n ≡ false
has_none_low high n lt = has_low 0 high n lt ∙ bit_isnt (bit_at 0 n) (bit_at-zero n)

pub lowest_high : (low high : ℕ) → low ≡ 0 → 0 < high → high < 2 ^ 128 → slice_get (members low high) 0 ≡ Some (128 + trailing_zeros w128 high)
lowest_high low high none some fits =
    let p : ℕ = trailing_zeros w128 high in
    let found : (p < 128) × (bit_at high p ≡ 1) × ((i : ℕ) → i < p → bit_at high i ≡ 0) = bit_at-trailing_zeros w128 high some fits in
    let back : 128 + p - 128 ≡ p = omega arith in
    ap (λ l. slice_get (members l high) 0) none
    ∙ ap (λ ns. slice_get ns 0) (members_are 0 high)
    ∙ listed_first (has 0 high) (128 + p) 256 0 (omega arith) (omega (arith, found.0))
    (has_high 0 high (128 + p) (omega arith) ∙ bit_is (bit_at high (128 + p - 128)) (ap (bit_at high) back ∙ found.1))
    (λ n lt. before n lt (nat_lt n 128) refl)
  where
    before : (n : ℕ) → n < 128 + trailing_zeros w128 high → (b : Bool) → nat_lt n 128 ≡ b → has 0 high n ≡ false
    before n lt true is = has_none_low high n (lt_true n 128 is)
    before n lt false is =
        let le : 128 ≤ n = ltb-false n 128 is in
        has_high 0 high n le ∙ bit_isnt (bit_at high (n - 128)) ((bit_at-trailing_zeros w128 high some fits).2 (n - 128) (omega (arith, lt, le)))

pub lowest_none : (low high : ℕ) → low ≡ 0 → high ≡ 0 → None ≡ slice_get (members low high) 0
lowest_none low high none none' = sym (ap (λ l. slice_get (members l high) 0) none ∙ ap (λ h. slice_get (members 0 h) 0) none' ∙ ap (λ ns. slice_get ns 0) members_none)

-- ---- tests of all numbers

nat_eq_self : (n : ℕ) → nat_eq n n ≡ true
nat_eq_self n = grind (arith, nat_tests)

nat_eq_not : (m n : ℕ) → m ≢ n → nat_eq m n ≡ false
nat_eq_not m n ne = grind (arith, nat_tests)

nat_eq_is : (m n : ℕ) → nat_eq m n ≡ true → m ≡ n
nat_eq_is m n e = grind (arith, nat_tests)

nat_eq_isnt : (m n : ℕ) → nat_eq m n ≡ false → m ≢ n
nat_eq_isnt m n e = grind (arith, nat_tests)

pub pointwise_self : (ns : List ℕ) → pointwise nat_eq ns ns ≡ true
pointwise_self [] = refl
pointwise_self (n ∷ ns) = rw (nat_eq_self n, pointwise_self ns)

pub pointwise_alike : (ns ms : List ℕ) → pointwise nat_eq ns ms ≡ true → ns ≡ ms
pointwise_alike [] [] h = refl
pointwise_alike [] (m ∷ ms) h = cc
pointwise_alike (n ∷ ns) [] h = cc
pointwise_alike (n ∷ ns) (m ∷ ms) h = by (nat_eq n m) refl h (pointwise_alike ns ms)
  where
    by : (b : Bool) → nat_eq n m ≡ b → (b && pointwise nat_eq ns ms) ≡ true → (pointwise nat_eq ns ms ≡ true → ns ≡ ms) → n ∷ ns ≡ m ∷ ms
    by true e h rest = let here : n ≡ m = grind (arith, nat_tests) in ap (λ k. k ∷ ns) here ∙ ap (λ ks. m ∷ ks) (rest h)
    by false e h rest = cc

module _ (low high low' high' : ℕ) (low_fits : low < 2 ^ 128) (low_fits' : low' < 2 ^ 128) (high_fits : high < 2 ^ 128) (high_fits' : high' < 2 ^ 128) where
  listed_same : pointwise nat_eq (members low high) (members low' high') ≡ true → (low ≡ low') × (high ≡ high')
  listed_same is =
      let alike : members low high ≡ members low' high' = pointwise_alike (members low high) (members low' high') is in
      (low_same low high low' high' alike low_fits low_fits', high_same low high low' high' alike high_fits high_fits')

  pub words_differ : low ≢ low' → nat_eq low low' ≡ pointwise nat_eq (members low high) (members low' high')
  words_differ ne = by (pointwise nat_eq (members low high) (members low' high')) refl
    where
      by : (b : Bool) → pointwise nat_eq (members low high) (members low' high') ≡ b → nat_eq low low' ≡ pointwise nat_eq (members low high) (members low' high')
      by true is = absurd (ne (listed_same is).0)
      by false isnt = nat_eq_not low low' ne ∙ sym isnt

  pub words_alike : low ≡ low' → nat_eq high high' ≡ pointwise nat_eq (members low high) (members low' high')
  words_alike e = by (nat_eq high high') (pointwise nat_eq (members low high) (members low' high')) refl refl
    where
      by : (a b : Bool) → nat_eq high high' ≡ a → pointwise nat_eq (members low high) (members low' high') ≡ b → nat_eq high high' ≡ pointwise nat_eq (members low high) (members low' high')
      by true b is at =
          is ∙ sym (ap (pointwise nat_eq (members low high)) (ap (λ l. members l high') (sym e) ∙ ap (members low) (sym (nat_eq_is high high' is)))
          ∙ pointwise_self (members low high))
      by false true is at = absurd (nat_eq_isnt high high' is (listed_same at).1)
      by false false is at = is ∙ sym at
