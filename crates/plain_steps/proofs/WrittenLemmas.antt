-- What the bits of a variable are after a part of it is written.
use Rattle.std.proofs.Common.{◌≡◌, ℕ, zero, suc, ◌+◌, ◌-◌, ◌≤◌, ◌<◌, min, nat_le, Bool, true, false, ◌&&◌, ◌||◌, cond, subst, nat_lt, List, [], ◌∷◌, ◌++◌, length, take, drop, Option, None, Some, refl, ap, ◌∙◌, arith}
use Rattle.std.specs.Prelude.{slice_get, slice_set}
use Rattle.std.proofs.lemmas.Bool.Decides.{nat_tests}
use Rattle.std.proofs.lemmas.List.{length-take, length-drop}
use Rattle.vbits.specs.declared.bit4.Bit4.{Bit4}
use Rattle.vbits.specs.Vectors.{Vector}
use Rattle.vdesign.specs.declared.expression.Bounds.{Bounds}
use Rattle.vvalue.specs.Value.{Environment, bounds_of, place_in}
use Rattle.vvalue.specs.Targets.{falls, both_fall, leftwards}
use Rattle.vvalue.specs.Flaws.{rises, in_order}
use Rattle.vmodel.specs.Parts.{value_in, with_bits, with_parts}
use Rattle.vmodel.specs.Value.{some_bits}
use Rattle.plain_steps.specs.PartLaws.{span, letter_after, WritesEachBit}

-- ---- letters of lists

get_take : (n i : ℕ) (xs : List Bit4) → i < n → slice_get (take n xs) i ≡ slice_get xs i
get_take zero i xs lt = absurd (omega (arith, lt))
get_take (suc n) i [] lt = refl
get_take (suc n) zero (x ∷ xs) lt = refl
get_take (suc n) (suc i) (x ∷ xs) lt = get_take n i xs (omega (arith, lt))

get_drop : (n i k : ℕ) (xs : List Bit4) → k ≡ n + i → slice_get (drop n xs) i ≡ slice_get xs k
get_drop zero i k xs is = let same : i ≡ k = omega (arith, is) in ap (slice_get xs) same
get_drop (suc n) i k [] is = refl
get_drop (suc n) i zero (x ∷ xs) is = absurd (omega (arith, is))
get_drop (suc n) i (suc k) (x ∷ xs) is = get_drop n i k xs (omega (arith, is))

get_below : (low high i : ℕ) (old new : List Bit4) → i < low → low ≤ high → high ≤ length old →
    slice_get (take low old ++ new ++ drop high old) i ≡ slice_get old i
get_below zero high i old new lt le within = absurd (omega (arith, lt))
get_below (suc low) zero i old new lt le within = absurd (omega (arith, le))
get_below (suc low) (suc high) i [] new lt le within = absurd (omega (arith, within))
get_below (suc low) (suc high) zero (x ∷ old) new lt le within = refl
get_below (suc low) (suc high) (suc i) (x ∷ old) new lt le within =
    get_below low high i old new (omega (arith, lt)) (omega (arith, le)) (omega (arith, within))

get_front : (i : ℕ) (new more : List Bit4) → i < length new → slice_get (new ++ more) i ≡ slice_get new i
get_front i [] more lt = absurd (omega (arith, lt))
get_front zero (x ∷ new) more lt = refl
get_front (suc i) (x ∷ new) more lt = get_front i new more (omega (arith, lt))

get_among : (low i k : ℕ) (old new more : List Bit4) → low ≤ length old → k ≡ low + i → i < length new →
    slice_get (take low old ++ new ++ more) k ≡ slice_get new i
get_among zero i k old new more le is lt =
    let same : k ≡ i = omega (arith, is) in
    ap (slice_get (new ++ more)) same ∙ get_front i new more lt
get_among (suc low) i k [] new more le is lt = absurd (omega (arith, le))
get_among (suc low) i zero (x ∷ old) new more le is lt = absurd (omega (arith, is))
get_among (suc low) i (suc k) (x ∷ old) new more le is lt = get_among low i k old new more (omega (arith, le)) (omega (arith, is)) lt

get_above : (low high i : ℕ) (old new : List Bit4) → high ≡ low + length new → high ≤ i → high ≤ length old →
    slice_get (take low old ++ new ++ drop high old) i ≡ slice_get old i
get_above zero zero i old [] is le within = refl
get_above zero zero i old (y ∷ new) is le within = absurd (omega (arith, is))
get_above zero (suc high) i old [] is le within = absurd (omega (arith, is))
get_above zero (suc high) i [] (y ∷ new) is le within = absurd (omega (arith, within))
get_above zero (suc high) zero (x ∷ old) (y ∷ new) is le within = absurd (omega (arith, le))
get_above zero (suc high) (suc i) (x ∷ old) (y ∷ new) is le within =
    get_above zero high i old new (omega (arith, is)) (omega (arith, le)) (omega (arith, within))
get_above (suc low) zero i old new is le within = absurd (omega (arith, is))
get_above (suc low) (suc high) i [] new is le within = absurd (omega (arith, within))
get_above (suc low) (suc high) zero (x ∷ old) new is le within = absurd (omega (arith, le))
get_above (suc low) (suc high) (suc i) (x ∷ old) new is le within =
    get_above low high i old new (omega (arith, is)) (omega (arith, le)) (omega (arith, within))

-- ---- letters of a value after some bits of it are written

got_back : (values : List Vector) (n : ℕ) (v : Vector) → n < length values → value_in (slice_set values n v) n ≡ v
got_back [] n v lt = absurd (omega (arith, lt))
got_back (x ∷ xs) zero v lt = refl
got_back (x ∷ xs) (suc n) v lt = got_back xs n v (omega (arith, lt))

module _ (values : List Vector) (n low : ℕ) (there : n < length values) where
  abbrev old : List Bit4
  old = (value_in values n).letters

  abbrev new : List Bit4 → List Bit4
  new given = (value_in (with_parts (some_bits n low given) values) n).letters

  new_is : (given : List Bit4) → 1 ≤ length given → length given ≤ length old - low →
      new given ≡ take low old ++ given ++ drop (low + length given) old
  new_is [] some fits = absurd (omega (arith, some))
  new_is (b ∷ bs) some fits =
      ap (λ (v : Vector). v.letters)
      (got_back values n (with_bits (value_in values n) low (record { letters = b ∷ bs; signed = false })) there)
      ∙ chosen (nat_le (low + length (b ∷ bs)) (length old)) (within (length (b ∷ bs)) some fits)
    where
      within : (count : ℕ) → 1 ≤ count → count ≤ length old - low → nat_le (low + count) (length old) ≡ true
      within count some fits = let le : low + count ≤ length old = omega (arith, some, fits) in grind (arith, nat_tests)

      put_so : List Bit4
      put_so = take low old ++ (b ∷ bs) ++ drop (low + length (b ∷ bs)) old

      chosen : (test : Bool) → test ≡ true →
          (cond test (record (value_in values n) { letters = put_so }) (value_in values n)).letters ≡ put_so
      chosen true is_true = refl
      chosen false is_true = cc

  new_below : (given : List Bit4) (i : ℕ) → length given ≤ length old - low → i < low → slice_get (new given) i ≡ slice_get old i
  new_below [] i fits lt = refl
  new_below (b ∷ bs) i fits lt =
      let some : 1 ≤ length (b ∷ bs) = omega arith in
      ap (λ xs. slice_get xs i) (new_is (b ∷ bs) some fits)
      ∙ get_below low (low + length (b ∷ bs)) i old (b ∷ bs) lt (omega arith) (omega (arith, some, fits))

  new_above : (given : List Bit4) (i : ℕ) → length given ≤ length old - low → low + length given ≤ i → slice_get (new given) i ≡ slice_get old i
  new_above [] i fits le = refl
  new_above (b ∷ bs) i fits le =
      let some : 1 ≤ length (b ∷ bs) = omega arith in
      ap (λ xs. slice_get xs i) (new_is (b ∷ bs) some fits)
      ∙ get_above low (low + length (b ∷ bs)) i old (b ∷ bs) refl le (omega (arith, some, fits))

  new_among : (given : List Bit4) (i k : ℕ) → length given ≤ length old - low → k ≡ low + i → i < length given →
      slice_get (new given) k ≡ slice_get given i
  new_among given i k fits is lt =
      ap (λ xs. slice_get xs k) (new_is given (omega (arith, lt)) fits)
      ∙ get_among low i k old given (drop (low + length given) old) (omega (arith, fits, lt)) is lt

  -- as many as there is room for, without those that are missing on the right
  module _ (missing : ℕ) (letters : List Bit4) where
    abbrev given : List Bit4
    given = take (length old - low) (drop missing letters)

    given_length : length given ≡ min (length old - low) (length letters - missing)
    given_length = length-take (length old - low) (drop missing letters) ∙ ap (min (length old - low)) (length-drop missing letters)

    stays_below : (i : ℕ) → i < low → slice_get (new given) i ≡ slice_get old i
    stays_below i lt = new_below given i (omega (arith, given_length)) lt

    stays_above : (i : ℕ) → i < length old → low + (length letters - missing) ≤ i → slice_get (new given) i ≡ slice_get old i
    stays_above i within le = new_above given i (omega (arith, given_length)) (omega (arith, given_length, le))

    is_written : (i k : ℕ) → i < length old → low ≤ i → i + missing ≡ k + low → missing ≤ k → k < length letters → slice_get (new given) i ≡ slice_get letters k
    is_written i k within le is some lt =
        new_among given (i - low) i (omega (arith, given_length)) (omega (arith, le)) (omega (arith, given_length, within, le, is, lt))
        ∙ get_take (length old - low) (i - low) (drop missing letters) (omega (arith, within, le))
        ∙ get_drop missing (i - low) k letters (omega (arith, le, is, some))

-- ---- places of numbers

module _ (P : Option ℕ → Type 0) (b : Bounds) (number : ℕ) where
  by_falling : b.right ≤ b.left → (b.right ≤ number → number ≤ b.left → P (Some (number - b.right))) → (number < b.right → P None) →
      (b.right ≤ number → b.left < number → P None) → P (place_in b number)
  by_falling falling within below above = by (nat_le b.right b.left) (nat_le b.right number) (nat_le number b.left) refl refl refl
    where
      by : (order low high : Bool) → nat_le b.right b.left ≡ order → nat_le b.right number ≡ low → nat_le number b.left ≡ high →
          P (cond order (cond (low && high) (Some (number - b.right)) None) (cond (nat_le b.left number && nat_le number b.right) (Some (b.right - number)) None))
      by false low high o l h = absurd (let no : b.left < b.right = grind (arith, nat_tests) in omega (arith, no, falling))
      by true true true o l h = within (grind (arith, nat_tests)) (grind (arith, nat_tests))
      by true true false o l h = above (grind (arith, nat_tests)) (grind (arith, nat_tests))
      by true false high o l h = below (grind (arith, nat_tests))

  by_strict : b.left < b.right → (b.left ≤ number → number ≤ b.right → P (Some (b.right - number))) → (number < b.left → P None) →
      (b.left ≤ number → b.right < number → P None) → P (place_in b number)
  by_strict rising within below above = by (nat_le b.right b.left) (nat_le b.left number) (nat_le number b.right) refl refl refl
    where
      by : (order low high : Bool) → nat_le b.right b.left ≡ order → nat_le b.left number ≡ low → nat_le number b.right ≡ high →
          P (cond order (cond (nat_le b.right number && nat_le number b.left) (Some (number - b.right)) None) (cond (low && high) (Some (b.right - number)) None))
      by true low high o l h = absurd (let no : b.right ≤ b.left = grind (arith, nat_tests) in omega (arith, no, rising))
      by false true true o l h = within (grind (arith, nat_tests)) (grind (arith, nat_tests))
      by false true false o l h = above (grind (arith, nat_tests)) (grind (arith, nat_tests))
      by false false high o l h = below (grind (arith, nat_tests))

  -- a single bit is in both orders
  by_single : b.left ≡ b.right → (b.left ≤ number → number ≤ b.right → P (Some (b.right - number))) → (number < b.left → P None) →
      (b.left ≤ number → b.right < number → P None) → P (place_in b number)
  by_single single within below above =
      by_falling (omega (arith, single))
      (λ low high. subst (λ k. P (Some k)) (same low high) (within (omega (arith, single, low)) (omega (arith, single, high))))
      (λ lt. below (omega (arith, single, lt)))
      (λ le lt. above (omega (arith, single, le)) (omega (arith, single, lt)))
    where
      same : b.right ≤ number → number ≤ b.left → b.right - number ≡ number - b.right
      same low high = omega (arith, single, low, high)

  by_rising : b.left ≤ b.right → (b.left ≤ number → number ≤ b.right → P (Some (b.right - number))) → (number < b.left → P None) →
      (b.left ≤ number → b.right < number → P None) → P (place_in b number)
  by_rising rising within below above = by (nat_lt b.left b.right) refl
    where
      by : (strict : Bool) → nat_lt b.left b.right ≡ strict → P (place_in b number)
      by true e = by_strict (grind (arith, nat_tests)) within below above
      by false e = let no : b.right ≤ b.left = grind (arith, nat_tests) in by_single (omega (arith, no, rising)) within below above

-- ---- a part

module _ (now : Environment) (n : ℕ) (s : Bounds) (letters : List Bit4) (number place : ℕ) (there : n < length now.values) where
  abbrev b : Bounds
  b = bounds_of now n

  abbrev before : List Bit4
  before = (value_in now.values n).letters

  abbrev after : Bool → List Bit4
  after falling =
      let low = leftwards falling s.right b.right in
      let missing = leftwards falling b.right s.right in
      (value_in (with_parts (some_bits n low (take (length before - low) (drop missing letters))) now.values) n).letters

  abbrev Told : Bool → Option ℕ → Type 0
  Told falling where_it_is = slice_get (after falling) place ≡ letter_after letters (slice_get before place) where_it_is

  module _ (as_long : length before ≡ span b) (all_given : length letters ≡ span s) (at : place_in b number ≡ Some place) where
    falling_told : b.right ≤ b.left → s.right ≤ s.left → Told true (place_in s number)
    falling_told falling selected_falling =
        by_falling (λ o. o ≡ Some place → Told true (place_in s number)) b number falling
        (λ least most e. let is : place ≡ number - b.right = cc in by_selected least most is)
        (λ lt e. cc) (λ le lt e. cc) at
      where
        by_selected : b.right ≤ number → number ≤ b.left → place ≡ number - b.right → Told true (place_in s number)
        by_selected least most is =
            let within : place < length before = omega (arith, least, most, is, as_long, falling) in
            by_falling (Told true) s number selected_falling
            (λ low high. is_written now.values n (s.right - b.right) there (b.right - s.right) letters place (number - s.right) within
            (omega (arith, least, low, is)) (omega (arith, least, low, is)) (omega (arith, least, low)) (omega (arith, low, high, all_given, selected_falling)))
            (λ lt. stays_below now.values n (s.right - b.right) there (b.right - s.right) letters place (omega (arith, least, lt, is)))
            (λ le lt. stays_above now.values n (s.right - b.right) there (b.right - s.right) letters place within (omega (arith, least, le, lt, is, all_given, selected_falling)))

    rising_told : b.left ≤ b.right → s.left ≤ s.right → Told false (place_in s number)
    rising_told rising selected_rising =
        by_rising (λ o. o ≡ Some place → Told false (place_in s number)) b number rising
        (λ least most e. let is : place ≡ b.right - number = cc in by_selected least most is)
        (λ lt e. cc) (λ le lt e. cc) at
      where
        by_selected : b.left ≤ number → number ≤ b.right → place ≡ b.right - number → Told false (place_in s number)
        by_selected least most is =
            let within : place < length before = omega (arith, least, most, is, as_long, rising) in
            by_rising (Told false) s number selected_rising
            (λ low high. is_written now.values n (b.right - s.right) there (s.right - b.right) letters place (s.right - number) within
            (omega (arith, most, high, is)) (omega (arith, most, high, is)) (omega (arith, most, high)) (omega (arith, low, high, all_given, selected_rising)))
            (λ lt. stays_above now.values n (b.right - s.right) there (s.right - b.right) letters place within (omega (arith, most, lt, is, all_given, selected_rising)))
            (λ le lt. stays_below now.values n (b.right - s.right) there (s.right - b.right) letters place (omega (arith, most, lt, is)))

    told : in_order b s ≡ true → Told (both_fall b s) (place_in s number)
    told order = by (falls b) (falls s) (rises b) (rises s) refl refl refl refl order
      where
        by : (bf sf br sr : Bool) → nat_le b.right b.left ≡ bf → nat_le s.right s.left ≡ sf → nat_le b.left b.right ≡ br → nat_le s.left s.right ≡ sr →
            ((bf && sf) || (br && sr)) ≡ true → Told (bf && sf) (place_in s number)
        by true true br sr e f g h o = falling_told (grind (arith, nat_tests)) (grind (arith, nat_tests))
        by true false true true e f g h o = rising_told (grind (arith, nat_tests)) (grind (arith, nat_tests))
        by false sf true true e f g h o = rising_told (grind (arith, nat_tests)) (grind (arith, nat_tests))
        by true false true false e f g h o = cc
        by true false false sr e f g h o = cc
        by false sf true false e f g h o = cc
        by false sf false sr e f g h o = cc

pub writes_each_bit : WritesEachBit
writes_each_bit now n selected letters number place there order as_long all_given at =
    told now n selected letters number place there as_long all_given at order
