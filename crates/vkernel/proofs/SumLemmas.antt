-- The sum of the shares of a list, once one of its members is another, and as it is made share by share.
use Rattle.std.proofs.Common.{◌≡◌, ℕ, zero, suc, ◌+◌, ◌*◌, ◌%◌, ◌^◌, ◌<◌, Bool, true, false, nat_eq, List, [], ◌∷◌, Some, length, slice_get, arith, ap, refl, sym, ◌∙◌}
use Rattle.std.specs.Prelude.{slice_set, slice_index_or}
use Rattle.std.proofs.lemmas.Option.{slice_get-get_or}
use Rattle.std.specs.Cmp.{unsigned_Decides}
use Rattle.std.proofs.lemmas.Bool.{false_from_ne_true}
use Rattle.std.proofs.lemmas.Bool.Decides.{not_from_Decides}
use Rattle.vbits.specs.Planes.{values_of, unknowns_of}
use Rattle.vbits.specs.Vectors.{Vector}
use Rattle.vmodel.specs.Digest.{digest_with}
use Rattle.vmodel.specs.Same.{values_same}
use Rattle.vmodel.specs.SameLaws.{values_tell}
use Rattle.sched_core.specs.Tests.{Tells}
use Rattle.vkernel.specs.Sums.{swapped, turned, squared, share as share_of, sum_from, with_share, vector_share, values_sum}

swapped_fits : (word : ℕ) → word < 2 ^ 64 → swapped word < 2 ^ 64
swapped_fits word h = omega (arith, h)

pub share_fits : (place first second : ℕ) → share_of place first second < 2 ^ 64
share_fits place first second =
    let key = digest_with place 1 in
    let word = squared key (turned (turned key first) second) in
    swapped_fits ((word * word % 2 ^ 64 + key) % 2 ^ 64) (omega arith)

sum_fits : {A : Type 0} (share : ℕ → A → ℕ) (place : ℕ) (xs : List A) → sum_from share place xs < 2 ^ 64
sum_fits share place [] = omega arith
sum_fits share place (x ∷ xs) = omega arith

first_changed : (a b old : ℕ) → old < 2 ^ 64 → b < 2 ^ 64 → (a + b) % 2 ^ 64 ≡ with_share ((old + b) % 2 ^ 64) old a
first_changed a b old old_fits b_fits = omega (arith, old_fits, b_fits)

later_changed : (x b old a : ℕ) → old < 2 ^ 64 → b < 2 ^ 64 → (x + with_share b old a) % 2 ^ 64 ≡ with_share ((x + b) % 2 ^ 64) old a
later_changed x b old a old_fits b_fits = omega (arith, old_fits, b_fits)

-- where each share is of 64 bits
module _ {A : Type 0} (share : ℕ → A → ℕ) (fits : (place : ℕ) (x : A) → share place x < 2 ^ 64) where
  changed : (xs : List A) (place n : ℕ) (old new : A) → slice_get xs n ≡ Some old
      → sum_from share place (slice_set xs n new) ≡ with_share (sum_from share place xs) (share (place + n) old) (share (place + n) new)
  changed [] place n old new h = cc
  changed (x ∷ xs) place zero old new h =
      let here : place + zero ≡ place = omega arith in
      let same : x ≡ old = cc in
      rw here (rw (sym same) (first_changed (share place new) (sum_from share (place + 1) xs) (share place x) (fits place x) (sum_fits share (place + 1) xs)))
  changed (x ∷ xs) place (suc n) old new h =
      let there : place + suc n ≡ place + 1 + n = omega arith in
      let rest = changed xs (place + 1) n old new h in
      rw there (rw rest (later_changed (share place x) (sum_from share (place + 1) xs) (share (place + 1 + n) old) (share (place + 1 + n) new)
      (fits (place + 1 + n) old) (sum_fits share (place + 1) xs)))

  -- the sum once one member is another
  pub kept : (xs : List A) (n : ℕ) (old new d : A) (sum a b result : ℕ) → n < length xs → old ≡ slice_index_or xs n d → sum ≡ sum_from share 0 xs
      → a ≡ share n old → b ≡ share n new → result ≡ with_share sum a b → result ≡ sum_from share 0 (slice_set xs n new)
  kept xs n old new d sum a b result lt old_is sum_is a_is b_is result_is =
      let there : slice_get xs n ≡ Some old = slice_get-get_or xs n d lt ∙ ap Some (sym old_is) in
      let here : 0 + n ≡ n = omega arith in
      let after = changed xs 0 n old new there ∙ ap (λ (place : ℕ). with_share (sum_from share 0 xs) (share place old) (share place new)) here in
      result_is ∙ (λ i. with_share (sum_is i) (a_is i) (b_is i)) ∙ sym after

  -- the shares from a place on, added to a sum: the first, and then the others
  pub next : (sum place : ℕ) (x : A) (xs : List A)
      → (sum + sum_from share place (x ∷ xs)) % 2 ^ 64 ≡ ((sum + share place x) % 2 ^ 64 + sum_from share (place + 1) xs) % 2 ^ 64
  next sum place x xs = omega arith

  pub opens : (xs : List A) → (0 + sum_from share 0 xs) % 2 ^ 64 ≡ sum_from share 0 xs
  opens xs = omega (arith, sum_fits share 0 xs)

-- two that are told apart by numbers made of them are told apart
pub told_apart : {A : Type 0} (same : A → A → Bool) → Tells same → (number : A → ℕ) (x y : A) (m n : ℕ) → m ≡ number x → n ≡ number y
    → nat_eq m n ≡ false → false ≡ same x y
told_apart same tells number x y m n m_is n_is differ =
    sym (false_from_ne_true (same x y)
    (λ e. not_from_Decides (nat_eq m n) (unsigned_Decides m n) differ (m_is ∙ ap number ((tells x y).0 e) ∙ sym n_is)))

-- ---- of values

vector_fits : (place : ℕ) (v : Vector) → vector_share place v < 2 ^ 64
vector_fits place v = share_fits place (values_of v.letters) (unknowns_of v.letters)

pub values_kept : (values : List Vector) (n : ℕ) (old new d : Vector) (sum a b result : ℕ) → n < length values → old ≡ slice_index_or values n d
    → sum ≡ values_sum values → a ≡ vector_share n old → b ≡ vector_share n new → result ≡ with_share sum a b → result ≡ values_sum (slice_set values n new)
values_kept = kept vector_share vector_fits

pub values_next : (sum place : ℕ) (v : Vector) (values : List Vector)
    → (sum + sum_from vector_share place (v ∷ values)) % 2 ^ 64
    ≡ ((sum + vector_share place v) % 2 ^ 64 + sum_from vector_share (place + 1) values) % 2 ^ 64
values_next = next vector_share vector_fits

pub values_open : (values : List Vector) → (0 + values_sum values) % 2 ^ 64 ≡ values_sum values
values_open = opens vector_share vector_fits

pub values_apart : (xs ys : List Vector) (m n : ℕ) → m ≡ values_sum xs → n ≡ values_sum ys → nat_eq m n ≡ false → false ≡ values_same xs ys
values_apart = told_apart values_same values_tell values_sum
