-- Departures of a run, and the way from station to station.
use Rattle.std.proofs.Common.{◌≡◌, ℕ, ◌+◌, ◌<◌, ◌≤◌, ◌==◌, ◌||◌, not, zero, suc, Bool, true, false, List, [], ◌∷◌, length, if◌then◌else◌, arith, ap, refl, sym, subst, ◌⊎◌, inl, inr}
use Rattle.std.proofs.lemmas.Bool.{cases_lt}
use Rattle.std.proofs.lemmas.Bool.Decides.{nat_tests}
use Rattle.basis.proofs.Bools.{same_truth}
use Rattle.sched_core.specs.Rules.{Rules, IsLawful, stands, choice_at, IsRun}
use Rattle.statebook.specs.Stations.{is_station, forced_state}
use Rattle.statebook.specs.Inner.Frontiers.{departs, departures_before}

used_nil : (n : ℕ) → departures_before [] n ≡ 0
used_nil zero = refl
used_nil (suc n) = omega (arith, used_nil n)

used_cons_before : (m : ℕ × ℕ) (log : List (ℕ × ℕ)) (n : ℕ) → n ≤ m.0 → departures_before (m ∷ log) n ≡ departures_before log n
used_cons_before m log zero h = refl
used_cons_before m log (suc n) h =
    let other : (m.0 == n) ≡ false = grind (arith, nat_tests) in
    rw other (ap (λ u. u + departs (choice_at log n)) (used_cons_before m log n (omega (arith, h))))

departs-le : (c : ℕ) → departs c ≤ 1
departs-le zero = omega arith
departs-le (suc c) = omega arith

same_or_not : (m n : ℕ) (b : Bool) → (m == n) ≡ b → (m ≡ n) ⊎ ((m == n) ≡ false)
same_or_not m n true e = inl (grind (arith, nat_tests))
same_or_not m n false e = inr e

used_cons : (m : ℕ × ℕ) (log : List (ℕ × ℕ)) (n : ℕ) → departures_before (m ∷ log) n ≤ departures_before log n + 1
used_cons m log zero = omega arith
used_cons m log (suc n) = elim (same_or_not m.0 n (m.0 == n) refl) [
  | inl e ↦ omega (arith, used_cons_before m log n (omega (arith, e)), departs-le (if m.0 == n then m.1 else choice_at log n))
  | inr other ↦ rw other (omega (arith, used_cons m log n))
]

-- a run departs at most as often as its log names a step
pub used-le : (log : List (ℕ × ℕ)) (n : ℕ) → departures_before log n ≤ length log
used-le [] n = omega (arith, used_nil n)
used-le (m ∷ log) n = omega (arith, used_cons m log n, used-le log n)

pub used_grows : (log : List (ℕ × ℕ)) (p n : ℕ) → p ≤ n → departures_before log p ≤ departures_before log n
used_grows log p zero h = let e : p ≡ 0 = omega arith in rw e (omega arith)
used_grows log p (suc n) h = elim (cases_lt n p) [
  | inl lt ↦ let e : p ≡ suc n = omega arith in rw e (omega arith)
  | inr le ↦ omega (arith, used_grows log p n le)
]

-- equal states are stations alike
pub is_station_same : {S : Type 0} (r : Rules S) → IsLawful r → (s t : S) → r.same s t ≡ true → is_station r s ≡ is_station r t
is_station_same r law s t e =
    let root : r.same s r.first ≡ r.same t r.first = same_truth _ _
    (λ h. law.transitive t s r.first (law.symmetric s t e) h)
    (λ h. law.transitive s t r.first e h) in
    let width : r.width s ≡ r.width t = law.width_same s t e in
    let mark : r.mark s ≡ r.mark t = law.mark_same s t e in
    λ i. root i || (not (width i == 1) || mark i)

or_true : (a b : Bool) → (a || (b || true)) ≡ true
or_true true b = refl
or_true false true = refl
or_true false false = refl

pub mark_is_station : {S : Type 0} (r : Rules S) (s : S) → r.mark s ≡ true → is_station r s ≡ true
mark_is_station r s h = rw h (or_true (r.same s r.first) (not (r.width s == 1)))

or_false : (a b c : Bool) → (a || (not b || c)) ≡ false → b ≡ true
or_false true b c h = cc
or_false false true c h = refl
or_false false false c h = cc

-- what is no station has one choice
pub width_between : {S : Type 0} (r : Rules S) (s : S) → is_station r s ≡ false → r.width s ≡ 1
width_between r s h =
    let one : (r.width s == 1) ≡ true = or_false (r.same s r.first) (r.width s == 1) (r.mark s) h in
    grind (arith, nat_tests)

-- between stations a run takes choice 0, so it goes the forced way and departs no more
pub record GoesAlong {S : Type 0} (r : Rules S) (log : List (ℕ × ℕ)) (t : S) (from q at : ℕ) : Type 0 where
  pub same : r.same (forced_state r t q) (stands r log at) ≡ true
  pub used_same : departures_before log at ≡ departures_before log from

along_one : {S : Type 0} (r : Rules S) → IsLawful r → (log : List (ℕ × ℕ)) (n : ℕ) → IsRun r log n → (t : S) (from q at : ℕ) → GoesAlong r log t from q at → is_station r (forced_state r t q) ≡ false → at < n → GoesAlong r log t from (suc q) (suc at)
along_one r law log n run t from q at before between lt =
    let one : r.width (forced_state r t q) ≡ 1 = width_between r (forced_state r t q) between in
    let alike : r.width (forced_state r t q) ≡ r.width (stands r log at) = law.width_same _ _ before.same in
    let choice : choice_at log at ≡ 0 = omega (arith, run at lt) in
    let taken : r.same (r.after (forced_state r t q) 0) (r.after (stands r log at) 0) ≡ true = law.after_same _ _ 0 before.same (omega arith) in
    let P : ℕ → Type 0 = λ c. r.same (r.after (forced_state r t q) 0) (r.after (stands r log at) c) ≡ true in
    let none : departs (choice_at log at) ≡ 0 = ap departs choice in
    record {
      same = subst P (sym choice) taken;
      used_same = omega (arith, before.used_same);
    }

pub along : {S : Type 0} (r : Rules S) → IsLawful r → (log : List (ℕ × ℕ)) (n : ℕ) → IsRun r log n → (t : S) (from m : ℕ) → r.same t (stands r log from) ≡ true → ((j : ℕ) → j < m → is_station r (forced_state r t j) ≡ false) → (q : ℕ) → q ≤ m → from + q ≤ n → GoesAlong r log t from q (from + q)
along {S} r law log n run t from m start passes zero le le' =
    let P : ℕ → Type 0 = λ at. GoesAlong r log t from 0 at in
    let e : from ≡ from + 0 = omega arith in
    subst P e (record { same = start; used_same = refl })
along {S} r law log n run t from m start passes (suc q) le le' =
    let before : GoesAlong r log t from q (from + q) = along r law log n run t from m start passes q (omega (arith, le)) (omega (arith, le')) in
    let P : ℕ → Type 0 = λ at. GoesAlong r log t from (suc q) at in
    let e : suc (from + q) ≡ from + suc q = omega arith in
    subst P e (along_one r law log n run t from q (from + q) before (passes q (omega (arith, le))) (omega (arith, le')))
