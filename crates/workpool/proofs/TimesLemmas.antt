-- Lists in which each number stands as often are as long; so as many jobs were put and taken as deques say.
use Rattle.std.proofs.Common.{◌≡◌, ℕ, suc, ◌+◌, ◌≤◌, ◌==◌, ◌⊎◌, inl, inr, if◌then◌else◌, Bool, true, false, List, [], ◌∷◌, ◌++◌, length, arith, ap, refl, sym, ◌∙◌, subst, length-append}
use Rattle.std.proofs.lemmas.Bool.Decides.{nat_tests}
use Rattle.workpool.specs.Jobs.{Owned}
use Rattle.workpool.specs.Rings.{AreBack, AreSettled, jobs_put, jobs_taken}
use Rattle.workpool.specs.Inner.Sums.{times, total}
use Rattle.workpool.specs.Inner.Joined.{seats_put, seats_taken}
use Rattle.workpool.specs.declared.ring.Seat.{Seat}
use Rattle.workpool.proofs.SumLemmas.{times-append}

-- one number less
record TakenOut (y : ℕ) (ys : List ℕ) : Type 0 where
  pub rest : List ℕ
  pub len : length ys ≡ suc (length rest)
  pub others : (x : ℕ) → times x ys ≡ (if y == x then 1 else 0) + times x rest

itself : (y : ℕ) → (y == y) ≡ true
itself y = grind (arith, nat_tests)

equal : (y z : ℕ) → (z == y) ≡ true → z ≡ y
equal y z same = grind (arith, nat_tests)

taken_first : (y z : ℕ) (ys : List ℕ) → (z == y) ≡ true → TakenOut y (z ∷ ys)
taken_first y z ys same = record { rest = ys; len = refl; others = λ x. ap (λ k. (if k == x then 1 else 0) + times x ys) (equal y z same) }

taken_later : (y z : ℕ) (ys : List ℕ) → TakenOut y ys → TakenOut y (z ∷ ys)
taken_later y z ys deeper = record { rest = z ∷ deeper.rest; len = ap suc deeper.len; others = λ x. (let o = deeper.others x in omega (arith, o)) }

later : (y z : ℕ) (ys : List ℕ) → (z == y) ≡ false → 1 ≤ times y (z ∷ ys) → 1 ≤ times y ys
later y z ys other some =
    let P : Bool → Type 0 = λ b. 1 ≤ (if b then 1 else 0) + times y ys in
    let rest : 1 ≤ 0 + times y ys = subst P other some in
    omega (arith, rest)

either_test : (y z : ℕ) → ((z == y) ≡ true) ⊎ ((z == y) ≡ false)
either_test y z = by_value (z == y) refl
  where
    by_value : (b : Bool) → (z == y) ≡ b → ((z == y) ≡ true) ⊎ ((z == y) ≡ false)
    by_value true e = inl e
    by_value false e = inr e

take_out : (y : ℕ) (ys : List ℕ) → 1 ≤ times y ys → TakenOut y ys
take_out y [] some = absurd (omega (arith, some))
take_out y (z ∷ ys) some = elim (either_test y z) [
  | inl same ↦ taken_first y z ys same
  | inr other ↦ taken_later y z ys (take_out y ys (later y z ys other some))
]

one_here : (y : ℕ) → ◌≡◌ {A = ℕ} (if y == y then 1 else 0) 1
one_here y =
    let one : Bool → ℕ = λ b. if b then 1 else 0 in
    ap one (itself y)

pub same_length : (xs ys : List ℕ) → ((x : ℕ) → times x xs ≡ times x ys) → length xs ≡ length ys
same_length [] [] h = refl
same_length [] (y ∷ ys) h = absurd (let one = one_here y in let e = h y in omega (arith, one, e))
same_length (z ∷ xs) ys h =
    let one = one_here z in
    let e = h z in
    let less : TakenOut z ys = take_out z ys (omega (arith, one, e)) in
    let rest = same_length xs less.rest (λ x. (let f = h x in let o = less.others x in omega (arith, f, o))) in
    omega (arith, rest, less.len)

-- all numbers of lists in views, one list behind the other
module _ {V : Type 0} (f : V → List ℕ) where
  abbrev pub all_of : List V → List ℕ
  all_of [] = []
  all_of (v ∷ views) = f v ++ all_of views

  pub count_of : (views : List V) → length (all_of views) ≡ total (λ v. length (f v)) views
  count_of [] = refl
  count_of (v ∷ views) = let n = length-append (f v) (all_of views) in let rest = count_of views in omega (arith, n, rest)

  pub times_of : (x : ℕ) (views : List V) → times x (all_of views) ≡ total (λ v. times x (f v)) views
  times_of x [] = refl
  times_of x (v ∷ views) = let n = times-append x (f v) (all_of views) in let rest = times_of x views in omega (arith, n, rest)

-- as many, where each number stands as often
pub as_many_of : {V W : Type 0} (f : V → List ℕ) (g : W → List ℕ) (vs : List V) (ws : List W) → ((x : ℕ) → total (λ v. times x (f v)) vs ≡ total (λ w. times x (g w)) ws) → total (λ v. length (f v)) vs ≡ total (λ w. length (g w)) ws
as_many_of f g vs ws same =
    sym (count_of f vs) ∙ same_length (all_of f vs) (all_of g ws) (λ x. times_of f x vs ∙ same x ∙ sym (times_of g x ws)) ∙ count_of g ws

-- as many jobs were put into the deques as by the threads, and taken out of them
pub put_back : (seats : List Seat) (deques : List Owned) → AreBack seats deques → jobs_put deques ≡ seats_put seats
put_back seats deques back = as_many_of (λ (o : Owned). o.put) (λ (s : Seat). s.owner.put) deques seats back.put

both_ends : (seats : List Seat) → total (λ (s : Seat). length (s.owner.taken ++ s.thief.taken)) seats ≡ seats_taken seats
both_ends [] = refl
both_ends (s ∷ seats) = let n = length-append s.owner.taken s.thief.taken in let rest = both_ends seats in omega (arith, n, rest)

pub taken_back : (seats : List Seat) (deques : List Owned) → AreBack seats deques → jobs_taken deques ≡ seats_taken seats
taken_back seats deques back = as_many_of (λ (o : Owned). o.taken) (λ (s : Seat). s.owner.taken ++ s.thief.taken) deques seats back.taken ∙ both_ends seats

-- no more were taken than put
pub taken_fewer : (deques : List Owned) (count : ℕ) → AreSettled deques count → jobs_taken deques ≤ jobs_put deques
taken_fewer deques count s =
    let put = count_of (λ (o : Owned). o.put) deques in
    let out = count_of (λ (o : Owned). o.taken) deques in
    let as_long = same_length (all_of (λ (o : Owned). o.put) deques) (all_of (λ (o : Owned). o.taken) deques ++ s.left) (λ x.
    (let p = times_of (λ (o : Owned). o.put) x deques in
    let t = times_of (λ (o : Owned). o.taken) x deques in
    let n = times-append x (all_of (λ (o : Owned). o.taken) deques) s.left in
    let f = s.fair x in
    omega (arith, p, t, n, f))) in
    let n = length-append (all_of (λ (o : Owned). o.taken) deques) s.left in
    omega (arith, as_long, n, put, out)
