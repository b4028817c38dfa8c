-- The number of a visit: one more than that of the last visit of its actor.
use Rattle.std.proofs.Common.{◌≡◌, ℕ, zero, suc, ◌+◌, ◌<◌, ◌≤◌, Bool, true, false, if◌then◌else◌, List, [], ◌∷◌, ◌++◌, length, take, Some, slice_get, inl, inr, refl, sym, ap, ◌∙◌, add-one, arith, length-append}
use Rattle.std.proofs.lemmas.Bool.{cases_lt, eqb-true}
use Rattle.std.proofs.lemmas.List.{take_all, take-append-le, length-take-le}
use Rattle.std.proofs.Math.Seq.{take-append_seam}
use Rattle.std.proofs.lemmas.Option.{same_Some, slice_get_within}
use Rattle.footprints.specs.declared.visit.Actor.{Actor}
use Rattle.footprints.specs.declared.visit.Actor.TheVariants.{Process, UpdateOf}
use Rattle.footprints.specs.declared.visit.Visit.{Visit}
use Rattle.footprints.specs.Visits.{same_actor, visits_by}
use Rattle.footprints.specs.Numbered.{AreNumbered}

pub one_actor : (a b : Actor) → same_actor a b ≡ true → a ≡ b
one_actor (Process p) (Process q) same = ap Process (eqb-true p q same)
one_actor (Process p) (UpdateOf q) same = absurd cc
one_actor (UpdateOf p) (Process q) same = absurd cc
one_actor (UpdateOf p) (UpdateOf q) same = ap UpdateOf (eqb-true p q same)

by_both : (first second : Bool) (n m : ℕ) → m ≡ (if second then suc n else n) →
    (if first then suc m else m) ≡ (if second then suc (if first then suc n else n) else (if first then suc n else n))
by_both true true n m h = ap suc h
by_both true false n m h = ap suc h
by_both false true n m h = h
by_both false false n m h = h

one_more : (actor : Actor) (visits : List Visit) (v : Visit) →
    visits_by actor (visits ++ v ∷ []) ≡ (if same_actor actor v.actor then suc (visits_by actor visits) else visits_by actor visits)
one_more actor [] v = refl
one_more actor (w ∷ visits) v =
    by_both (same_actor actor w.actor) (same_actor actor v.actor) (visits_by actor visits) (visits_by actor (visits ++ v ∷ [])) (one_more actor visits v)

few_visits : (actor : Actor) (visits : List Visit) → visits_by actor visits ≤ length visits
few_visits actor [] = omega arith
few_visits actor (v ∷ visits) = more (same_actor actor v.actor) (visits_by actor visits) (length visits) (few_visits actor visits)
  where
    more : (test : Bool) (n m : ℕ) → n ≤ m → (if test then suc n else n) ≤ suc m
    more true n m h = omega (arith, h)
    more false n m h = omega (arith, h)

take_next : (visits : List Visit) (k : ℕ) (v : Visit) → slice_get visits k ≡ Some v → take (suc k) visits ≡ take k visits ++ v ∷ []
take_next [] k v e = absurd cc
take_next (w ∷ visits) zero v e = ap (λ (x : Visit). x ∷ []) (same_Some w v e)
take_next (w ∷ visits) (suc k) v e = ap (λ (more : List Visit). w ∷ more) (take_next visits k v e)

by_next : (actor : Actor) (visits : List Visit) (k : ℕ) (v : Visit) → slice_get visits k ≡ Some v →
    visits_by actor (take (k + 1) visits) ≡ (if same_actor actor v.actor then suc (visits_by actor (take k visits)) else visits_by actor (take k visits))
by_next actor visits k v e =
    ap (λ (n : ℕ). visits_by actor (take n visits)) (add-one k)
    ∙ ap (visits_by actor) (take_next visits k v e)
    ∙ one_more actor (take k visits) v

-- where another made the visit
pub another : (actor : Actor) (visits : List Visit) (k : ℕ) (v : Visit) → slice_get visits k ≡ Some v → same_actor actor v.actor ≡ false →
    visits_by actor (take (k + 1) visits) ≡ visits_by actor (take k visits)
another actor visits k v e other =
    by_next actor visits k v e
    ∙ ap (λ (test : Bool). if test then suc (visits_by actor (take k visits)) else visits_by actor (take k visits)) other

pub none_there : (actor : Actor) (visits : List Visit) (k : ℕ) → length visits ≤ k → visits_by actor (take (k + 1) visits) ≡ visits_by actor (take k visits)
none_there actor visits k le = ap (visits_by actor) (take_all (k + 1) visits (omega (arith, le)) ∙ sym (take_all k visits le))

-- where the actor made it
pub the_same : (actor : Actor) (visits : List Visit) (k : ℕ) (v : Visit) → AreNumbered visits → slice_get visits k ≡ Some v → same_actor actor v.actor ≡ true →
    v.number + 1 ≡ visits_by actor (take (k + 1) visits)
the_same actor visits k v numbered e same =
    let is : v.number ≡ visits_by actor (take k visits) =
    numbered k v e ∙ ap (λ (a : Actor). visits_by a (take k visits)) (sym (one_actor actor v.actor same)) in
    let next : visits_by actor (take (k + 1) visits) ≡ suc (visits_by actor (take k visits)) =
    by_next actor visits k v e
    ∙ ap (λ (test : Bool). if test then suc (visits_by actor (take k visits)) else visits_by actor (take k visits)) same in
    omega (arith, is, next)

-- a number is below the count of visits
pub is_few : (visits : List Visit) (k : ℕ) (v : Visit) → AreNumbered visits → slice_get visits k ≡ Some v → v.number < length visits
is_few visits k v numbered e =
    let within : k < length visits = slice_get_within visits k v e in
    omega (arith, numbered k v e, few_visits v.actor (take k visits), length-take-le k visits (omega (arith, within)), within)

get_front : (xs ys : List Visit) (k : ℕ) → k < length xs → slice_get (xs ++ ys) k ≡ slice_get xs k
get_front [] ys k lt = absurd (omega (arith, lt))
get_front (x ∷ xs) ys zero lt = refl
get_front (x ∷ xs) ys (suc k) lt = get_front xs ys k (omega (arith, lt))

get_last : (xs : List Visit) (y : Visit) → slice_get (xs ++ y ∷ []) (length xs) ≡ Some y
get_last [] y = refl
get_last (x ∷ xs) y = get_last xs y

pub numbered_on : (visits : List Visit) (v : Visit) → AreNumbered visits → v.number ≡ visits_by v.actor visits → AreNumbered (visits ++ v ∷ [])
numbered_on visits v numbered is k u e =
    elim (cases_lt k (length visits)) [
      | inl lt ↦ (let le : k ≤ length visits = omega (arith, lt) in
          numbered k u (sym (get_front visits (v ∷ []) k lt) ∙ e) ∙ ap (visits_by u.actor) (sym (take-append-le k visits (v ∷ []) le)))
      | inr ge ↦ (
          let within : k < length (visits ++ v ∷ []) = slice_get_within (visits ++ v ∷ []) k u e in
          let last : k ≡ length visits = omega (arith, ge, within, length-append visits (v ∷ [])) in
          let same : v ≡ u = same_Some v u (sym (get_last visits v) ∙ ap (slice_get (visits ++ v ∷ [])) (sym last) ∙ e) in
          ap (λ (x : Visit). x.number) (sym same)
          ∙ is
          ∙ ap (λ (x : Visit). visits_by x.actor visits) same
          ∙ ap (visits_by u.actor) (sym (take-append_seam visits (v ∷ [])) ∙ ap (λ (n : ℕ). take n (visits ++ v ∷ [])) (sym last)))
    ]

pub none_numbered : AreNumbered []
none_numbered k v e = absurd cc
