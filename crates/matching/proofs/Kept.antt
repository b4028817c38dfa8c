-- Looking among candidates, and putting one among them.
use Rattle.std.proofs.Common.{◌≡◌, ℕ, ◌+◌, ◌<◌, ◌≤◌, zero, suc, Bool, true, List, [], ◌∷◌, length, slice_get, min, Option, Some, None}
use Rattle.std.proofs.Common.{IfSome, IfNone, inl, inr, ◌⊎◌, arith, ap, refl, sym, ◌∙◌, subst}
use Rattle.std.specs.Cmp.{IsEquivalence}
use Rattle.std.specs.List.{IsDistinct}
use Rattle.std.specs.Map.{keys_of, lookup}
use Rattle.std.proofs.lemmas.Bool.{cases_lt}
use Rattle.std.proofs.lemmas.Option.{same_Some, none-some, slice_get_within}
use Rattle.std.proofs.lemmas.Map.Entries.{place_from_lookup}
use Rattle.indexmap.specs.IndexMap.{insert_entry}
use Rattle.sched_core.specs.Rules.{Rules, IsLawful}
use Rattle.explore.proofs.InsertLemmas.{Inserted, inserted, same_value, value_at}
use Rattle.explore.proofs.MarkLemmas.{equivalence}
use Rattle.matching.specs.Inner.Candidates.{IsEarliest, IsIn, IsShortest, Keeps}
use Rattle.matching.specs.Inner.Merging.{AreLonger, IsEarlier, IsNoLonger, IsShorter}
use Rattle.matching.specs.declared.answer.Explanation.{Explanation}
use Rattle.matching.specs.declared.candidates.Onward.{Onward}
use Rattle.matching.specs.declared.candidates.Way.{Way}

-- what stands in a list that begins with x is x, or stands in the rest
pub in_rest : {X : Type 0} (left rest : List X) (x y : X) → left ≡ x ∷ rest → IsIn left y → (x ≡ y) ⊎ IsIn rest y
in_rest {X} left rest x y first at =
    let P : List X → Type 0 = λ l. IsIn l y in
    in_cons rest x y (subst P first at)
  where
    in_cons : {X : Type 0} (rest : List X) (x y : X) → IsIn (x ∷ rest) y → (x ≡ y) ⊎ IsIn rest y
    in_cons rest x y (zero, at) = inl (same_Some x y at)
    in_cons rest x y (suc i, at) = inr (i, at)

pub in_first : {X : Type 0} (left rest : List X) (x : X) → left ≡ x ∷ rest → IsIn left x
in_first left rest x first = (0, ap (λ l. slice_get l 0) first)

pub in_later : {X : Type 0} (left rest : List X) (x y : X) → left ≡ x ∷ rest → IsIn rest y → IsIn left y
in_later left rest x y first at = (suc at.0, ap (λ l. slice_get l (suc at.0)) first ∙ at.1)

pub in_none : {X : Type 0} (left : List X) (y : X) → left ≡ [] → IsIn left y → ⊥
in_none left y none at = none-some y (sym (ap (λ l. slice_get l at.0) none) ∙ at.1)

-- what a look-up finds, and what it finds where keys are distinct
pub no_longer : {S : Type 0} (eq : S → S → Bool) (entries : List (S × Way S)) (s : S) (way : Way S) (d : ℕ) →
    Some way ≡ lookup (eq s) entries → length way.log ≤ d → IsNoLonger eq entries s d
no_longer eq entries s way d e le =
    let x = place_from_lookup (eq s) entries way (sym e) in
    record { entry = (x.1, way); at = (x.0, x.2); equal = x.3; departures = le }

looked_up : {S : Type 0} (eq : S → S → Bool) → IsEquivalence eq → (entries : List (S × Way S)) → IsDistinct eq (keys_of entries) →
    (s : S) (p : S × Way S) → IsIn entries p → eq s p.0 ≡ true → lookup (eq s) entries ≡ Some p.1
looked_up {S} eq laws entries apart s p at equal =
    let tests : eq s ≡ eq p.0 = λ n k. laws.congr s p.0 k equal n in
    ap (λ (t : S → Bool). lookup t entries) tests ∙ value_at eq laws entries apart at.0 p at.1

pub longer : {S : Type 0} (eq : S → S → Bool) → IsEquivalence eq → (entries : List (S × Way S)) → IsDistinct eq (keys_of entries) →
    (s : S) (way : Way S) (d : ℕ) → Some way ≡ lookup (eq s) entries → d < length way.log → AreLonger eq entries s d
longer {S} eq laws entries apart s way d e more p at equal =
    let count : length way.log ≡ length p.1.log = ap (λ (w : Way S). length w.log)
    (same_Some way p.1 (e ∙ looked_up eq laws entries apart s p at equal)) in
    omega (arith, count, more)

pub longer_none : {S : Type 0} (eq : S → S → Bool) → IsEquivalence eq → (entries : List (S × Way S)) → IsDistinct eq (keys_of entries) →
    (s : S) (d : ℕ) → None ≡ lookup (eq s) entries → AreLonger eq entries s d
longer_none eq laws entries apart s d e p at equal = absurd (none-some p.1 (e ∙ looked_up eq laws entries apart s p at equal))

module _ {S : Type 0} (r : Rules S) (law : IsLawful r) (eq : S → S → Bool) (agree : (s t : S) → r.same s t ≡ eq s t) (s : S)
    (way : Way S) (old : List (S × Way S)) where
  -- an equal state is among them already, under a log with no more departures
  pub keeps_already : IsNoLonger eq old s (length way.log) → Keeps r s way old old
  keeps_already h = record {
    adds = λ e at. inl at;
    all = λ t d kept. kept;
    kept = record {
      entry = h.entry;
      at = h.at;
      same = law.symmetric s h.entry.0 (agree s h.entry.0 ∙ h.equal);
      departures = h.departures;
    };
  }

  -- it was put among them
  pub keeps_new : (new : List (S × Way S)) → IsDistinct eq (keys_of old) → AreLonger eq old s (length way.log) →
      new ≡ insert_entry eq old s way → Keeps r s way old new
  keeps_new new apart long is =
      let laws : IsEquivalence eq = equivalence r law eq agree in
      let I : List (S × Way S) → Type 0 = λ l. Inserted eq old s way l in
      let put : Inserted eq old s way new = subst I (sym is) (inserted eq laws.refl old s way) in
      record {
        adds = λ e at. elim (put.from at.0 e at.1) [
          | inl there ↦ inr (agree s e.0 ∙ there.0, there.1)
          | inr before ↦ inl before
        ];
        all = λ t d kept. (
            let i : ℕ = kept.at.0 in
            let p : S × Way S = kept.entry in
            let q = put.kept i p kept.at.1 in
            let same : r.same q.0.0 t ≡ true = ap (λ k. r.same k t) q.2 ∙ kept.same in
            elim (put.from i q.0 q.1) [
              | inl there ↦ (
                  let count : length q.0.1.log ≡ length way.log = ap (λ (w : Way S). length w.log) there.1 in
                  let equal : eq s p.0 ≡ true = ap (eq s) (sym q.2) ∙ there.0 in
                  record {
                    entry = q.0;
                    at = (i, q.1);
                    same = same;
                    departures = omega (arith, count, long p kept.at equal, kept.departures);
                  })
              | inr before ↦ (
                  let equal : eq q.0.0 p.0 ≡ true = ap (eq q.0.0) (sym q.2) ∙ laws.refl q.0.0 in
                  let value : q.0.1 ≡ p.1 = same_value eq laws old apart before.0 i q.0 p before.1 kept.at.1 equal in
                  let count : length q.0.1.log ≡ length p.1.log = ap (λ (w : Way S). length w.log) value in
                  record { entry = q.0; at = (i, q.1); same = same; departures = omega (arith, count, kept.departures) })
            ]);
        kept = record {
          entry = (put.key, way);
          at = (put.place, put.at);
          same = law.symmetric s put.key (agree s put.key ∙ put.same);
          departures = omega arith;
        };
      }

-- the least of a time and the ranks of the next slots of those before a place
pub record EarliestBefore {S : Type 0} (entries : List (S × Way S)) (place until v : ℕ) : Type 0 where
  pub within : v ≤ until
  pub least : (i : ℕ) (e : S × Way S) (next : Onward S) → i < place → slice_get entries i ≡ Some e → e.1.next ≡ Some next → v ≤ next.rank
  pub some : (v ≡ until) ⊎ ((e : S × Way S) × (next : Onward S) × IsIn entries e × (e.1.next ≡ Some next) × (next.rank ≡ v))

pub earliest_more : {S : Type 0} (entries : List (S × Way S)) (place until v w : ℕ) (p : S × Way S) →
    EarliestBefore entries place until v → slice_get entries place ≡ Some p → IsEarlier v p.1 w →
    EarliestBefore entries (place + 1) until w
earliest_more {S} entries place until v w p h there e = record {
  within = omega (arith, h.within, e.within);
  least = λ i x next lt at is. elim (cases_lt i place) [
    | inl before ↦ omega (arith, h.least i x next before at is, e.within)
    | inr ge ↦ (
        let itself : place ≡ i = omega (arith, ge, lt) in
        let P : ℕ → Type 0 = λ j. slice_get entries j ≡ Some p in
        let same : ◌≡◌ {A = S × Way S} p x = same_Some p x (sym (subst P itself there) ∙ at) in
        e.least next (ap (λ (y : S × Way S). y.1.next) same ∙ is))
  ];
  some = elim e.some [
    | inl stays ↦ elim h.some [
      | inl until_is ↦ inl (stays ∙ until_is)
      | inr x ↦ inr (x.0, x.1, x.2, x.3, x.4 ∙ sym stays)
    ]
    | inr x ↦ inr (p, x.0, (place, there), x.1, x.2)
  ];
}

pub earliest_all : {S : Type 0} (entries : List (S × Way S)) (place until v : ℕ) → EarliestBefore entries place until v →
    length entries ≤ place → IsEarliest entries until v
earliest_all entries place until v h all = record {
  within = h.within;
  least = λ e next at is. h.least at.0 e next (omega (arith, all, slice_get_within entries at.0 e at.1)) at.1 is;
  some = h.some;
}

-- the run is no longer than that of the pair
abbrev pub IsNoLongerThan : {S : Type 0} → Option (Explanation S) → S × Way S → Type 0
IsNoLongerThan None e = ⊥
IsNoLongerThan (Some best) e = length best.log ≤ length e.1.log

-- it is one of them
pub record IsOneOf {S : Type 0} (entries : List (S × Way S)) (best : Explanation S) : Type 0 where
  pub entry : S × Way S
  pub at : IsIn entries entry
  pub state : entry.0 ≡ best.state
  pub log : entry.1.log ≡ best.log
  pub steps : entry.1.steps ≡ best.steps

abbrev pub IsSomeOf : {S : Type 0} → List (S × Way S) → Option (Explanation S) → Type 0
IsSomeOf entries None = Unit {0}
IsSomeOf entries (Some best) = IsOneOf entries best

-- it is the shortest of those that aren't left
pub record IsShortestSoFar {S : Type 0} (entries left : List (S × Way S)) (best : Option (Explanation S)) : Type 0 where
  pub one : IsSomeOf entries best
  pub those : (e : S × Way S) → IsIn left e → IsIn entries e
  pub each : (e : S × Way S) → IsIn entries e → IsIn left e ⊎ IsNoLongerThan best e

one_new : {S : Type 0} (entries : List (S × Way S)) (x : S × Way S) (new : Explanation S) → IsIn entries x → new.state ≡ x.0 →
    new.log ≡ x.1.log → new.steps ≡ x.1.steps → IsOneOf entries new
one_new entries x new at s l n = record { entry = x; at = at; state = sym s; log = sym l; steps = sym n }

none_longer : {S : Type 0} (x e : S × Way S) (new : Explanation S) → x ≡ e → length new.log ≤ length x.1.log →
    length new.log ≤ length e.1.log
none_longer {S} x e new same le =
    let count : length x.1.log ≡ length e.1.log = ap (λ (y : S × Way S). length y.1.log) same in
    omega (arith, count, le)

pub one_passed : {S : Type 0} (entries left rest : List (S × Way S)) (x : S × Way S) (best : Option (Explanation S))
    (new : Explanation S) → IsShortestSoFar entries left best → left ≡ x ∷ rest → IsShorter best x.0 x.1 new →
    IsShortestSoFar entries rest (Some new)
one_passed {S} entries left rest x None new h first is =
    let le : length new.log ≤ length x.1.log = omega (arith, ap length is.1) in
    record {
      one = one_new entries x new (h.those x (in_first left rest x first)) is.0 is.1 is.2;
      those = λ e at. h.those e (in_later left rest x e first at);
      each = λ e at. elim (h.each e at) [
        | inl there ↦ elim (in_rest left rest x e first there) [
          | inl itself ↦ inr (none_longer x e new itself le)
          | inr later ↦ inl later
        ]
        | inr never ↦ absurd never
      ];
    }
one_passed {S} entries left rest x (Some old) new h first (inl stays) =
    let O : Explanation S → Type 0 = λ b. IsOneOf entries b in
    let count : length new.log ≡ length old.log = ap (λ (b : Explanation S). length b.log) stays.0 in
    let le : length new.log ≤ length x.1.log = omega (arith, count, stays.1) in
    record {
      one = subst O (sym stays.0) h.one;
      those = λ e at. h.those e (in_later left rest x e first at);
      each = λ e at. elim (h.each e at) [
        | inl there ↦ elim (in_rest left rest x e first there) [
          | inl itself ↦ inr (none_longer x e new itself le)
          | inr later ↦ inl later
        ]
        | inr few ↦ inr (omega (arith, count, few))
      ];
    }
one_passed {S} entries left rest x (Some old) new h first (inr is) =
    let count : length new.log ≡ length x.1.log = ap length is.1 in
    record {
      one = one_new entries x new (h.those x (in_first left rest x first)) is.0 is.1 is.2;
      those = λ e at. h.those e (in_later left rest x e first at);
      each = λ e at. elim (h.each e at) [
        | inl there ↦ elim (in_rest left rest x e first there) [
          | inl itself ↦ inr (none_longer x e new itself (omega (arith, count)))
          | inr later ↦ inl later
        ]
        | inr few ↦ inr (omega (arith, count, is.3, few))
      ];
    }

pub all_passed : {S : Type 0} (entries left : List (S × Way S)) (best : Explanation S) → IsShortestSoFar entries left (Some best) →
    left ≡ [] → IsShortest entries best
all_passed entries left best h none = record {
  entry = h.one.entry;
  at = h.one.at;
  state = h.one.state;
  log = h.one.log;
  steps = h.one.steps;
  least = λ e at. elim (h.each e at) [ inl there ↦ absurd (in_none left e none there) | inr few ↦ few ];
}

pub nothing_passed : {S : Type 0} (entries left : List (S × Way S)) → IsShortestSoFar entries left None → left ≡ [] → entries ≡ []
nothing_passed [] left h none = refl
nothing_passed (e ∷ es) left h none = absurd (elim (h.each e (0, refl)) [ inl there ↦ in_none left e none there | inr never ↦ never ])

-- whatever was passed in the end
pub best_is : {S : Type 0} (entries left : List (S × Way S)) (best : Option (Explanation S)) → IsShortestSoFar entries left best →
    left ≡ [] → IfSome best (IsShortest entries)
best_is entries left None h none = tt
best_is entries left (Some best) h none = all_passed entries left best h none

pub best_none : {S : Type 0} (entries left : List (S × Way S)) (best : Option (Explanation S)) → IsShortestSoFar entries left best →
    left ≡ [] → IfNone best (entries ≡ [])
best_none entries left None h none = nothing_passed entries left h none
best_none entries left (Some best) h none = tt

-- the lesser of a time and the rank of the next slot
pub earlier_of : {S : Type 0} (time : ℕ) (way : Way S) (next : Onward S) (v : ℕ) → way.next ≡ Some next → v ≡ min time next.rank →
    IsEarlier time way v
earlier_of {S} time way next v is least = record {
  within = omega (arith, least);
  least = λ other also. (
      let same : next.rank ≡ other.rank = ap (λ (n : Onward S). n.rank) (same_Some next other (sym is ∙ also)) in
      omega (arith, least, same));
  some = elim (cases_lt time next.rank) [
    | inl lt ↦ inl (omega (arith, least, lt))
    | inr ge ↦ inr (next, is, omega (arith, least, ge))
  ];
}
