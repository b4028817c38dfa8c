-- Facts about look-ups in a book.
use Rattle.std.proofs.Common.{◌≡◌, ℕ, ◌+◌, ◌<◌, ◌≤◌, zero, suc, Bool, true, false, ◌==◌, List, [], ◌∷◌, ◌++◌, length, get_or, slice_get, slice_set, map, position, Option, Some, None, IfSome, IfNone, is_some, arith, ap, refl, sym, ◌∙◌, subst, inl, inr, max, length-append, Vec}
use Rattle.std.specs.List.{list_any, position_or_len}
use Rattle.std.proofs.lemmas.List.Quantifiers.{position-Some}
use Rattle.std.proofs.lemmas.Bool.{cases_lt, false_from_ne_true}
use Rattle.std.proofs.lemmas.Bool.Decides.{nat_tests}
use Rattle.std.specs.Cmp.{IsEquivalence}
use Rattle.basis.proofs.Bools.{and_left, and_right, or_left, or_right}
use Rattle.basis.proofs.Lists.{last_or_before}
use Rattle.indexmap.specs.IndexSet.{insert_key}
use Rattle.statebook.specs.Books.{Book, Dominates, IsFoundAt, IsUndominated, add, places_of, book_of}
use Rattle.statebook.specs.Inner.Kept.{IsKept, alike}
use Rattle.statebook.specs.declared.entry.Entry.{Entry}
use Rattle.std.proofs.lemmas.Option.{slice_get-get_or, slice_get_within}

-- where no element passes, each fails
pub none_pass : {X : Type 0} (p : X → Bool) (xs : List X) → list_any p xs ≡ false → (i : ℕ) (x : X) → slice_get xs i ≡ Some x → p x ≡ false
none_pass p [] h i x e = absurd cc
none_pass p (y ∷ xs) h zero x e = let same : y ≡ x = cc in rw (← same) (or_left _ _ h)
none_pass p (y ∷ xs) h (suc i) x e = none_pass p xs (or_right (p y) _ h) i x e

-- where each element fails, none passes
pub all_fail : {X : Type 0} (p : X → Bool) (xs : List X) → ((i : ℕ) (x : X) → slice_get xs i ≡ Some x → p x ≡ false) → list_any p xs ≡ false
all_fail p [] h = refl
all_fail p (y ∷ xs) h = rw (h 0 y refl) (all_fail p xs (λ i. h (suc i)))

-- the element that a search found passes
pub found_passes : {X : Type 0} (p : X → Bool) (xs : List X) (r : Option ℕ) → r ≡ position p xs → IfSome r (λ i. (x : X) × (slice_get xs i ≡ Some x) × (p x ≡ true))
found_passes p xs None e = tt
found_passes p [] (Some i) e = absurd cc
found_passes p (y ∷ ys) (Some i) e =
    let found = position-Some p (y ∷ ys) i y (sym e) in
    (get_or (y ∷ ys) i y, slice_get-get_or (y ∷ ys) i y found.0, found.1)

pub not_found_fails : {X : Type 0} (p : X → Bool) (xs : List X) (r : Option ℕ) → is_some r ≡ list_any p xs → IfNone r ((i : ℕ) (x : X) → slice_get xs i ≡ Some x → p x ≡ false)
not_found_fails p xs None e = none_pass p xs (sym e)
not_found_fails p xs (Some i) e = tt

-- no entry of a budget below b dominates the one that was met
abbrev pub NoneBelow : {S : Type 0} → (S → S → Bool) → List (Entry S) → Entry S → ℕ → Type 0
NoneBelow {S} same keys start b = (i : ℕ) (f : Entry S) → slice_get keys i ≡ Some f → f.budget < b → ¬ Dominates same f start.state start.budget

-- how far the look-ups for an entry have come
pub record Probes {S : Type 0} (same : S → S → Bool) (keys : List (Entry S)) (start now : Entry S) (found : Option ℕ) : Type 0 where
  pub state : now.state ≡ start.state
  pub log : now.log ≡ start.log
  pub steps : now.steps ≡ start.steps
  pub from : start.budget ≤ now.budget
  pub dominates : IfSome found (IsFoundAt same keys start)
  pub none : IfNone found (NoneBelow same keys start (now.budget + 1))

found_dominates : {S : Type 0} (same : S → S → Bool) → IsEquivalence same → (keys : List (Entry S)) (start now : Entry S) (found : Option ℕ) → now.state ≡ start.state → start.budget ≤ now.budget → IfSome found (λ i. (f : Entry S) × (slice_get keys i ≡ Some f) × (alike same now f ≡ true)) → IfSome found (IsFoundAt same keys start)
found_dominates same eq keys start now None e le h = tt
found_dominates {S} same eq keys start now (Some i) e le h =
    let state : same now.state h.0.state ≡ true = and_left (same now.state h.0.state) (now.budget == h.0.budget) h.2 in
    let budget : (now.budget == h.0.budget) ≡ true = and_right (same now.state h.0.state) (now.budget == h.0.budget) h.2 in
    let P : S → Type 0 = λ s. same h.0.state s ≡ true in
    record {
      entry = h.0;
      at = h.1;
      dominates = record {
        state = subst P e (eq.symm h.0.state now.state ∙ state);
        budget = grind (arith, nat_tests);
      };
    }

none_dominates : {S : Type 0} (same : S → S → Bool) → IsEquivalence same → (keys : List (Entry S)) (start now : Entry S) (found : Option ℕ) → now.state ≡ start.state → NoneBelow same keys start now.budget → IfNone found ((i : ℕ) (f : Entry S) → slice_get keys i ≡ Some f → alike same now f ≡ false) → IfNone found (NoneBelow same keys start (now.budget + 1))
none_dominates {S} same eq keys start now None e below h = λ i f at lt d. elim (cases_lt f.budget now.budget) [
  | inl less ↦ below i f at less d
  | inr ge ↦ (
      let P : S → Type 0 = λ s. same f.state s ≡ true in
      let state : same now.state f.state ≡ true = eq.symm now.state f.state ∙ subst P (sym e) d.state in
      let budget : (now.budget == f.budget) ≡ true = grind (arith, nat_tests) in
      let fails : alike same now f ≡ false = h i f at in
      let passes : alike same now f ≡ true = rw state budget in
      cc)
]
none_dominates same eq keys start now (Some i) e below h = tt

pub probed : {S : Type 0} (same : S → S → Bool) → IsEquivalence same → (keys : List (Entry S)) (start now : Entry S) (found : Option ℕ) → now.state ≡ start.state → now.log ≡ start.log → now.steps ≡ start.steps → start.budget ≤ now.budget → NoneBelow same keys start now.budget → IfSome found (λ i. (f : Entry S) × (slice_get keys i ≡ Some f) × (alike same now f ≡ true)) → IfNone found ((i : ℕ) (f : Entry S) → slice_get keys i ≡ Some f → alike same now f ≡ false) → Probes same keys start now found
probed same eq keys start now found state log steps from below has hasnt = record {
  state = state;
  log = log;
  steps = steps;
  from = from;
  dominates = found_dominates same eq keys start now found state from has;
  none = none_dominates same eq keys start now found state below hasnt;
}

-- no entry of a lower budget can dominate
pub none_lower : {S : Type 0} (same : S → S → Bool) (keys : List (Entry S)) (start : Entry S) → NoneBelow same keys start start.budget
none_lower same keys start i f at lt d = omega (arith, lt, d.budget)

pub none_so_far : {S : Type 0} (same : S → S → Bool) (keys : List (Entry S)) (start now : Entry S) (found : Option ℕ) → Probes same keys start now found → is_some found ≡ false → NoneBelow same keys start (now.budget + 1)
none_so_far same keys start now None p e = p.none
none_so_far same keys start now (Some i) p e = absurd cc

pub map-slice_set : {X Y : Type 0} (f : X → Y) (xs : List X) (i : ℕ) (y : X) → map f (slice_set xs i y) ≡ slice_set (map f xs) i (f y)
map-slice_set f [] i y = refl
map-slice_set f (x ∷ xs) zero y = refl
map-slice_set f (x ∷ xs) (suc i) y = ap (λ l. f x ∷ l) (map-slice_set f xs i y)

pub map-append_one : {X Y : Type 0} (f : X → Y) (xs : List X) (y : X) → map f (xs ++ y ∷ []) ≡ map f xs ++ f y ∷ []
map-append_one f [] y = refl
map-append_one f (x ∷ xs) y = ap (λ l. f x ∷ l) (map-append_one f xs y)

no_places : {A : Type 0} (y : Option (Vec ℕ A)) → is_some y ≡ false → places_of y ≡ None
no_places None n = refl
no_places (Some v) n = absurd cc

-- what has no list of successors is not finished
pub not_finished : {A : Type 0} (items : List (Option (Vec ℕ A))) (i : ℕ) (x : Option (Vec ℕ A)) → i < length items → x ≡ get_or items i x → is_some x ≡ false → slice_get (map places_of items) i ≡ Some None
not_finished [] i x lt e n = absurd (omega (arith, lt))
not_finished (y ∷ items) zero x lt e n = ap Some (no_places y (ap is_some (sym e) ∙ n))
not_finished (y ∷ items) (suc i) x lt e n = not_finished items i x (omega (arith, lt)) e n

undominated-add : {S : Type 0} (same : S → S → Bool) (b : Book S) (e : Entry S) → IsUndominated same b.entries → ((i : ℕ) (f : Entry S) → slice_get b.entries i ≡ Some f → ¬ Dominates same f e.state e.budget) → (i j : ℕ) (f h : Entry S) → i < j → slice_get (b.entries ++ e ∷ []) i ≡ Some f → slice_get (b.entries ++ e ∷ []) j ≡ Some h → ¬ Dominates same f h.state h.budget
undominated-add {S} same b e u new i j f h lt at at' d = elim (last_or_before b.entries e j h at') [
  | inl there ↦ (
      let within : j < length b.entries = slice_get_within b.entries j h there in
      elim (last_or_before b.entries e i f at) [
        | inl earlier ↦ u.later i j f h lt earlier there d
        | inr last ↦ absurd (omega (arith, last.0))
      ])
  | inr last ↦ elim (last_or_before b.entries e i f at) [
    | inl earlier ↦ (
        let P : Entry S → Type 0 = λ x. Dominates same f x.state x.budget in
        new i f earlier (subst P (sym last.1) d))
    | inr both ↦ absurd (omega (arith, last.0, both.0))
  ]
]

-- a book keeps what it keeps where an entry is added that none dominates
pub kept-add : {S : Type 0} (same : S → S → Bool) (b : Book S) (top : ℕ) (e : Entry S) → IsKept same b top → ((i : ℕ) (f : Entry S) → slice_get b.entries i ≡ Some f → ¬ Dominates same f e.state e.budget) → IsKept same (add b e) (max top e.budget)
kept-add {S} same b top e k new = record {
  paired = length-append b.finished (None ∷ []) ∙ omega (arith, k.paired) ∙ sym (length-append b.entries (e ∷ []));
  undominated = record { later = undominated-add same b e k.undominated new };
  budgets = λ i f at. elim (last_or_before b.entries e i f at) [
    | inl there ↦ omega (arith, k.budgets i f there)
    | inr last ↦ (
        let P : Entry S → Type 0 = λ x. x.budget ≤ max top e.budget in
        subst P last.1 (omega arith))
  ];
}

-- an entry that no other dominates is equal to none
pub not_alike : {S : Type 0} (same : S → S → Bool) → IsEquivalence same → (keys : List (Entry S)) (top : ℕ) (e v : Entry S) → v ≡ e → ((i : ℕ) (f : Entry S) → slice_get keys i ≡ Some f → f.budget ≤ top) → ((i : ℕ) (f : Entry S) → slice_get keys i ≡ Some f → f.budget ≤ top → Dominates same f e.state e.budget → ⊥) → (i : ℕ) (f : Entry S) → slice_get keys i ≡ Some f → alike same v f ≡ false
not_alike {S} same eq keys top e v is bound none i f at = subst (λ (x : Entry S). alike same x f ≡ false) (sym is) (false_from_ne_true (alike same e f) (λ h.
    none i f at (bound i f at) (record {
      state = eq.symm f.state e.state ∙ and_left (same e.state f.state) (e.budget == f.budget) h;
      budget = (let b : (e.budget == f.budget) ≡ true = and_right (same e.state f.state) (e.budget == f.budget) h in grind (arith, nat_tests));
    })))

pub key_added : {X : Type 0} (eq : X → X → Bool) (keys : List X) (v : X) → ((i : ℕ) (f : X) → slice_get keys i ≡ Some f → eq v f ≡ false) → insert_key eq keys v ≡ keys ++ v ∷ []
key_added eq keys v h = rw (all_fail (eq v) keys h) refl

-- an entry and an empty place were put last
pub book_of-add : {S A : Type 0} (keys more : List (Entry S)) (items pushed : List (Option (Vec ℕ A))) (v : Entry S) → more ≡ keys ++ v ∷ [] → pushed ≡ items ++ None ∷ [] → book_of more pushed ≡ add (book_of keys items) v
book_of-add keys more items pushed v e f =
    let both = ap (λ l. map places_of l) f ∙ map-append_one places_of items None in
    λ i. record { entries = e i; finished = both i }

pub position_last : {X : Type 0} (eq : X → X → Bool) (keys : List X) (v : X) → ((i : ℕ) (f : X) → slice_get keys i ≡ Some f → eq v f ≡ false) → position_or_len (eq v) keys ≡ length keys
position_last eq [] v h = refl
position_last eq (x ∷ keys) v h = rw (h 0 x refl) (omega (arith, position_last eq keys v (λ i. h (suc i))))
