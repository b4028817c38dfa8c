-- Lists read one thing after another.
use Rattle.std.proofs.Common.{◌≡◌, ℕ, ◌+◌, ◌<◌, true, false, List, [], ◌∷◌, ◌++◌, length, slice_get, Some, arith, ap, refl, sym, subst, ◌∙◌, inl, inr, append_assoc, append-nil, length-append}
use Rattle.std.specs.List.{flat_map}
use Rattle.std.proofs.lemmas.List.Concat.{flat_map-append}
use Rattle.basis.proofs.Lists.{place_within, stands_in_front, last_or_before, stands_last}
use Rattle.report_text.specs.Inner.Lists.{Listed}
use Rattle.report_text.specs.Inner.Places.{Place, Took, Stands}

pub listed_none : {A : Type 0} (P : A → Type 0) (Q : A → A → Type 0) → Listed P Q []
listed_none P Q = (λ i x e. absurd cc, λ i j x y lt e f. absurd cc)

-- what is first of such a list is such a list
pub listed_front : {A : Type 0} (P : A → Type 0) (Q : A → A → Type 0) (xs ys : List A) → Listed P Q (xs ++ ys) → Listed P Q xs
listed_front P Q xs ys h =
    (λ i x e. h.0 i x (stands_in_front xs ys i x e), λ i j x y lt e f. h.1 i j x y lt (stands_in_front xs ys i x e) (stands_in_front xs ys j y f))

-- one more that meets the facts
pub listed_more : {A : Type 0} (P : A → Type 0) (Q : A → A → Type 0) (xs : List A) (y : A) → Listed P Q xs → P y → ((i : ℕ) (x : A) → slice_get xs i ≡ Some x → Q x y) → Listed P Q (xs ++ y ∷ [])
listed_more P Q xs y h p q = (
  λ i x e. elim (last_or_before xs y i x e) [ inl there ↦ h.0 i x there | inr last ↦ subst P last.1 p ],
  λ i j x z lt e f. elim (last_or_before xs y j z f) [
    | inl there ↦ elim (last_or_before xs y i x e) [
      | inl here ↦ h.1 i j x z lt here there
      | inr last ↦ (let w : j < length xs = place_within xs j z there in absurd (omega (arith, last.0, w, lt)))
    ]
    | inr end ↦ elim (last_or_before xs y i x e) [
      | inl here ↦ subst (λ k. Q x k) end.1 (q i x here)
      | inr last ↦ absurd (omega (arith, last.0, end.0, lt))
    ]
  ],
)

-- what the last of such a list meets
pub listed_last : {A : Type 0} (P : A → Type 0) (Q : A → A → Type 0) (xs : List A) (y : A) → Listed P Q (xs ++ y ∷ []) → P y × ((i : ℕ) (x : A) → slice_get xs i ≡ Some x → Q x y)
listed_last P Q xs y h = (
  h.0 (length xs) y (stands_last xs y),
  λ i x e. h.1 i (length xs) x y (place_within xs i x e) (stands_in_front xs (y ∷ []) i x e) (stands_last xs y),
)

-- the whole goes on from what was read
pub record GoesOn {A : Type 0} (f : A → List ℕ) (xs : List A) (rest : List ℕ) (all : List A) (after : List ℕ) : Type 0 where
  pub more : List A
  pub whole : all ≡ xs ++ more
  pub left : rest ≡ flat_map f more ++ after

-- these were read, from where the reader was to where it is, both ways
pub record HasRead {A : Type 0} (f : A → List ℕ) (P : A → Type 0) (Q : A → A → Type 0) (count : ℕ) (old : Place) (xs : List A) (now : Place) : Type 0 where
  pub sound : Took old now (λ text rest. Listed P Q xs × (text ≡ flat_map f xs ++ rest))
  pub complete : (all : List A) (after : List ℕ) → old.ok ≡ true → Listed P Q all → length all ≡ count → old.rest ≡ flat_map f all ++ after → (now.ok ≡ true) × GoesOn f xs now.rest all after

pub has_none : {A : Type 0} (f : A → List ℕ) (P : A → Type 0) (Q : A → A → Type 0) (count : ℕ) (old : Place) → HasRead f P Q count old [] old
has_none f P Q count old = record {
  sound = λ ok. (ok, (listed_none P Q, refl));
  complete = λ all after ok h n e. (ok, record { more = all; whole = refl; left = e });
}

next_of : {A : Type 0} (f : A → List ℕ) (P : A → Type 0) (Q : A → A → Type 0) (count : ℕ) (now next : Place) (xs : List A) (y : A) (all : List A) (after : List ℕ) (more : List A) →
    Listed P Q all → length all ≡ count → length xs < count → all ≡ xs ++ more → now.rest ≡ flat_map f more ++ after → now.ok ≡ true →
    ((z : A) (rest : List ℕ) → now.ok ≡ true → P z → ((i : ℕ) (x : A) → slice_get xs i ≡ Some x → Q x z) → now.rest ≡ f z ++ rest → (y ≡ z) × Stands next rest) →
    (next.ok ≡ true) × GoesOn f (xs ++ y ∷ []) next.rest all after
next_of f P Q count now next xs y all after [] h n lt w l ok each =
    let same : length all ≡ length xs = ap length (w ∙ append-nil xs) in absurd (omega (arith, same, n, lt))
next_of f P Q count now next xs y all after (z ∷ zs) h n lt w l ok each =
    let whole : all ≡ (xs ++ z ∷ []) ++ zs = w ∙ sym (append_assoc xs (z ∷ []) zs) in
    let facts = listed_last P Q xs z (listed_front P Q (xs ++ z ∷ []) zs (subst (Listed P Q) whole h)) in
    let step = each z (flat_map f zs ++ after) ok facts.0 facts.1 (l ∙ append_assoc (f z) (flat_map f zs) after) in
    (step.1.0, record { more = zs; whole = whole ∙ ap (λ k. (xs ++ k ∷ []) ++ zs) (sym step.0); left = step.1.1 })

-- one more was read
pub has_more : {A : Type 0} (f : A → List ℕ) (P : A → Type 0) (Q : A → A → Type 0) (count : ℕ) (old now next : Place) (xs : List A) (y : A) → HasRead f P Q count old xs now → length xs < count →
    Took now next (λ text rest. P y × ((i : ℕ) (x : A) → slice_get xs i ≡ Some x → Q x y) × (text ≡ f y ++ rest)) →
    ((z : A) (rest : List ℕ) → now.ok ≡ true → P z → ((i : ℕ) (x : A) → slice_get xs i ≡ Some x → Q x z) → now.rest ≡ f z ++ rest → (y ≡ z) × Stands next rest) →
    HasRead f P Q count old (xs ++ y ∷ []) next
has_more f P Q count old now next xs y h lt took each = record {
  sound = λ ok.
      let t = took ok in
      let s = h.sound t.0 in (
        s.0,
        (
          listed_more P Q xs y s.1.0 t.1.0 t.1.1,
          s.1.1 ∙ ap (λ r. flat_map f xs ++ r) t.1.2 ∙ sym (append_assoc (flat_map f xs) (f y) next.rest)
              ∙ ap (λ r. r ++ next.rest) (sym (flat_map-append f xs (y ∷ []) ∙ ap (λ r. flat_map f xs ++ r) (append-nil (f y)))),
        ),
      );
  complete = λ all after ok l n e.
      let g = h.complete all after ok l n e in
      next_of f P Q count now next xs y all after g.1.more l n lt g.1.whole g.1.left g.0 each;
}

none_left : {A : Type 0} (xs more all : List A) → all ≡ xs ++ more → length all ≡ length xs → more ≡ []
none_left xs [] all w n = refl
none_left xs (z ∷ zs) all w n = let l : length all ≡ length xs + length (z ∷ zs) = ap length w ∙ length-append xs (z ∷ zs) in absurd (omega (arith, l, n))

-- all were read
pub has_all : {A : Type 0} (f : A → List ℕ) (P : A → Type 0) (Q : A → A → Type 0) (count : ℕ) (old now : Place) (xs : List A) → HasRead f P Q count old xs now → length xs ≡ count →
    (all : List A) (after : List ℕ) → old.ok ≡ true → Listed P Q all → length all ≡ count → old.rest ≡ flat_map f all ++ after → (xs ≡ all) × Stands now after
has_all f P Q count old now xs h count_is all after ok l n e =
    let g = h.complete all after ok l n e in
    let end = none_left xs g.1.more all g.1.whole (n ∙ sym count_is) in
    (sym (g.1.whole ∙ ap (λ m. xs ++ m) end ∙ append-nil xs), (g.0, g.1.left ∙ ap (λ m. flat_map f m ++ after) end))

-- where the reader is lost, there was none to be read
pub has_lost : {A : Type 0} (f : A → List ℕ) (P : A → Type 0) (Q : A → A → Type 0) (count : ℕ) (old now : Place) (xs : List A) → HasRead f P Q count old xs now → now.ok ≡ false →
    (all : List A) (after : List ℕ) → old.ok ≡ true → Listed P Q all → length all ≡ count → old.rest ≡ flat_map f all ++ after → ⊥
has_lost f P Q count old now xs h lost all after ok l n e = let g = h.complete all after ok l n e in absurd cc
