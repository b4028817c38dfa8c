-- What a column makes of a value that is told.
use Rattle.std.proofs.Common.{◌≡◌, ℕ, ◌+◌, ◌<◌, ◌≤◌, zero, suc, Bool, true, false, ◌&&◌, if◌then◌else◌, List, [], ◌∷◌, ◌++◌, length, set, length-set, Option, Some, None, slice_get, refl, ap, sym, ◌∙◌, subst, arith, inl, inr, get_or-set_same, get_or-set_other}
use Rattle.std.specs.Prelude.{nat_eq}
use Rattle.std.specs.Cmp.Lexicographic.{pointwise}
use Rattle.std.proofs.lemmas.Bool.{cases_eq, cases_lt}
use Rattle.std.proofs.lemmas.List.{get_or_past}
use Rattle.std.proofs.lemmas.Option.{same_Some, slice_get_within}
use Rattle.basis.proofs.Bools.{and_false}
use Rattle.vbits.specs.Vectors.{Vector}
use Rattle.vcd_read.specs.Words.{Text}
use Rattle.vcd_slots.specs.Slots.{vector_of}
use Rattle.vcd_slots.specs.Following.{Puts, PutsEach, told_at}
use Rattle.vcd_slots.specs.declared.column.Column.{Column}

put_none : (is_on : Bool) (some : Option Vector) (before : Option Vector) (same : Bool) → same ≡ false → (if is_on && same then some else before) ≡ before
put_none is_on some before same other =
    ap (λ (b : Bool). if is_on && b then some else before) other ∙ ap (λ (b : Bool). if b then some else before) (and_false is_on)

put_some : (is_on : Bool) (some before : Option Vector) → (if is_on && true then some else before) ≡ (if is_on then some else before)
put_some true some before = refl
put_some false some before = refl

pub puts_other : (column : Column) (is_on : Bool) (before : Option Vector) (code digits : Text) → pointwise nat_eq code column.code.items ≡ false →
    Puts column is_on before before code digits
puts_other column is_on before code digits other = record {
  value = sym (put_none is_on (vector_of column.width digits) before (pointwise nat_eq code column.code.items) other);
  fits = λ same. absurd cc;
}

pub puts_same : (column : Column) (is_on : Bool) (before after : Option Vector) (v : Vector) (code digits : Text) → pointwise nat_eq code column.code.items ≡ true →
    Some v ≡ vector_of column.width digits → after ≡ (if is_on then Some v else before) → Puts column is_on before after code digits
puts_same column is_on before after v code digits same is stays = record {
  value = stays ∙ ap (λ (o : Option Vector). if is_on then o else before) is
      ∙ sym (ap (λ (b : Bool). if is_on && b then vector_of column.width digits else before) same ∙ put_some is_on (vector_of column.width digits) before);
  fits = λ _. (v, sym is);
}

-- the columns before a place have it, and those from there on have what they had
pub record PutSo (watched : List Column) (is_on : Bool) (old new : List (Option Vector)) (code digits : Text) (place : ℕ) : Type 0 where
  pub matched : length new ≡ length old
  pub below : (k : ℕ) (column : Column) → k < place → slice_get watched k ≡ Some column → Puts column is_on (told_at old k) (told_at new k) code digits
  pub above : (k : ℕ) → place ≤ k → told_at new k ≡ told_at old k

pub put_so : (watched : List Column) (is_on : Bool) (old new : List (Option Vector)) (code digits : Text) (place : ℕ) (column : Column) (after : Option Vector) →
    PutSo watched is_on old new code digits place → place < length new → slice_get watched place ≡ Some column →
    Puts column is_on (told_at new place) after code digits → PutSo watched is_on old (set new place after) code digits (place + 1)
put_so watched is_on old new code digits place column after so lt here puts = record {
  matched = length-set new place after ∙ so.matched;
  below = λ k one k_lt at_k. elim (cases_eq k place) [
    | inl same ↦ (let one_is : one ≡ column = same_Some one column (sym at_k ∙ ap (slice_get watched) same ∙ here) in
        subst (λ (c : Column). Puts c is_on (told_at old k) (told_at (set new place after) k) code digits) (sym one_is)
        (subst (λ (i : ℕ). Puts column is_on (told_at old i) (told_at (set new place after) i) code digits) (sym same)
        (subst (λ (o : Option Vector). Puts column is_on o (told_at (set new place after) place) code digits) (so.above place (omega arith))
        (subst (λ (o : Option Vector). Puts column is_on (told_at new place) o code digits) (sym (get_or-set_same new place after None lt)) puts))))
    | inr other ↦ subst (λ (o : Option Vector). Puts one is_on (told_at old k) o code digits) (sym (get_or-set_other new place k after None other))
        (so.below k one (omega arith) at_k)
  ];
  above = λ k le. get_or-set_other new place k after None (λ same. omega arith) ∙ so.above k (omega arith);
}

pub put_at_first : (watched : List Column) (is_on : Bool) (old : List (Option Vector)) (code digits : Text) → PutSo watched is_on old old code digits 0
put_at_first watched is_on old code digits = record { matched = refl; below = λ k column lt at_k. absurd (omega arith); above = λ k le. refl }

pub put_all : (watched : List Column) (is_on : Bool) (old new : List (Option Vector)) (code digits : Text) (place : ℕ) → place ≡ length watched →
    PutSo watched is_on old new code digits place → PutsEach watched is_on old new code digits
put_all watched is_on old new code digits place all so k column at_k =
    let lt : k < length watched = slice_get_within watched k column at_k in so.below k column (omega arith) at_k

-- ---- nothing is known

pub forgotten : (told : List (Option Vector)) (n : ℕ) → length told ≤ n → ((k : ℕ) → k < n → told_at told k ≡ None) → (place : ℕ) → told_at told place ≡ None
forgotten told n le none place = elim (cases_lt place n) [ inl lt ↦ none place lt | inr ge ↦ get_or_past told place None (omega arith) ]

pub none_more : (told : List (Option Vector)) (n : ℕ) → n < length told → ((k : ℕ) → k < n → told_at told k ≡ None) →
    (k : ℕ) → k < n + 1 → told_at (set told n None) k ≡ None
none_more told n lt none k k_lt = elim (cases_eq k n) [
  | inl same ↦ ap (λ (i : ℕ). told_at (set told n None) i) same ∙ get_or-set_same told n None None lt
  | inr other ↦ get_or-set_other told n k None None other ∙ none k (omega arith)
]

at_end : (told : List (Option Vector)) → ((place : ℕ) → told_at told place ≡ None) → (place : ℕ) → told_at (told ++ None ∷ []) place ≡ None
at_end [] none zero = refl
at_end [] none (suc place) = refl
at_end (o ∷ os) none zero = none zero
at_end (o ∷ os) none (suc place) = at_end os (λ k. none (suc k)) place

pub unknown_more : (told new : List (Option Vector)) → new ≡ told ++ None ∷ [] → ((place : ℕ) → told_at told place ≡ None) → (place : ℕ) → told_at new place ≡ None
unknown_more told new is none place = ap (λ (list : List (Option Vector)). told_at list place) is ∙ at_end told none place

-- ---- the lists are those

pub puts_as : (watched those : List Column) (is_on : Bool) (old before new : List (Option Vector)) (code name digits letters : Text) → watched ≡ those → old ≡ before →
    code ≡ name → digits ≡ letters → PutsEach watched is_on old new code digits → PutsEach those is_on before new name letters
puts_as watched those is_on old before new code name digits letters p q r s puts =
    subst (λ (w : List Column). PutsEach w is_on before new name letters) p
    (subst (λ (o : List (Option Vector)). PutsEach watched is_on o new name letters) q
    (subst (λ (t : Text). PutsEach watched is_on old new t letters) r
    (subst (λ (t : Text). PutsEach watched is_on old new code t) s puts)))
