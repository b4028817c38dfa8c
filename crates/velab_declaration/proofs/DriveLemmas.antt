-- Which bits are driven, one after another, and the marks of them.
use Rattle.std.proofs.Common.{nat_lt, get_or, ◌≡◌, ◌<◌, ◌≤◌, ℕ, zero, suc, ◌+◌, ◌-◌, ◌==◌, Bool, true, false, not, ◌&&◌, ◌||◌, if◌then◌else◌, List, [], ◌∷◌, ◌++◌, map, length, take, drop, replicate, slice_get, slice_set, unwrap_or, Option, None, Some, refl, sym, ap, ◌∙◌, subst, append_assoc, append-nil, arith}
use Rattle.std.proofs.lemmas.List.Folds.{list_any-append}
use Rattle.std.proofs.lemmas.List.{length-replicate}
use Rattle.std.proofs.lemmas.Bool.Decides.{nat_tests}
use Rattle.basis.proofs.Bools.{and_both, and_false}
use Rattle.velab_expr.proofs.ListLemmas.{drop_at}
use Rattle.vbits.specs.declared.bit4.Bit4.{Bit4}
use Rattle.vbits.specs.declared.bit4.Bit4.TheVariants.{X, Z}
use Rattle.vbits.specs.Vectors.{Vector, filled, put}
use Rattle.vdesign.specs.Design.{Variable}
use Rattle.vdesign.specs.declared.action.Action.{Action}
use Rattle.vdesign.specs.declared.action.Target.{Target}
use Rattle.vdesign.specs.declared.action.Target.TheVariants.{Whole, Bit, Part}
use Rattle.vvalue.specs.Value.{Environment, bounds_of, part_size}
use Rattle.vvalue.specs.Targets.{variable_of, size_if, variable_size, within, span_at, place_at, both_fall, leftwards, span_of}
use Rattle.vvalue.specs.declared.target.Span.{Span}
use Rattle.velab_declaration.specs.ActionFlaws.{blank, blank_environment}
use Rattle.velab_expr.specs.declared.fault.Rule.TheVariants as rule
use Rattle.velab_declaration.specs.Right.{is_net}
use Rattle.velab_declaration.specs.Drives.{Place, same_place, is_driven, places_from, drives_again, drivers_fault, places_of, driven_by, driven_by_all, start_letter, start_of}
use Rattle.velab_declaration.specs.DriveMarks.{mark_letter, mark_of, marks_from, AreMarks, with_mark, size_in, Marks, Tells, starts_from}

or_none : (b : Bool) → (b || false) ≡ b
or_none true = refl
or_none false = refl

or_some : (b : Bool) → (b || true) ≡ true
or_some true = refl
or_some false = refl

or_joined : (a b c : Bool) → (a || (b || c)) ≡ ((a || b) || c)
or_joined true b c = refl
or_joined false b c = refl

below : (a b : ℕ) → a < b → (a == b) ≡ false
below a b less = grind (arith, nat_tests)

above : (a b : ℕ) → b < a → (a == b) ≡ false
above a b less = grind (arith, nat_tests)

self : (a : ℕ) → (a == a) ≡ true
self a = grind (arith, nat_tests)

other_bit : (n m a b : ℕ) → (a == b) ≡ false → same_place (n, a) (m, b) ≡ false
other_bit n m a b e = ap (λ t. n == m && t) e ∙ and_false (n == m)

other_variable : (n m a b : ℕ) → (n == m) ≡ false → same_place (n, a) (m, b) ≡ false
other_variable n m a b e = ap (λ t. t && a == b) e

-- ---- bits one after another

pub again_both : (before xs ys : List Place) → drives_again before (xs ++ ys) ≡ (drives_again before xs || drives_again (before ++ xs) ys)
again_both before [] ys = ap (λ (l : List Place). drives_again l ys) (sym (append-nil before))
again_both before (x ∷ xs) ys =
    (λ i. is_driven before x || again_both (before ++ x ∷ []) xs ys i)
    ∙ (λ i. is_driven before x || (drives_again (before ++ x ∷ []) xs || drives_again (append_assoc before (x ∷ []) xs i) ys))
    ∙ or_joined (is_driven before x) (drives_again (before ++ x ∷ []) xs) (drives_again (before ++ x ∷ xs) ys)

pub row_starts : (n low count : ℕ) → places_from n low count ≡ places_from n (low + 0) (count - 0)
row_starts n low count =
    let here : low ≡ low + 0 = omega arith in
    let all : count ≡ count - 0 = omega arith in
    λ i. places_from n (here i) (all i)

-- those that are left begin with one
pub row_splits : (n low count k : ℕ) → k < count → places_from n (low + k) (count - k) ≡ places_from n (low + k) 1 ++ places_from n (low + (k + 1)) (count - (k + 1))
row_splits n low count k less =
    let more : count - k ≡ suc (count - (k + 1)) = omega arith in
    let next : (low + k) + 1 ≡ low + (k + 1) = omega arith in
    ap (λ (m : ℕ). places_from n (low + k) m) more ∙ ap (λ (t : ℕ). (n, low + k) ∷ places_from n t (count - (k + 1))) next

pub row_ends : (n low count k : ℕ) → count ≤ k → places_from n (low + k) (count - k) ≡ []
row_ends n low count k done =
    let none : count - k ≡ 0 = omega arith in
    ap (λ (m : ℕ). places_from n (low + k) m) none

-- ---- the marks of a variable

module _ (driven : List Place) (q : Place) where
  still : (p : Place) → same_place p q ≡ false → mark_letter (driven ++ q ∷ []) p ≡ mark_letter driven p
  still p e =
      ap (λ b. if b then X else Z)
      (list_any-append (same_place p) driven (q ∷ []) ∙ (λ i. is_driven driven p || (e i || false)) ∙ or_none (is_driven driven p))

  marked_at : mark_letter (driven ++ q ∷ []) q ≡ X
  marked_at =
      ap (λ b. if b then X else Z)
      (list_any-append (same_place q) driven (q ∷ [])
      ∙ (λ i. is_driven driven q || (and_both (q.0 == q.0) (q.1 == q.1) (self q.0) (self q.1) i || false))
      ∙ or_some (is_driven driven q))

  row_still : (n low count : ℕ) → ((k : ℕ) → low ≤ k → same_place (n, k) q ≡ false) →
      map (mark_letter (driven ++ q ∷ [])) (places_from n low count) ≡ map (mark_letter driven) (places_from n low count)
  row_still n low zero apart = refl
  row_still n low (suc count) apart =
      let far : (k : ℕ) → low + 1 ≤ k → same_place (n, k) q ≡ false = λ k le. apart k (omega arith) in
      let same : low ≤ low = omega arith in
      λ i. still (n, low) (apart low same) i ∷ row_still n (low + 1) count far i

  mark_still : (n size : ℕ) → (n == q.0) ≡ false → mark_of (driven ++ q ∷ []) n size ≡ mark_of driven n size
  mark_still n size e = λ i. record { letters = row_still n 0 size (λ k le. other_variable n q.0 k q.1 e) i; signed = false }

  rest_still : (m : ℕ) (vs : List Variable) → q.0 < m → marks_from (driven ++ q ∷ []) m vs ≡ marks_from driven m vs
  rest_still m [] less = refl
  rest_still m (v ∷ vs) less =
      let further : q.0 < m + 1 = omega arith in
      λ i. mark_still m v.length (above m q.0 less) i ∷ rest_still (m + 1) vs further i

row_marked : (driven : List Place) (n low count b t : ℕ) → b < count → t ≡ low + b →
    map (mark_letter (driven ++ (n, t) ∷ [])) (places_from n low count)
    ≡ take b (map (mark_letter driven) (places_from n low count)) ++ X ∷ drop (b + 1) (map (mark_letter driven) (places_from n low count))
row_marked driven n low zero b t within at = absurd (omega arith)
row_marked driven n low (suc count) zero t within at =
    let here : t ≡ low = omega arith in
    let head : mark_letter (driven ++ (n, t) ∷ []) (n, low) ≡ X = subst (λ (k : ℕ). mark_letter (driven ++ (n, t) ∷ []) (n, k) ≡ X) here (marked_at driven (n, t)) in
    let far : (k : ℕ) → low + 1 ≤ k → same_place (n, k) (n, t) ≡ false = λ k le. (let less : t < k = omega arith in other_bit n n k t (above k t less)) in
    λ i. head i ∷ row_still driven (n, t) n (low + 1) count far i
row_marked driven n low (suc count) (suc b) t within at =
    let less : low < t = omega arith in
    let inside : b < count = omega arith in
    let there : t ≡ (low + 1) + b = omega arith in
    let up : suc (b + 1) ≡ suc b + 1 = omega arith in
    let row : List Bit4 = map (mark_letter driven) (places_from n low (suc count)) in
    (λ i. still driven (n, t) (n, low) (other_bit n n low t (below low t less)) i ∷ row_marked driven n (low + 1) count b t inside there i)
    ∙ ap (λ (k : ℕ). take (suc b) row ++ X ∷ drop k row) up

letter_at : (driven : List Place) (n low count b t : ℕ) → b < count → t ≡ low + b →
    slice_get (map (mark_letter driven) (places_from n low count)) b ≡ Some (mark_letter driven (n, t))
letter_at driven n low zero b t within at = absurd (omega arith)
letter_at driven n low (suc count) zero t within at =
    let here : low ≡ t = omega arith in
    ap (λ (k : ℕ). Some (mark_letter driven (n, k))) here
letter_at driven n low (suc count) (suc b) t within at =
    let inside : b < count = omega arith in
    let there : t ≡ (low + 1) + b = omega arith in
    letter_at driven n (low + 1) count b t inside there

row_long : (driven : List Place) (n low count : ℕ) → length (map (mark_letter driven) (places_from n low count)) ≡ count
row_long driven n low zero = refl
row_long driven n low (suc count) = ap suc (row_long driven n (low + 1) count)

put_one : (v : Vector) (b : ℕ) (letter : Bit4) → put v b b (filled 1 letter) ≡ record { letters = take b v.letters ++ letter ∷ drop (b + 1) v.letters; signed = v.signed }
unfolding put filled
put_one v b letter = λ i. record { letters = append_assoc (take b v.letters) (letter ∷ []) (drop (b + 1) v.letters) i; signed = v.signed }

put_marked : (driven : List Place) (n size b : ℕ) → b < size → put (mark_of driven n size) b b (filled 1 X) ≡ mark_of (driven ++ (n, b) ∷ []) n size
put_marked driven n size b within =
    let here : b ≡ 0 + b = omega arith in
    put_one (mark_of driven n size) b X ∙ (λ i. record { letters = sym (row_marked driven n 0 size b b within here) i; signed = false })

pub one_long : (v : Vector) (bit : ℕ) → v ≡ filled 1 X → length v.letters ≡ bit + 1 - bit
unfolding filled
one_long v bit is = let one : 1 ≡ bit + 1 - bit = omega arith in ap (λ (w : Vector). length w.letters) is ∙ one

module _ (driven : List Place) (n size bit : ℕ) (letters : Vector) (within : bit < size) (are : letters ≡ mark_of driven n size) where
  -- a variable has all its bits
  pub has_bit : (long : ℕ) → long ≡ length letters.letters → long ≤ bit → ⊥
  has_bit long is few =
      let whole : length letters.letters ≡ size = ap (λ (v : Vector). length v.letters) are ∙ row_long driven n 0 size in
      omega arith

  told_letter : (letter : Bit4) → slice_get letters.letters bit ≡ Some letter → mark_letter driven (n, bit) ≡ letter
  told_letter letter at =
      let here : bit ≡ 0 + bit = omega arith in
      let got : Some (mark_letter driven (n, bit)) ≡ Some letter = sym (letter_at driven n 0 size bit bit within here) ∙ ap (λ (v : Vector). slice_get v.letters bit) (sym are) ∙ at in
      cc

  pub free_bit : (letter : Bit4) (more : Vector) → slice_get letters.letters bit ≡ Some letter → letter ≡ Z → more ≡ put letters bit bit (filled 1 X) →
      Some more ≡ with_mark driven n size bit
  free_bit letter more at is same = by (is_driven driven (n, bit)) refl
    where
      by : (b : Bool) → is_driven driven (n, bit) ≡ b → Some more ≡ (if b then None else Some (mark_of (driven ++ (n, bit) ∷ []) n size))
      by true e = let no : X ≡ Z = sym (ap (λ b. if b then X else Z) e) ∙ told_letter letter at ∙ is in absurd cc
      by false e = ap Some (same ∙ ap (λ (v : Vector). put v bit bit (filled 1 X)) are ∙ put_marked driven n size bit within)

  pub taken_bit : (letter : Bit4) → slice_get letters.letters bit ≡ Some letter → (letter ≡ Z → ⊥) → None ≡ with_mark driven n size bit
  taken_bit letter at other = by (is_driven driven (n, bit)) refl
    where
      by : (b : Bool) → is_driven driven (n, bit) ≡ b → None ≡ (if b then None else Some (mark_of (driven ++ (n, bit) ∷ []) n size))
      by true e = refl
      by false e = absurd (other (sym (told_letter letter at) ∙ ap (λ b. if b then X else Z) e))

-- ---- those of all variables

mark_in : (driven : List Place) (m : ℕ) (vs : List Variable) (i t : ℕ) (letters : Vector) → t ≡ m + i → slice_get (marks_from driven m vs) i ≡ Some letters →
    letters ≡ mark_of driven t (size_in vs i)
mark_in driven m [] i t letters at is = absurd cc
mark_in driven m (v ∷ vs) zero t letters at is =
    let here : m ≡ t = omega arith in
    let same : mark_of driven m v.length ≡ letters = cc in
    sym same ∙ ap (λ (k : ℕ). mark_of driven k v.length) here
mark_in driven m (v ∷ vs) (suc i) t letters at is =
    let there : t ≡ (m + 1) + i = omega arith in
    mark_in driven (m + 1) vs i t letters there is

mark_none : (driven : List Place) (m : ℕ) (vs : List Variable) (i : ℕ) → slice_get (marks_from driven m vs) i ≡ None → size_in vs i ≡ 0
mark_none driven m [] i is = refl
mark_none driven m (v ∷ vs) zero is = absurd cc
mark_none driven m (v ∷ vs) (suc i) is = mark_none driven (m + 1) vs i is

mark_set : (driven : List Place) (q : Place) (m : ℕ) (vs : List Variable) (i : ℕ) → q.0 ≡ m + i →
    slice_set (marks_from driven m vs) i (mark_of (driven ++ q ∷ []) q.0 (size_in vs i)) ≡ marks_from (driven ++ q ∷ []) m vs
mark_set driven q m [] i at = refl
mark_set driven q m (v ∷ vs) zero at =
    let here : q.0 ≡ m = omega arith in
    let less : q.0 < m + 1 = omega arith in
    λ i. mark_of (driven ++ q ∷ []) (here i) v.length ∷ sym (rest_still driven q (m + 1) vs less) i
mark_set driven q m (v ∷ vs) (suc k) at =
    let less : m < q.0 = omega arith in
    let there : q.0 ≡ (m + 1) + k = omega arith in
    λ i. sym (mark_still driven q m v.length (below m q.0 less)) i ∷ mark_set driven q (m + 1) vs k there i

module _ (driven : List Place) (variables : List Variable) (old : List Vector) (n bit : ℕ) (within : bit < size_in variables n) (are : AreMarks driven variables old) where
  pub no_bit : slice_get old n ≡ None → ⊥
  no_bit is =
      let none : size_in variables n ≡ 0 = mark_none driven 0 variables n (ap (λ (l : List Vector). slice_get l n) (sym are) ∙ is) in
      omega arith

  pub mark_here : (letters : Vector) → slice_get old n ≡ Some letters → letters ≡ mark_of driven n (size_in variables n)
  mark_here letters is =
      let here : n ≡ 0 + n = omega arith in
      mark_in driven 0 variables n n letters here (ap (λ (l : List Vector). slice_get l n) (sym are) ∙ is)

  pub bit_taken : None ≡ with_mark driven n (size_in variables n) bit → Marks driven (places_from n bit 1) variables false old
  bit_taken is = record { told = by (is_driven driven (n, bit)) is; are = λ no. absurd cc }
    where
      by : (b : Bool) → None ≡ (if b then None else Some (mark_of (driven ++ (n, bit) ∷ []) n (size_in variables n))) → false ≡ not (b || false)
      by true e = refl
      by false e = absurd cc

  pub bit_free : (more : Vector) (new : List Vector) → Some more ≡ with_mark driven n (size_in variables n) bit → new ≡ slice_set old n more →
      Marks driven (places_from n bit 1) variables true new
  bit_free more new is set = by (is_driven driven (n, bit)) refl is
    where
      by : (b : Bool) → is_driven driven (n, bit) ≡ b → Some more ≡ (if b then None else Some (mark_of (driven ++ (n, bit) ∷ []) n (size_in variables n))) →
          Marks driven (places_from n bit 1) variables true new
      by true e same = absurd cc
      by false e same =
          let here : n ≡ 0 + n = omega arith in
          let whole : more ≡ mark_of (driven ++ (n, bit) ∷ []) n (size_in variables n) = cc in
          record {
            told = ap (λ b. not (b || false)) (sym e);
            are = λ yes. set ∙ (λ i. slice_set (are i) n (whole i)) ∙ mark_set driven (n, bit) 0 variables n here;
          }

-- ---- what was marked of some bits

pub record Going (driven all left : List Place) (variables : List Variable) (marks : List Vector) : Type 0 where
  pub done : List Place
  pub parts : done ++ left ≡ all
  pub free : drives_again driven done ≡ false
  pub are : AreMarks (driven ++ done) variables marks

pub going_starts : (driven all : List Place) (variables : List Variable) (marks : List Vector) → AreMarks driven variables marks → Going driven all all variables marks
going_starts driven all variables marks are = record {
  done = [];
  parts = refl;
  free = refl;
  are = subst (λ (l : List Place). AreMarks l variables marks) (sym (append-nil driven)) are;
}

module _ (driven all left : List Place) (variables : List Variable) (marks : List Vector) (so_far : Going driven all left variables marks) where
  pub going_ends : left ≡ [] → Marks driven all variables true marks
  going_ends none =
      let whole : so_far.done ≡ all = sym (append-nil so_far.done) ∙ ap (λ (l : List Place). so_far.done ++ l) (sym none) ∙ so_far.parts in
      subst (λ (l : List Place). Marks driven l variables true marks) whole
      (record { told = ap not (sym so_far.free); are = λ yes. so_far.are })

  module _ (here rest : List Place) (new : List Vector) (splits : left ≡ here ++ rest) where
    again_in : (b : Bool) → drives_again (driven ++ so_far.done) here ≡ b → drives_again driven (so_far.done ++ here) ≡ b
    again_in b e = again_both driven so_far.done here ∙ (λ i. so_far.free i || e i)

    whole_parts : (so_far.done ++ here) ++ rest ≡ all
    whole_parts = append_assoc so_far.done here rest ∙ ap (λ (l : List Place). so_far.done ++ l) (sym splits) ∙ so_far.parts

    pub going_on : Marks (driven ++ so_far.done) here variables true new → Going driven all rest variables new
    going_on one = record {
      done = so_far.done ++ here;
      parts = whole_parts;
      free = again_in false (free_so (drives_again (driven ++ so_far.done) here) one.told);
      are = subst (λ (l : List Place). AreMarks l variables new) (append_assoc driven so_far.done here) (one.are refl);
    }
      where
        free_so : (b : Bool) → true ≡ not b → b ≡ false
        free_so true e = absurd cc
        free_so false e = refl

    pub going_stops : Marks (driven ++ so_far.done) here variables false new → Marks driven all variables false new
    going_stops one = record {
      told = ap not (sym (ap (drives_again driven) (sym whole_parts) ∙ again_both driven (so_far.done ++ here) rest
          ∙ ap (λ b. b || drives_again (driven ++ (so_far.done ++ here)) rest) (again_in true (taken_so (drives_again (driven ++ so_far.done) here) one.told))));
      are = λ no. absurd cc;
    }
      where
        taken_so : (b : Bool) → false ≡ not b → b ≡ true
        taken_so true e = refl
        taken_so false e = absurd cc

-- ---- the bits of a target

size_blank : (vs : List Variable) (n : ℕ) → size_if (slice_get (map blank vs) n) ≡ size_in vs n
unfolding filled
size_blank [] n = refl
size_blank (v ∷ vs) zero = length-replicate v.length X
size_blank (v ∷ vs) (suc n) = size_blank vs n

span_at_fits : (size : ℕ) (place : Option ℕ) (k : ℕ) → k < (span_at size place).count → (span_at size place).low + k < size
span_at_fits size None k less = absurd (omega arith)
span_at_fits size (Some place) k less = by (nat_lt place size) refl less
  where
    span_by : Bool → Span
    span_by b = if b then record { low = place; count = 1 } else record { low = 0; count = 0 }

    by : (b : Bool) → nat_lt place size ≡ b → k < (span_by b).count → (span_by b).low + k < size
    by true e few = let there : place < size = grind (arith, nat_tests) in omega arith
    by false e few = absurd (omega arith)

within_fits : (size low count k : ℕ) → k < (within size low count).count → low + k < size
within_fits size low count k less = omega arith

span_fits : (now : Environment) (target : Target) (k : ℕ) → k < (span_of now target).count → (span_of now target).low + k < variable_size now (variable_of target)
span_fits now (Whole n) k less = let here : k ≡ 0 + k = omega arith in subst (λ (j : ℕ). j < variable_size now n) here less
span_fits now (Bit n index) k less = span_at_fits (variable_size now n) (place_at now n index) k less
span_fits now (Part n selected) k less =
    let bounds = bounds_of now n in
    let falling = both_fall bounds selected in
    within_fits (variable_size now n) (leftwards falling selected.right bounds.right) (part_size selected - leftwards falling bounds.right selected.right) k less

-- they are marked where those of a span of them are
pub target_marked : (driven : List Place) (variables : List Variable) (now : Environment) (target : Target) (span : Span) (n : ℕ) (free : Bool) (marks : List Vector) →
    now ≡ blank_environment variables → span ≡ span_of now target → n ≡ variable_of target →
    (((k : ℕ) → k < span.count → span.low + k < size_in variables n) → Marks driven (places_from n span.low span.count) variables free marks) →
    Marks driven (places_of now target) variables free marks
target_marked driven variables now target span n free marks blanks span_is n_is told =
    let size : variable_size now (variable_of target) ≡ size_in variables (variable_of target) =
    ap (λ (e : Environment). variable_size e (variable_of target)) blanks ∙ size_blank variables (variable_of target) in
    let fits : (k : ℕ) → k < (span_of now target).count → (span_of now target).low + k < size_in variables (variable_of target) =
    λ k less. subst (λ (s : ℕ). (span_of now target).low + k < s) size (span_fits now target k less) in
    subst (λ (s : Span). Marks driven (places_from (variable_of target) s.low s.count) variables free marks) span_is
    (subst (λ (m : ℕ). Marks driven (places_from m span.low span.count) variables free marks) n_is
    (told (λ k less. subst (λ (m : ℕ). span.low + k < size_in variables m) (sym n_is) (subst (λ (s : Span). k < s.count → s.low + k < size_in variables (variable_of target)) (sym span_is) (fits k) less))))

-- ---- actions

pub record Seeks (driven : List Place) (now : Environment) (variables : List Variable) (actions left : List Action) (words more : List (Option ℕ)) (marks : List Vector) : Type 0 where
  pub before : List Place
  pub are : AreMarks before variables marks
  pub same : drivers_fault now before left more ≡ drivers_fault now driven actions words
  pub parts : before ++ driven_by_all now left ≡ driven ++ driven_by_all now actions

module _ (driven : List Place) (now : Environment) (variables : List Variable) (actions : List Action) (words : List (Option ℕ)) where
  pub seeks_first : (marks : List Vector) → AreMarks driven variables marks → Seeks driven now variables actions actions words words marks
  seeks_first marks are = record { before = driven; are = are; same = refl; parts = refl }

  pub seeks_none : (left : List Action) (more : List (Option ℕ)) (marks : List Vector) → Seeks driven now variables actions left words more marks → left ≡ [] →
      Tells driven now variables actions words None marks
  seeks_none left more marks so_far none =
      let whole : so_far.before ≡ driven ++ driven_by_all now actions =
      sym (append-nil so_far.before) ∙ ap (λ (l : List Action). so_far.before ++ driven_by_all now l) (sym none) ∙ so_far.parts in
      record {
        told = ap (λ (l : List Action). drivers_fault now so_far.before l more) (sym none) ∙ so_far.same;
        are = λ yes. subst (λ (l : List Place). AreMarks l variables marks) whole so_far.are;
      }

  module _ (left rest : List Action) (more : List (Option ℕ)) (marks new : List Vector) (so_far : Seeks driven now variables actions left words more marks) (action : Action) (splits : left ≡ action ∷ rest) where
    opened : (if drives_again so_far.before (driven_by now action) then Some (record { rule = rule.Drivers; at = unwrap_or (slice_get more 0) None })
        else drivers_fault now (so_far.before ++ driven_by now action) rest (drop 1 more)) ≡ drivers_fault now driven actions words
    opened = ap (λ (l : List Action). drivers_fault now so_far.before l more) (sym splits) ∙ so_far.same

    pub seeks_on : Marks so_far.before (driven_by now action) variables true new → Seeks driven now variables actions rest words (drop 1 more) new
    seeks_on one = by (drives_again so_far.before (driven_by now action)) one.told opened
      where
        by : (b : Bool) → true ≡ not b → (if b then Some (record { rule = rule.Drivers; at = unwrap_or (slice_get more 0) None })
            else drivers_fault now (so_far.before ++ driven_by now action) rest (drop 1 more)) ≡ drivers_fault now driven actions words →
            Seeks driven now variables actions rest words (drop 1 more) new
        by true e same = absurd cc
        by false e same = record {
          before = so_far.before ++ driven_by now action;
          are = one.are refl;
          same = same;
          parts = append_assoc so_far.before (driven_by now action) (driven_by_all now rest)
              ∙ ap (λ (l : List Action). so_far.before ++ driven_by_all now l) (sym splits) ∙ so_far.parts;
        }

    pub seeks_here : (at : Option ℕ) → at ≡ unwrap_or (slice_get more 0) None → Marks so_far.before (driven_by now action) variables false new →
        Tells driven now variables actions words (Some (record { rule = rule.Drivers; at = at })) new
    seeks_here at is one = by (drives_again so_far.before (driven_by now action)) one.told opened
      where
        by : (b : Bool) → false ≡ not b → (if b then Some (record { rule = rule.Drivers; at = unwrap_or (slice_get more 0) None })
            else drivers_fault now (so_far.before ++ driven_by now action) rest (drop 1 more)) ≡ drivers_fault now driven actions words →
            Tells driven now variables actions words (Some (record { rule = rule.Drivers; at = at })) new
        by true e same = record { told = (λ i. Some (record { rule = rule.Drivers; at = is i })) ∙ same; are = λ no. absurd cc }
        by false e same = absurd cc

-- ---- what variables are at first

row_of_x : (driven : List Place) (v : Variable) (n low count : ℕ) → is_net v.kind ≡ false → replicate count X ≡ map (start_letter driven v) (places_from n low count)
row_of_x driven v n low zero e = refl
row_of_x driven v n low (suc count) e = λ i. (if sym e i && not (is_driven driven (n, low)) then Z else X) ∷ row_of_x driven v n (low + 1) count e i

row_of_marks : (driven : List Place) (v : Variable) (n low count : ℕ) → is_net v.kind ≡ true →
    map (mark_letter driven) (places_from n low count) ≡ map (start_letter driven v) (places_from n low count)
row_of_marks driven v n low zero e = refl
row_of_marks driven v n low (suc count) e =
    λ i. (by (is_driven driven (n, low)) ∙ ap (λ b. if b && not (is_driven driven (n, low)) then Z else X) (sym e)) i ∷ row_of_marks driven v n (low + 1) count e i
  where
    by : (b : Bool) → (if b then X else Z) ≡ (if true && not b then Z else X)
    by true = refl
    by false = refl

pub start_of_net : (driven : List Place) (v : Variable) (n : ℕ) (marks : Vector) → is_net v.kind ≡ true → marks ≡ mark_of driven n v.length → marks ≡ start_of driven n v
start_of_net driven v n marks e are = are ∙ (λ i. record { letters = row_of_marks driven v n 0 v.length e i; signed = false })

pub start_of_other : (driven : List Place) (v : Variable) (n : ℕ) (marks : Vector) → is_net v.kind ≡ false → marks ≡ filled v.length X → marks ≡ start_of driven n v
unfolding filled
start_of_other driven v n marks e are = are ∙ (λ i. record { letters = row_of_x driven v n 0 v.length e i; signed = false })

row_of_z : (n low count : ℕ) → replicate count Z ≡ map (mark_letter []) (places_from n low count)
row_of_z n low zero = refl
row_of_z n low (suc count) = ap (λ l. Z ∷ l) (row_of_z n (low + 1) count)

pub unmarked_of : (n size : ℕ) → filled size Z ≡ mark_of [] n size
unfolding filled
unmarked_of n size = λ i. record { letters = row_of_z n 0 size i; signed = false }

pub unmarked_step : (vs : List Variable) (i : ℕ) (v : Variable) → i < length vs → v ≡ get_or vs i v → (one : Vector) → one ≡ filled v.length Z → (done all : List Vector) →
    done ++ marks_from [] i (drop i vs) ≡ all → (done ++ one ∷ []) ++ marks_from [] (i + 1) (drop (i + 1) vs) ≡ all
unmarked_step vs i v within is one one_is done all same =
    let rest : List Vector = marks_from [] (i + 1) (drop (i + 1) vs) in
    append_assoc done (one ∷ []) rest ∙ (λ j. done ++ (one_is ∙ unmarked_of i v.length) j ∷ rest)
    ∙ ap (λ (l : List Variable). done ++ marks_from [] i l) (sym (drop_at vs i v within is)) ∙ same

mark_there : (driven : List Place) (m : ℕ) (vs : List Variable) (i t : ℕ) (v : Variable) (other : Vector) → t ≡ m + i → i < length vs → v ≡ get_or vs i v →
    unwrap_or (slice_get (marks_from driven m vs) i) other ≡ mark_of driven t v.length
mark_there driven m [] i t v other at within is = absurd (omega arith)
mark_there driven m (x ∷ vs) zero t v other at within is =
    let here : m ≡ t = omega arith in
    let same : x ≡ v = sym is in
    λ j. mark_of driven (here j) (same j).length
mark_there driven m (x ∷ vs) (suc i) t v other at within is =
    let inside : i < length vs = omega arith in
    let there : t ≡ (m + 1) + i = omega arith in
    mark_there driven (m + 1) vs i t v other there inside is

pub starts_step : (driven : List Place) (vs : List Variable) (i : ℕ) (v : Variable) → i < length vs → v ≡ get_or vs i v → (marks : List Vector) → AreMarks driven vs marks →
    (mark one : Vector) → mark ≡ unwrap_or (slice_get marks i) (filled 1 X) → (mark ≡ mark_of driven i v.length → one ≡ start_of driven i v) → (done all : List Vector) →
    done ++ starts_from driven i (drop i vs) ≡ all → (done ++ one ∷ []) ++ starts_from driven (i + 1) (drop (i + 1) vs) ≡ all
starts_step driven vs i v within is marks are mark one mark_is told done all same =
    let rest : List Vector = starts_from driven (i + 1) (drop (i + 1) vs) in
    let here : i ≡ 0 + i = omega arith in
    let marked : mark ≡ mark_of driven i v.length =
    mark_is ∙ ap (λ (l : List Vector). unwrap_or (slice_get l i) (filled 1 X)) are ∙ mark_there driven 0 vs i i v (filled 1 X) here within is in
    append_assoc done (one ∷ []) rest ∙ (λ j. done ++ told marked j ∷ rest)
    ∙ ap (λ (l : List Variable). done ++ starts_from driven i l) (sym (drop_at vs i v within is)) ∙ same
