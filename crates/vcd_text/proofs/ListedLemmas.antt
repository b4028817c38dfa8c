-- The changes of the variables of a list are all changes.
use Rattle.std.proofs.Common.{◌≡◌, ℕ, zero, suc, ◌+◌, ◌-◌, ◌<◌, ◌≤◌, ◌==◌, ◌&&◌, Bool, true, false, cond, not, List, [], ◌∷◌, ◌++◌, length, drop, Option, Some, None, refl, sym, ap, ◌∙◌, arith, append_assoc, append-nil, add-one}
use Rattle.std.specs.Prelude.{slice_get}
use Rattle.std.proofs.lemmas.Bool.Decides.{nat_tests}
use Rattle.std.proofs.lemmas.List.{drop_all}
use Rattle.vbits.specs.declared.bit4.Bit4.{Bit4}
use Rattle.vbits.specs.declared.bit4.Bit4.TheVariants.{Zero, One, X, Z}
use Rattle.vbits.specs.Letters.{is_same}
use Rattle.vbits.specs.Equal.{vectors_tell}
use Rattle.vbits.specs.Vectors.{Vector, same_letters, vector_same}
use Rattle.vmodel.specs.Touched.{is_in, ChangesOnly}
use Rattle.vcd_text.specs.DumpText.{changes, is_kept, is_news, value_line, value_lines}
use Rattle.vcd_text.specs.Listed.{IsListed, change_at, changes_from, is_between, news}

-- ---- a value that is the same is not told

same_letter : (x : Bit4) → is_same x x ≡ true
same_letter Zero = refl
same_letter One = refl
same_letter X = refl
same_letter Z = refl

same_with_itself : (xs : List Bit4) → same_letters xs xs ≡ true
unfolding same_letters
same_with_itself [] = refl
same_with_itself (x ∷ xs) = rw (same_letter x) (same_with_itself xs)

pub kept_itself : (v : Vector) → is_kept v v ≡ true
kept_itself v =
    let long : (length v.letters == length v.letters) ≡ true = grind (arith, nat_tests) in
    ap (λ b. b && same_letters v.letters v.letters) long ∙ same_with_itself v.letters

-- equal vectors have the same letters
pub same_kept : (u v : Vector) → vector_same u v ≡ true → is_kept u v ≡ true
same_kept u v same = ap (λ w. is_kept w v) ((vectors_tell u v).0 same) ∙ kept_itself v

not_news : (mark : Bool) (u v : Vector) → u ≡ v → is_news mark u v ≡ false
not_news true u v is = ap not (ap (λ w. is_kept w v) is ∙ kept_itself v)
not_news false u v is = refl

no_news : (n : ℕ) (value : Option Vector) (mark : Option Bool) (before : Option Vector) → value ≡ before → news n value mark before ≡ []
no_news n None mark before is = refl
no_news n (Some v) None before is = refl
no_news n (Some v) (Some mark) None is = refl
no_news n (Some v) (Some mark) (Some u) is = ap (λ b. cond b ((n, v) ∷ []) []) (not_news mark u v (let some : Some v ≡ Some u = is in cc))

-- ---- what is told from a place on

without_marks : (n : ℕ) (us vs : List Vector) → changes n [] us vs ≡ []
without_marks n us [] = refl
without_marks n us (v ∷ vs) = refl

without_old : (n : ℕ) (marks : List Bool) (vs : List Vector) → changes n marks [] vs ≡ []
without_old n marks [] = refl
without_old n [] (v ∷ vs) = refl
without_old n (mark ∷ marks) (v ∷ vs) = refl

none_marked : (n : ℕ) (value before : Option Vector) → news n value None before ≡ []
none_marked n None before = refl
none_marked n (Some v) before = refl

none_old : (n : ℕ) (value : Option Vector) (mark : Option Bool) → news n value mark None ≡ []
none_old n None mark = refl
none_old n (Some v) None = refl
none_old n (Some v) (Some mark) = refl

-- first the one there, then those behind it
first_told : (n : ℕ) (mark : Bool) (marks : List Bool) (u v : Vector) (us vs : List Vector) →
    changes n (mark ∷ marks) (u ∷ us) (v ∷ vs) ≡ news n (Some v) (Some mark) (Some u) ++ changes (suc n) marks us vs
first_told n mark marks u v us vs = by (is_news mark u v)
  where
    by : (b : Bool) → cond b ((n, v) ∷ changes (suc n) marks us vs) (changes (suc n) marks us vs) ≡ cond b ((n, v) ∷ []) [] ++ changes (suc n) marks us vs
    by true = refl
    by false = refl

told_at : (n k : ℕ) (marks : List Bool) (us vs : List Vector) →
    changes n (drop k marks) (drop k us) (drop k vs) ≡ news n (slice_get vs k) (slice_get marks k) (slice_get us k) ++ changes (suc n) (drop (suc k) marks) (drop (suc k) us) (drop (suc k) vs)
told_at n zero marks us [] = refl
told_at n zero [] us (v ∷ vs) = sym (without_marks (suc n) (drop 1 us) vs)
told_at n zero (mark ∷ marks) [] (v ∷ vs) = sym (without_old (suc n) marks vs)
told_at n zero (mark ∷ marks) (u ∷ us) (v ∷ vs) = first_told n mark marks u v us vs
told_at n (suc k) marks us [] = refl
told_at n (suc k) [] us (v ∷ vs) =
    without_marks n (drop (suc k) us) (drop k vs)
    ∙ sym (ap (λ told. told ++ changes (suc n) [] (drop (suc (suc k)) us) (drop (suc k) vs)) (none_marked n (slice_get vs k) (slice_get us (suc k)))
    ∙ without_marks (suc n) (drop (suc (suc k)) us) (drop (suc k) vs))
told_at n (suc k) (mark ∷ marks) [] (v ∷ vs) =
    without_old n (drop k marks) (drop k vs)
    ∙ sym (ap (λ told. told ++ changes (suc n) (drop (suc k) marks) [] (drop (suc k) vs)) (none_old n (slice_get vs k) (slice_get marks k))
    ∙ without_old (suc n) (drop (suc k) marks) (drop (suc k) vs))
told_at n (suc k) (mark ∷ marks) (u ∷ us) (v ∷ vs) = told_at n k marks us vs

module _ (marks : List Bool) (us vs : List Vector) where
  -- places where the values are the same are passed by
  skipped : (d n m : ℕ) → m ≡ d + n → ((k : ℕ) → n ≤ k → k < m → slice_get vs k ≡ slice_get us k) → changes_from n marks us vs ≡ changes_from m marks us vs
  skipped zero n m is same = ap (λ (k : ℕ). changes_from k marks us vs) (omega (arith, is))
  skipped (suc d) n m is same =
      let here : ℕ = d + n in
      let next : suc here ≡ m = omega (arith, is) in
      skipped d n here refl (λ k low high. same k low (omega (arith, high, next)))
      ∙ told_at here here marks us vs
      ∙ ap (λ told. told ++ changes_from (suc here) marks us vs)
      (no_news here (slice_get vs here) (slice_get marks here) (slice_get us here) (same here (omega arith) (omega (arith, next))))
      ∙ ap (λ (k : ℕ). changes_from k marks us vs) next

  -- up to the next one of the list
  next_told : (list : List ℕ) (from next : ℕ) → ChangesOnly (Some list) us vs → from ≤ next →
      ((n : ℕ) → is_between from (Some next) n ≡ true → is_in n list ≡ false) →
      changes_from from marks us vs ≡ change_at next marks us vs ++ changes_from (next + 1) marks us vs
  next_told list from next only le unlisted =
      skipped (next - from) from next (omega (arith, le)) (λ k low high. only.1 k (unlisted k (grind (arith, nat_tests))))
      ∙ told_at next next marks us vs
      ∙ ap (λ (n : ℕ). change_at next marks us vs ++ changes_from n marks us vs) (sym (add-one next))

  -- where none is left nothing is told
  nothing_told : (list : List ℕ) (from : ℕ) → ChangesOnly (Some list) us vs → ((n : ℕ) → is_between from None n ≡ true → is_in n list ≡ false) →
      changes_from from marks us vs ≡ []
  nothing_told list from only unlisted =
      let all : ℕ = length vs + from in
      skipped (length vs) from all refl (λ k low high. only.1 k (unlisted k (grind (arith, nat_tests))))
      ∙ ap (λ (rest : List Vector). changes all (drop all marks) (drop all us) rest) (drop_all all vs (omega arith))

-- ---- the text

lines_join : (xs ys : List (ℕ × Vector)) → value_lines (xs ++ ys) ≡ value_lines xs ++ value_lines ys
lines_join [] ys = refl
lines_join (x ∷ xs) ys =
    ap (λ text. value_line x.0 x.1 ++ text) (lines_join xs ys)
    ∙ sym (append_assoc (value_line x.0 x.1) (value_lines xs) (value_lines ys))

module _ (n : ℕ) (mark : Bool) (u v : Vector) (marks : List Bool) (us vs : List Vector) (mark_at : slice_get marks n ≡ Some mark) (old_at : slice_get us n ≡ Some u) (new_at : slice_get vs n ≡ Some v) where
  change_is : (is_told : Bool) → is_told ≡ is_news mark u v → change_at n marks us vs ≡ cond is_told ((n, v) ∷ []) []
  change_is is_told is =
      ap (λ value. news n value (slice_get marks n) (slice_get us n)) new_at
      ∙ ap (λ selected. news n (Some v) selected (slice_get us n)) mark_at
      ∙ ap (news n (Some v) (Some mark)) old_at
      ∙ ap (λ (b : Bool). cond b ((n, v) ∷ []) []) (sym is)

  -- the text with the line of one variable
  pub line_told : (text more : List ℕ) → true ≡ is_news mark u v → more ≡ text ++ value_line n v → more ≡ text ++ value_lines (change_at n marks us vs)
  line_told text more told grown =
      grown ∙ ap (λ (x : List ℕ). text ++ x) (sym (append-nil (value_line n v)) ∙ ap value_lines (sym (change_is true told)))

  -- without it, where its value is the same
  pub line_untold : (text : List ℕ) → false ≡ is_news mark u v → text ≡ text ++ value_lines (change_at n marks us vs)
  line_untold text told = sym (append-nil text) ∙ ap (λ (x : List ℕ). text ++ x) (ap value_lines (sym (change_is false told)))

-- the text with the next one of the list
pub listed_more : (marks : List Bool) (us vs : List Vector) (list : List ℕ) (from next : ℕ) (text more whole : List ℕ) → ChangesOnly (Some list) us vs →
    IsListed list from (Some next) → ((n : ℕ) → is_between from (Some next) n ≡ true → is_in n list ≡ false) →
    more ≡ text ++ value_lines (change_at next marks us vs) → text ++ value_lines (changes_from from marks us vs) ≡ whole →
    more ++ value_lines (changes_from (next + 1) marks us vs) ≡ whole
listed_more marks us vs list from next text more whole only listed unlisted grown so_far =
    let here : List (ℕ × Vector) = change_at next marks us vs in
    let later : List (ℕ × Vector) = changes_from (next + 1) marks us vs in
    ap (λ (x : List ℕ). x ++ value_lines later) grown
    ∙ append_assoc text (value_lines here) (value_lines later)
    ∙ ap (λ (x : List ℕ). text ++ x) (sym (lines_join here later) ∙ ap value_lines (sym (next_told marks us vs list from next only listed.0 unlisted)))
    ∙ so_far

-- the text where none of the list is left
pub listed_all : (marks : List Bool) (us vs : List Vector) (list : List ℕ) (from : ℕ) (text whole : List ℕ) → ChangesOnly (Some list) us vs →
    ((n : ℕ) → is_between from None n ≡ true → is_in n list ≡ false) → text ++ value_lines (changes_from from marks us vs) ≡ whole → text ≡ whole
listed_all marks us vs list from text whole only unlisted so_far =
    sym (append-nil text) ∙ ap (λ told. text ++ value_lines told) (sym (nothing_told marks us vs list from only unlisted)) ∙ so_far
