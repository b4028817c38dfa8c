-- Lines of values, and ends in their order.
use Rattle.std.proofs.Common.{◌≡◌, ◌≢◌, ℕ, ◌+◌, ◌-◌, ◌<◌, List, [], ◌∷◌, ◌++◌, length, slice_get, get_or, drop, Option, Some, None, arith, ap, refl, sym, subst, ◌∙◌, inl, inr, append-nil}
use Rattle.std.specs.Ordering.{nat_cmp}
use Rattle.std.specs.Cmp.Lexicographic.{slice_cmp}
use Rattle.std.proofs.lemmas.Bool.{cases_lt}
use Rattle.std.proofs.lemmas.Cmp.{nat_list_cmp_total, tied_itself}
use Rattle.std.specs.declared.cmp.Ordering.TheVariants.{Less, Equal}
use Rattle.sched_core.specs.BagLaws.{bags_total}
use Rattle.basis.proofs.Lists.{place_within, listed_place, left_from}
use Rattle.report_text.specs.Report.{Column, End}
use Rattle.report_text.specs.ReportText.{cause_word}
use Rattle.report_text.specs.WellFormed.{IsValue, IsLineOf, IsTextLess, IsPrintedLess, IsEndBefore}
use Rattle.report_text.specs.Inner.Ends.{IsAfterValue, IsMore, IsShownLess}
use Rattle.report_text.specs.Inner.Lists.{Listed}
use Rattle.report_text.proofs.WordLemmas.{cause_injective}

abbrev pub HasValues : Column → List Column → List ℕ → Type 0
HasValues column columns text = (rest : List ℕ) × IsAfterValue column.width text rest × IsMore columns rest

pub values_of_line : (column : Column) (columns : List Column) (text : List ℕ) → IsLineOf (column ∷ columns) text → HasValues column columns text
values_of_line column [] text h = ([], (text, h, sym (append-nil text)), refl)
values_of_line column (next ∷ columns) text (value, rest, is, line, e) =
    let more : HasValues next columns rest = values_of_line next columns rest line in
    (32 ∷ rest, (value, is, e), (more.0, (rest, refl, more.1), more.2))

pub line_of_values : (column : Column) (columns : List Column) (text : List ℕ) → HasValues column columns text → IsLineOf (column ∷ columns) text
line_of_values column [] text (rest, (value, is, e), end) = subst (IsValue column.width) (sym (e ∙ ap (λ t. value ++ t) end ∙ append-nil value)) is
line_of_values column (next ∷ columns) text (rest, (value, is, e), (after, (front, f, front_is), more)) = (value, front, is, line_of_values next columns front (after, front_is, more), e ∙ ap (λ t. value ++ t) f)

pub less_trans : (a b c : List ℕ) → IsTextLess a b → IsTextLess b c → IsTextLess a c
less_trans a b c = nat_list_cmp_total.trans a b c

printed_trans : (x y z : Option (List (List ℕ))) → IsPrintedLess x y → IsPrintedLess y z → IsPrintedLess x z
printed_trans (Some a) (Some b) (Some c) h k = bags_total.trans a b c h k
printed_trans (Some a) (Some b) None h k = absurd k
printed_trans (Some a) None z h k = absurd h
printed_trans None y z h k = absurd h

shown_trans : (a b c : End) → IsShownLess a b → IsShownLess b c → IsShownLess a c
shown_trans a b c (inl h) (inl k) = inl (less_trans a.line b.line c.line h k)
shown_trans a b c (inl h) (inr k) = inl (subst (λ x. IsTextLess a.line x) k.0 h)
shown_trans a b c (inr h) (inl k) = inl (subst (λ x. IsTextLess x c.line) (sym h.0) k)
shown_trans a b c (inr h) (inr k) = inr (h.0 ∙ k.0, printed_trans a.printed b.printed c.printed h.1 k.1)

pub end_before_trans : (a b c : End) → IsEndBefore a b → IsEndBefore b c → IsEndBefore a c
end_before_trans a b c (inl h) (inl k) = inl (omega (arith, h, k))
end_before_trans a b c (inl h) (inr k) = inl (omega (arith, h, k.0))
end_before_trans a b c (inr h) (inl k) = inl (omega (arith, h.0, k))
end_before_trans a b c (inr (s, inl h)) (inr (t, inl k)) = inr (s ∙ t, inl (less_trans (cause_word a.cause) (cause_word b.cause) (cause_word c.cause) h k))
end_before_trans a b c (inr (s, inl h)) (inr (t, inr k)) = inr (s ∙ t, inl (subst (λ x. IsTextLess (cause_word a.cause) (cause_word x)) k.0 h))
end_before_trans a b c (inr (s, inr h)) (inr (t, inl k)) = inr (s ∙ t, inl (subst (λ x. IsTextLess (cause_word x) (cause_word c.cause)) (sym h.0) k))
end_before_trans a b c (inr (s, inr h)) (inr (t, inr k)) = inr (s ∙ t, inr (h.0 ∙ k.0, shown_trans a b c h.1 k.1))

-- what stands behind the last stands behind all
pub behind_all : {A : Type 0} (P : A → Type 0) (Q : A → A → Type 0) → ((a b c : A) → Q a b → Q b c → Q a c) → (xs : List A) (y : A) → Listed P Q xs →
    ((before : A) → slice_get xs (length xs - 1) ≡ Some before → Q before y) → (i : ℕ) (x : A) → slice_get xs i ≡ Some x → Q x y
behind_all P Q trans xs y h last i x e = elim (cases_lt i (length xs - 1)) [
  | inl before ↦ (let w = place_within xs i x e in let l = listed_place xs (length xs - 1) (omega (arith, w)) in trans x l.0 y (h.1 i (length xs - 1) x l.0 before e l.1) (last l.0 l.1))
  | inr behind ↦ (let w = place_within xs i x e in let same : i ≡ length xs - 1 = omega (arith, w, behind) in last x (subst (λ k. slice_get xs k ≡ Some x) same e))
]

pub later_end : (a b : End) → a.time ≢ b.time → IsEndBefore a b → a.time < b.time
later_end a b n (inl h) = h
later_end a b n (inr h) = absurd (n h.0)

not_less : (xs ys : List ℕ) → xs ≡ ys → IsTextLess xs ys → ⊥
not_less xs ys e l = let self : slice_cmp nat_cmp xs xs ≡ Equal = tied_itself nat_list_cmp_total xs in let l2 : slice_cmp nat_cmp xs xs ≡ Less = subst (λ z. slice_cmp nat_cmp xs z ≡ Less) (sym e) l in absurd cc

pub same_cause_end : (a b : End) → a.time ≡ b.time → cause_word a.cause ≡ cause_word b.cause → (IsShownLess a b → IsEndBefore a b) × (IsEndBefore a b → IsShownLess a b)
same_cause_end a b t w = (
  λ h. inr (t, inr (cause_injective a.cause b.cause w, h)),
  λ h. same_cause h,
)
  where
    same_cause : IsEndBefore a b → IsShownLess a b
    same_cause (inl h) = absurd (omega (arith, h, t))
    same_cause (inr (s, inl h)) = absurd (not_less _ _ w h)
    same_cause (inr (s, inr h)) = h.1

pub same_line_shown : (a b : End) → a.line ≡ b.line → (IsPrintedLess a.printed b.printed → IsShownLess a b) × (IsShownLess a b → IsPrintedLess a.printed b.printed)
same_line_shown a b e = (λ h. inr (e, h), λ h. same h)
  where
    same : IsShownLess a b → IsPrintedLess a.printed b.printed
    same (inl h) = absurd (not_less _ _ e h)
    same (inr h) = h.1

pub other_line_shown : (a b : End) → a.line ≢ b.line → (IsTextLess a.line b.line → IsShownLess a b) × (IsShownLess a b → IsTextLess a.line b.line)
other_line_shown a b n = (λ h. inl h, λ h. other h)
  where
    other : IsShownLess a b → IsTextLess a.line b.line
    other (inl h) = h
    other (inr h) = absurd (n h.0)

pub other_cause_end : (a b : End) → a.time ≡ b.time → cause_word a.cause ≢ cause_word b.cause → (IsTextLess (cause_word a.cause) (cause_word b.cause) → IsEndBefore a b) × (IsEndBefore a b → IsTextLess (cause_word a.cause) (cause_word b.cause))
other_cause_end a b t w = (λ h. inr (t, inl h), λ h. other h)
  where
    other : IsEndBefore a b → IsTextLess (cause_word a.cause) (cause_word b.cause)
    other (inl h) = absurd (omega (arith, h, t))
    other (inr (s, inl h)) = h
    other (inr (s, inr h)) = absurd (w (ap cause_word h.0))

pub columns_are : (columns more : List Column) (first : Column) (line : List ℕ) → columns ≡ first ∷ more → (IsLineOf columns line → HasValues first more line) × (HasValues first more line → IsLineOf columns line)
columns_are columns more first line e = (
  λ h. values_of_line first more line (subst (λ cs. IsLineOf cs line) e h),
  λ h. subst (λ cs. IsLineOf cs line) (sym e) (line_of_values first more line h),
)

pub more_from : (columns : List Column) (i : ℕ) (column : Column) (text : List ℕ) → column ≡ get_or columns i column → i < length columns →
    (IsMore (drop i columns) text → IsMore (column ∷ drop (i + 1) columns) text) × (IsMore (column ∷ drop (i + 1) columns) text → IsMore (drop i columns) text)
more_from columns i column text is lt = (
  λ h. subst (λ cs. IsMore cs text) (sym (left_from columns i column is lt)) h,
  λ h. subst (λ cs. IsMore cs text) (left_from columns i column is lt) h,
)
