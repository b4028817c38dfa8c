-- The order of rows.
use Rattle.std.proofs.Common.{◌≡◌, ℕ, zero, suc, ◌+◌, ◌-◌, ◌<◌, ◌≤◌, ◌⊎◌, true, false, List, length, slice_get, get_or, Option, Some, None, refl, sym, ap, ◌∙◌, subst, inl, inr, arith}
use Rattle.std.specs.Cmp.{IsTotalOrder}
use Rattle.std.specs.Cmp.Lexicographic.{slice_cmp, options_total}
use Rattle.std.specs.Option.{option_cmp}
use Rattle.std.specs.Ordering.{nat_cmp, is_lt, is_eq, ordering_then, ordering_reverse}
use Rattle.std.specs.List.Sorted.{IsSorted}
use Rattle.std.specs.declared.cmp.Ordering.{Ordering}
use Rattle.std.specs.declared.cmp.Ordering.TheVariants.{Less, Equal, Greater}
use Rattle.std.proofs.lemmas.Cmp.{nat_cmp_total, nat_list_cmp_total, on_total, then_total, tied_itself}
use Rattle.std.proofs.lemmas.Map.Text.{is_eq-slice_cmp}
use Rattle.std.proofs.lemmas.Slice.Eq.{bytes_eq-Decides}
use Rattle.std.proofs.lemmas.Option.{slice_get_within, get_or_from_slice_get}
use Rattle.basis.proofs.Numbers.{equal_numbers, less_numbers}
use Rattle.sched_core.specs.Bags.{bag_cmp}
use Rattle.sched_core.specs.BagLaws.{bags_tie, bags_total, lines_tell}
use Rattle.vreport.specs.declared.row.Row.{Row}
use Rattle.vreport.specs.Inner.{AreSortedRows, IsNotAfter, key_cmp}

-- ---- any total order

module _ {K : Type 0} (R : K → K → Ordering) (total : IsTotalOrder R) where
  abbrev NotAfter : K → K → Type 0
  NotAfter x y = is_lt (R y x) ≡ false

  through : (x y z : K) (o p : Ordering) → R z x ≡ o → R z y ≡ p → NotAfter x y → NotAfter y z → is_lt o ≡ false
  through x y z Equal p e f h k = refl
  through x y z Greater p e f h k = refl
  through x y z Less Less e f h k = absurd (let bad : is_lt (R z y) ≡ true = ap is_lt f in cc)
  through x y z Less Equal e f h k =
      let less : R y x ≡ Less = sym (total.congr z y x f) ∙ e in
      absurd (let bad : is_lt (R y x) ≡ true = ap is_lt less in cc)
  through x y z Less Greater e f h k =
      let up : R y z ≡ Less = total.antisymm y z ∙ ap ordering_reverse f in
      let less : R y x ≡ Less = total.trans y z x up e in
      absurd (let bad : is_lt (R y x) ≡ true = ap is_lt less in cc)

  not_after_trans : (x y z : K) → NotAfter x y → NotAfter y z → NotAfter x z
  not_after_trans x y z h k = through x y z (R z x) (R z y) refl refl h k

  -- what stands in order by neighbours does so by any two
  far : (xs : List K) (d : K) → IsSorted R xs → (i n : ℕ) → i + suc n < length xs → NotAfter (get_or xs i d) (get_or xs (i + suc n) d)
  far xs d sorted i zero lt =
      let e : i + 1 ≡ i + suc zero = omega arith in
      subst (λ m. NotAfter (get_or xs i d) (get_or xs m d)) e (sorted i d (omega arith) (subst (λ m. m < length xs) (sym e) lt))
  far xs d sorted i (suc n) lt =
      let h : NotAfter (get_or xs i d) (get_or xs (i + suc n) d) = far xs d sorted i n (omega (arith, lt)) in
      let e : (i + suc n) + 1 ≡ i + suc (suc n) = omega arith in
      let near : NotAfter (get_or xs (i + suc n) d) (get_or xs ((i + suc n) + 1) d) = sorted (i + suc n) d (omega arith) (subst (λ m. m < length xs) (sym e) lt) in
      not_after_trans (get_or xs i d) (get_or xs (i + suc n) d) (get_or xs (i + suc (suc n)) d) h (subst (λ m. NotAfter (get_or xs (i + suc n) d) (get_or xs m d)) e near)

  pub any_two : (xs : List K) → IsSorted R xs → (i j : ℕ) (x y : K) → i < j → slice_get xs i ≡ Some x → slice_get xs j ≡ Some y → is_lt (R y x) ≡ false
  any_two xs sorted i j x y lt at at' =
      let e : i + suc (j - suc i) ≡ j = omega arith in
      let within : j < length xs = slice_get_within xs j y at' in
      let h : NotAfter (get_or xs i x) (get_or xs j x) = subst (λ m. NotAfter (get_or xs i x) (get_or xs m x)) e (far xs x sorted i (j - suc i) (subst (λ m. m < length xs) (sym e) within)) in
      let p : get_or xs i x ≡ x = get_or_from_slice_get xs i x x at in
      let q : get_or xs j x ≡ y = get_or_from_slice_get xs j y x at' in
      subst (λ (b : K). NotAfter x b) q (subst (λ (a : K). NotAfter a (get_or xs j x)) p h)

-- ---- rows

-- by time, then by the order of causes, then by the line, then by the printed lines
abbrev pub IsKeyBefore : Row → Row → Type 0
IsKeyBefore r s =
    (r.time < s.time)
    ⊎ ((r.time ≡ s.time) × ((r.cause < s.cause)
    ⊎ ((r.cause ≡ s.cause) × ((slice_cmp nat_cmp r.line.items s.line.items ≡ Less)
    ⊎ ((r.line.items ≡ s.line.items) × (option_cmp bag_cmp r.printed s.printed ≡ Less))))))

abbrev pub row_cmp : Row → Row → Ordering
row_cmp r s =
    ordering_then (nat_cmp r.time s.time) (ordering_then (nat_cmp r.cause s.cause)
    (ordering_then (slice_cmp nat_cmp r.line.items s.line.items) (ordering_then (option_cmp bag_cmp r.printed s.printed)
    (ordering_then (nat_cmp r.departures s.departures) (nat_cmp r.place s.place)))))

printed_total : IsTotalOrder (option_cmp bag_cmp)
printed_total = options_total bags_total

row_total : IsTotalOrder row_cmp
row_total =
    then_total (on_total (λ (r : Row). r.time) nat_cmp_total) (then_total (on_total (λ (r : Row). r.cause) nat_cmp_total)
    (then_total (on_total (λ (r : Row). r.line.items) nat_list_cmp_total) (then_total (on_total (λ (r : Row). r.printed) printed_total)
    (then_total (on_total (λ (r : Row). r.departures) nat_cmp_total) (on_total (λ (r : Row). r.place) nat_cmp_total)))))

pub key_total : IsTotalOrder key_cmp
key_total =
    then_total (on_total (λ (r : Row). r.time) nat_cmp_total) (then_total (on_total (λ (r : Row). r.cause) nat_cmp_total)
    (then_total (on_total (λ (r : Row). r.line.items) nat_list_cmp_total) (on_total (λ (r : Row). r.printed) printed_total)))

equal_lines : (a b : List ℕ) → slice_cmp nat_cmp a b ≡ Equal → a ≡ b
equal_lines a b e = (bytes_eq-Decides a b).0 (sym (is_eq-slice_cmp a b) ∙ ap is_eq e)

equal_printed : (a b : Option (List (List ℕ))) → option_cmp bag_cmp a b ≡ Equal → a ≡ b
equal_printed None None e = refl
equal_printed None (Some b) e = absurd (cc)
equal_printed (Some a) None e = absurd (cc)
equal_printed (Some a) (Some b) e = ap Some ((lines_tell a b).0 (bags_tie a b ∙ ap is_eq e))

-- what is alike by two orders, one after the other, is by each; what stands before by them does by the first that tells
pub then_alike : (o p : Ordering) → ordering_then o p ≡ Equal → (o ≡ Equal) × (p ≡ Equal)
then_alike Less p e = absurd (cc)
then_alike Equal p e = (refl, e)
then_alike Greater p e = absurd (cc)

then_before : (o p : Ordering) → ordering_then o p ≡ Less → (o ≡ Less) ⊎ ((o ≡ Equal) × (p ≡ Less))
then_before Less p e = inl refl
then_before Equal p e = inr (refl, e)
then_before Greater p e = absurd (cc)

-- four orders, one after the other, and then one more
then_last : (o p q u v : Ordering) →
    ordering_then o (ordering_then p (ordering_then q (ordering_then u v))) ≡ ordering_then (ordering_then o (ordering_then p (ordering_then q u))) v
then_last Less p q u v = refl
then_last Greater p q u v = refl
then_last Equal Less q u v = refl
then_last Equal Greater q u v = refl
then_last Equal Equal Less u v = refl
then_last Equal Equal Greater u v = refl
then_last Equal Equal Equal u v = refl

row_is : (r s : Row) → row_cmp r s ≡ ordering_then (key_cmp r s) (ordering_then (nat_cmp r.departures s.departures) (nat_cmp r.place s.place))
row_is r s =
    then_last (nat_cmp r.time s.time) (nat_cmp r.cause s.cause) (slice_cmp nat_cmp r.line.items s.line.items) (option_cmp bag_cmp r.printed s.printed)
    (ordering_then (nat_cmp r.departures s.departures) (nat_cmp r.place s.place))

-- what decides first, decides
by_key : (r s : Row) (o u : Ordering) → key_cmp s r ≡ o → nat_cmp s.departures r.departures ≡ u → is_lt (ordering_then o (ordering_then u (nat_cmp s.place r.place))) ≡ false →
    (key_cmp s r ≡ Greater) ⊎ ((key_cmp s r ≡ Equal) × (r.departures ≤ s.departures))
by_key r s Greater u e f up = inl e
by_key r s Less u e f up = absurd (cc)
by_key r s Equal Less e f up = absurd (cc)
by_key r s Equal Equal e f up =
    let same : r.departures ≡ s.departures = sym (equal_numbers s.departures r.departures f) in
    inr (e, omega arith)
by_key r s Equal Greater e f up =
    let less : r.departures < s.departures = less_numbers r.departures s.departures (nat_cmp_total.antisymm r.departures s.departures ∙ ap ordering_reverse f) in
    inr (e, omega arith)

turned : (r s : Row) → (key_cmp s r ≡ Greater) ⊎ ((key_cmp s r ≡ Equal) × (r.departures ≤ s.departures)) → IsNotAfter r s
turned r s (inl after) = inl (key_total.antisymm r s ∙ ap ordering_reverse after)
turned r s (inr (same, le)) = inr (key_total.antisymm r s ∙ ap ordering_reverse same, le)

pub rows_sorted : (rows : List Row) → IsSorted row_cmp rows → AreSortedRows rows
rows_sorted rows sorted = λ i j r s lt at at'. turned r s (
    by_key r s (key_cmp s r) (nat_cmp s.departures r.departures) refl refl
    (subst (λ (o : Ordering). is_lt o ≡ false) (row_is s r) (any_two row_cmp row_total rows sorted i j r s lt at at')))

-- ---- rows of one end

pub record SameKey (r s : Row) : Type 0 where
  pub time_same : r.time ≡ s.time
  pub cause_same : r.cause ≡ s.cause
  pub line_same : r.line.items ≡ s.line.items
  pub printed_same : r.printed ≡ s.printed

pub same_key : (r s : Row) → key_cmp r s ≡ Equal → SameKey r s
same_key r s h =
    let time = then_alike (nat_cmp r.time s.time) _ h in
    let cause = then_alike (nat_cmp r.cause s.cause) _ time.1 in
    let lines = then_alike (slice_cmp nat_cmp r.line.items s.line.items) (option_cmp bag_cmp r.printed s.printed) cause.1 in
    record {
      time_same = equal_numbers r.time s.time time.0;
      cause_same = equal_numbers r.cause s.cause cause.0;
      line_same = equal_lines r.line.items s.line.items lines.0;
      printed_same = equal_printed r.printed s.printed lines.1;
    }

pub key_same : (r s : Row) → SameKey r s → key_cmp r s ≡ Equal
key_same r s h = told r.time r.cause r.line.items r.printed h.time_same h.cause_same h.line_same h.printed_same ∙ tied_itself key_total s
  where
    told : (time cause : ℕ) (line : List ℕ) (printed : Option (List (List ℕ))) → time ≡ s.time → cause ≡ s.cause → line ≡ s.line.items → printed ≡ s.printed →
        ordering_then (nat_cmp time s.time) (ordering_then (nat_cmp cause s.cause) (ordering_then (slice_cmp nat_cmp line s.line.items) (option_cmp bag_cmp printed s.printed)))
        ≡ key_cmp s s
    told time cause line printed e f g h = λ i.
        ordering_then (nat_cmp (e i) s.time) (ordering_then (nat_cmp (f i) s.cause)
        (ordering_then (slice_cmp nat_cmp (g i) s.line.items) (option_cmp bag_cmp (h i) s.printed)))

pub key_before : (r s : Row) → key_cmp r s ≡ Less → IsKeyBefore r s
key_before r s h = elim (then_before (nat_cmp r.time s.time) _ h) [
  | inl time ↦ inl (less_numbers r.time s.time time)
  | inr at ↦ inr (
    equal_numbers r.time s.time at.0,
    elim (then_before (nat_cmp r.cause s.cause) _ at.1) [
      | inl cause ↦ inl (less_numbers r.cause s.cause cause)
      | inr by ↦ inr (
        equal_numbers r.cause s.cause by.0,
        elim (then_before (slice_cmp nat_cmp r.line.items s.line.items) (option_cmp bag_cmp r.printed s.printed) by.1) [
          | inl lines ↦ inl lines
          | inr alike ↦ inr (equal_lines r.line.items s.line.items alike.0, alike.1)
        ],
      )
    ],
  )
]

-- what stands between two rows of one end is of that end
between : {K : Type 0} (R : K → K → Ordering) → IsTotalOrder R → (x y z : K) → R x z ≡ Equal → (R x y ≡ Less) ⊎ (R x y ≡ Equal) → (R y z ≡ Less) ⊎ (R y z ≡ Equal) → R y z ≡ Equal
between R total x y z e first (inr same) = same
between R total x y z e (inr same) (inl less) = sym (total.congr x y z same) ∙ e
between R total x y z e (inl less) (inl less') = absurd (let bad : R x z ≡ Less = total.trans x y z less less' in cc)

no_more : (r s : Row) → IsNotAfter r s → (key_cmp r s ≡ Less) ⊎ (key_cmp r s ≡ Equal)
no_more r s (inl less) = inl less
no_more r s (inr (same, le)) = inr same

pub key_between : (r s t : Row) → key_cmp r t ≡ Equal → IsNotAfter r s → IsNotAfter s t → key_cmp s t ≡ Equal
key_between r s t e p q = between key_cmp key_total r s t e (no_more r s p) (no_more s t q)
