-- What begins with a digit: a plain number, or a size and a based number.
use Rattle.std.proofs.Common.{◌≡◌, ◌≢◌, ℕ, zero, suc, ◌+◌, ◌-◌, ◌<◌, ◌≤◌, true, false, cond, ◌&&◌, ◌||◌, not, nat_eq, List, [], ◌∷◌, ◌++◌, None, Some, length, take, drop, get_or, refl, sym, ◌∙◌, ap, subst, arith, inl, inr}
use Rattle.std.specs.List.{list_all, prefix_len}
use Rattle.std.proofs.Math.Seq.{take-append_seam, take-append-add, drop-append_seam, drop-append-add}
use Rattle.std.proofs.lemmas.Bool.{eqb-true, ne_eqb, cases_Bool}
use Rattle.std.proofs.lemmas.List.{append-nil, length-append}
use Rattle.std.proofs.Math.ListN.{drop_of_length-le}
use Rattle.basis.proofs.Bools.{and_left, and_false}
use Rattle.vlex.specs.declared.bytes.Set.TheVariants.{Blanks, Words, Decimals}
use Rattle.vlex.specs.declared.bytes.Lead.TheVariants as lead
use Rattle.vlex.specs.declared.form.Form.TheVariants.{Token}
use Rattle.vlex.specs.declared.kind.TokenKind.TheVariants.{Plain, Based}
use Rattle.std.specs.Char.{is_ascii_digit}
use Rattle.vlex.specs.Bytes.{is_in, lead_of}
use Rattle.vlex.specs.Forms.{only_if, form_of, form_by, number_form, number_by, is_size, is_based, is_unsized, skip_blanks}
use Rattle.vlex.specs.Inner.{IsLongest, IsAnswer, alone}
use Rattle.vlex.specs.Lexed.{IsFront, IsStuck, is_free}
use Rattle.vlex.proofs.Pieces.{IsLongestForm, front_of_longest, not_open, stuck_if_barred}
use Rattle.vlex.proofs.Leads.{blank_no_digit}
use Rattle.vlex.proofs.Runs.{run_ends, run_taken}

-- The forms of digits, and of digits with more behind them

form_split : (ds t : List ℕ) → list_all (is_in Decimals) ds ≡ true → (0 < length t → is_in Decimals (get_or t 0 0) ≡ false) → number_form (ds ++ t) ≡ number_by ds t
form_split ds t all stops =
    let run : prefix_len (is_in Decimals) (ds ++ t) ≡ length ds = run_ends (is_in Decimals) ds t all stops in
    ap (λ n. number_by (take n (ds ++ t)) (drop n (ds ++ t))) run
    ∙ ap (λ l. number_by l (drop (length ds) (ds ++ t))) (take-append_seam ds t) ∙ ap (number_by ds) (drop-append_seam ds t)

form_plain : (ds : List ℕ) → list_all (is_in Decimals) ds ≡ true → number_form ds ≡ Some (Token Plain)
form_plain ds all =
    let run : prefix_len (is_in Decimals) ds ≡ length ds = ap (prefix_len (is_in Decimals)) (sym (append-nil ds)) ∙ run_ends (is_in Decimals) ds [] all (λ some. absurd (omega arith)) in
    ap (λ n. number_by (take n ds) (drop n ds)) run ∙ ap (number_by (take (length ds) ds)) (drop_of_length-le ds (omega arith))

-- digits, and a front of what stands behind them
form_sized : (ds tail : List ℕ) (n : ℕ) → list_all (is_in Decimals) ds ≡ true → (0 < length tail → is_in Decimals (get_or tail 0 0) ≡ false) → n < length tail
    → number_form (ds ++ take (suc n) tail) ≡ only_if (is_size ds && is_unsized (take (suc n - prefix_len (is_in Blanks) tail) (skip_blanks tail))) (Token Based)
form_sized ds [] n all stops lt = absurd (omega arith)
form_sized ds (x ∷ ys) n all stops lt =
    form_split ds (x ∷ take n ys) all (λ some. stops (omega arith))
    ∙ ap (λ l. only_if (is_size ds && is_unsized l) (Token Based)) (run_taken (is_in Blanks) (x ∷ ys) (suc n))

-- The digits of a text, from a first one on, and what stands behind them

module _ (c : ℕ) (digits tail : List ℕ) (lead : lead_of c ≡ lead.Digit) (all : list_all (is_in Decimals) (c ∷ digits) ≡ true) where
  told : (cs : List ℕ) → form_of (c ∷ cs) ≡ number_form (c ∷ cs)
  told cs = ap (λ l. form_by l c cs) lead

  -- a front that goes over the digits
  over : (n : ℕ) → length (c ∷ digits) ≤ n → form_of (take n (c ∷ digits ++ tail)) ≡ number_form (c ∷ digits ++ take (n - length (c ∷ digits)) tail)
  over n le =
      let sum : n ≡ length (c ∷ digits) + (n - length (c ∷ digits)) = omega arith in
      ap (λ k. form_of (take k (c ∷ digits ++ tail))) sum
      ∙ ap form_of (take-append-add (c ∷ digits) tail (n - length (c ∷ digits)))
      ∙ told (digits ++ take (n - length (c ∷ digits)) tail)

  -- nothing longer than the digits is a number
  pub plain_longest : ((n : ℕ) → n < length tail → number_form (c ∷ digits ++ take (suc n) tail) ≡ None) → IsLongestForm (c ∷ digits ++ tail) (Token Plain) (length (c ∷ digits))
  plain_longest none = record {
    within = omega (arith, length-append (c ∷ digits) tail);
    shape = ap form_of (take-append_seam (c ∷ digits) tail) ∙ told digits ∙ form_plain (c ∷ digits) all;
    longest = λ n lt le.
        let less : n - length (c ∷ digits) ≡ suc (n - length (c ∷ digits) - 1) = omega arith in
        let short : n - length (c ∷ digits) - 1 < length tail = omega (arith, length-append (c ∷ digits) tail) in
        over n (omega arith) ∙ ap (λ k. number_form (c ∷ digits ++ take k tail)) less ∙ none (n - length (c ∷ digits) - 1) short;
  }

free_plain : (first x : ℕ) (zs : List ℕ) → nat_eq x 39 ≡ false → is_free (Token Plain) first (x ∷ zs) ≡ true
free_plain first x zs other = ap not other

pub free_based : (first : ℕ) (zs : List ℕ) (len : ℕ) → is_free (Token Based) first (drop len zs) ≡ not (is_in Words (get_or zs len 0))
free_based first [] zero = refl
free_based first [] (suc len) = refl
free_based first (x ∷ zs) zero = refl
free_based first (x ∷ zs) (suc len) = free_based first zs len

-- nothing without an apostrophe at its head is a number without size
no_base : (behind : List ℕ) (n : ℕ) → get_or behind 0 0 ≢ 39 → is_unsized (take n behind) ≡ false
no_base behind zero other = refl
no_base [] (suc n) other = refl
no_base (x ∷ xs) (suc n) other = ap (λ b. b && is_based (take n xs)) (ne_eqb x 39 other)

blank_not_apostrophe : (b : ℕ) → is_in Blanks b ≡ true → nat_eq b 39 ≡ false
blank_not_apostrophe b blank = elim (cases_Bool (nat_eq b 39)) [
  | inl same ↦ let clash : false ≡ true = sym (ap (is_in Blanks) (eqb-true b 39 same)) ∙ blank in cc
  | inr other ↦ other
]

-- digits with no apostrophe behind them, nor behind blanks behind them
pub plain_number : (c : ℕ) (digits tail : List ℕ) (whole : ℕ) → lead_of c ≡ lead.Digit → list_all (is_in Decimals) (c ∷ digits) ≡ true
    → whole ≡ 1 + length digits → (0 < length tail → is_in Decimals (get_or tail 0 0) ≡ false) → get_or (skip_blanks tail) 0 0 ≢ 39 → IsFront (c ∷ digits ++ tail) (Token Plain) whole
plain_number c digits tail whole first all sum stops other =
    let same : whole ≡ length (c ∷ digits) = omega (arith, sum) in
    let behind : drop (length (c ∷ digits)) (c ∷ digits ++ tail) ≡ tail = drop-append_seam (c ∷ digits) tail in
    subst (IsFront (c ∷ digits ++ tail) (Token Plain)) (sym same)
    (front_of_longest (c ∷ digits ++ tail) (Token Plain) (length (c ∷ digits)) (plain_longest c digits tail first all none) (ap (is_free (Token Plain) c) behind ∙ free tail other))
  where
    none : (n : ℕ) → n < length tail → number_form (c ∷ digits ++ take (suc n) tail) ≡ None
    none n lt =
        form_sized (c ∷ digits) tail n all stops lt
        ∙ ap (λ b. only_if (is_size (c ∷ digits) && b) (Token Based)) (no_base (skip_blanks tail) (suc n - prefix_len (is_in Blanks) tail) other)
        ∙ ap (λ b. only_if b (Token Based)) (and_false (is_size (c ∷ digits)))

    free : (tail : List ℕ) → get_or (skip_blanks tail) 0 0 ≢ 39 → is_free (Token Plain) c tail ≡ true
    free [] other = refl
    free (x ∷ zs) other = elim (cases_Bool (is_in Blanks x)) [
      | inl blank ↦ free_plain c x zs (blank_not_apostrophe x blank)
      | inr mark ↦ free_plain c x zs (ne_eqb x 39 (λ is. other (ap (λ b. get_or (drop (cond b (1 + prefix_len (is_in Blanks) zs) 0) (x ∷ zs)) 0 0) mark ∙ is)))
    ]

blank_not_decimal : (b : ℕ) → is_in Blanks b ≡ true → is_in Decimals b ≡ false
blank_not_decimal b blank = elim (cases_Bool (nat_eq b 95)) [
  | inl same ↦ let clash : false ≡ true = sym (ap (is_in Blanks) (eqb-true b 95 same)) ∙ blank in cc
  | inr other ↦ rw (blank_no_digit b blank, other) refl
]

-- an apostrophe behind digits and blanks, or none of these
module _ (c : ℕ) (digits blanks zs : List ℕ) (first : lead_of c ≡ lead.Digit) (all : list_all (is_in Decimals) (c ∷ digits) ≡ true) (blank : list_all (is_in Blanks) blanks ≡ true) where
  abbrev pub tail : List ℕ
  tail = blanks ++ 39 ∷ zs

  stops : (bs : List ℕ) → list_all (is_in Blanks) bs ≡ true → is_in Decimals (get_or (bs ++ 39 ∷ zs) 0 0) ≡ false
  stops [] h = refl
  stops (b ∷ bs) h = blank_not_decimal b (and_left (is_in Blanks b) (list_all (is_in Blanks) bs) h)

  run : prefix_len (is_in Blanks) tail ≡ length blanks
  run = run_ends (is_in Blanks) blanks (39 ∷ zs) blank (λ some. refl)

  behind_blanks : skip_blanks tail ≡ 39 ∷ zs
  behind_blanks = ap (λ n. drop n tail) run ∙ drop-append_seam blanks (39 ∷ zs)

  form_by_base : (n : ℕ) → n < length tail
      → number_form (c ∷ digits ++ take (suc n) tail) ≡ only_if (is_size (c ∷ digits) && is_unsized (take (suc n - length blanks) (39 ∷ zs))) (Token Based)
  form_by_base n lt =
      form_sized (c ∷ digits) tail n all (λ some. stops blanks blank) lt
      ∙ ap (λ k. only_if (is_size (c ∷ digits) && is_unsized (take (suc n - k) (skip_blanks tail))) (Token Based)) run
      ∙ ap (λ l. only_if (is_size (c ∷ digits) && is_unsized (take (suc n - length blanks) l)) (Token Based)) behind_blanks

  -- digits that are no size, or with no base and digits behind the apostrophe
  pub unsized : ((n : ℕ) → (is_size (c ∷ digits) && is_based (take n zs)) ≡ false) → IsAnswer (c ∷ digits ++ tail) (alone (length digits) (length blanks))
  unsized fails = by blanks refl
    where
      none_by : (k : ℕ) → (is_size (c ∷ digits) && is_unsized (take k (39 ∷ zs))) ≡ false
      none_by zero = and_false (is_size (c ∷ digits))
      none_by (suc k) = fails k

      none : (n : ℕ) → n < length tail → number_form (c ∷ digits ++ take (suc n) tail) ≡ None
      none n lt = form_by_base n lt ∙ ap (λ b. only_if b (Token Based)) (none_by (suc n - length blanks))

      behind : drop (length (c ∷ digits)) (c ∷ digits ++ tail) ≡ tail
      behind = drop-append_seam (c ∷ digits) tail

      by : (bs : List ℕ) → bs ≡ blanks → IsAnswer (c ∷ digits ++ tail) (alone (length digits) (length bs))
      by [] is = (
        stuck_if_barred (c ∷ digits ++ tail) (Token Plain) (length (c ∷ digits)) (plain_longest c digits tail first all none)
            (ap (is_free (Token Plain) c) (behind ∙ ap (λ l. l ++ 39 ∷ zs) (sym is))),
        not_open c (digits ++ tail) lead.Digit first (λ (e : lead.Quote ≡ lead.Digit). cc) (λ (e : lead.Slash ≡ lead.Digit). cc),
      )
      by (b ∷ bs) is =
          let same : 1 + length digits ≡ length (c ∷ digits) = omega arith in
          let here : is_in Blanks b ≡ true = and_left (is_in Blanks b) (list_all (is_in Blanks) bs) (ap (list_all (is_in Blanks)) is ∙ blank) in
          subst (IsFront (c ∷ digits ++ tail) (Token Plain)) (sym same)
          (front_of_longest (c ∷ digits ++ tail) (Token Plain) (length (c ∷ digits)) (plain_longest c digits tail first all none)
          (ap (is_free (Token Plain) c) (behind ∙ ap (λ l. l ++ 39 ∷ zs) (sym is)) ∙ free_plain c b (bs ++ 39 ∷ zs) (blank_not_apostrophe b here)))

  based_longest : (len : ℕ) → is_size (c ∷ digits) ≡ true → IsLongest is_based zs len
      → IsLongestForm (c ∷ digits ++ tail) (Token Based) (length (c ∷ digits) + suc (length blanks + len))
  based_longest len size l = record {
    within = omega (arith, l.within, length-append (c ∷ digits) tail, length-append blanks (39 ∷ zs));
    shape = shown len (omega (arith, l.within, length-append blanks (39 ∷ zs))) ∙ ap (λ b. only_if b (Token Based)) l.passes;
    longest = λ n lt le.
        let m : ℕ = n - length (c ∷ digits) - 1 - length blanks in
        let whole : n ≡ length (c ∷ digits) + suc (length blanks + m) = omega arith in
        let past : len < m = omega arith in
        let short : m ≤ length zs = omega (arith, length-append (c ∷ digits) tail, length-append blanks (39 ∷ zs)) in
        ap (λ k. form_of (take k (c ∷ digits ++ tail))) whole ∙ shown m (omega (arith, short, length-append blanks (39 ∷ zs)))
        ∙ ap (λ b. only_if b (Token Based)) (l.longest m past short);
  } where
    shown : (m : ℕ) → length blanks + m < length tail → form_of (take (length (c ∷ digits) + suc (length blanks + m)) (c ∷ digits ++ tail)) ≡ only_if (is_based (take m zs)) (Token Based)
    shown m lt =
        let less : suc (length blanks + m) - length blanks ≡ suc m = omega arith in
        ap form_of (take-append-add (c ∷ digits) tail (suc (length blanks + m)))
        ∙ told c digits tail first all (digits ++ take (suc (length blanks + m)) tail)
        ∙ form_by_base (length blanks + m) lt
        ∙ ap (λ k. only_if (is_size (c ∷ digits) && is_unsized (take k (39 ∷ zs))) (Token Based)) less
        ∙ ap (λ b. only_if (b && is_based (take m zs)) (Token Based)) size

  behind_based : (len : ℕ) → is_free (Token Based) c (drop (length (c ∷ digits) + suc (length blanks + len)) (c ∷ digits ++ tail)) ≡ not (is_in Words (get_or zs len 0))
  behind_based len =
      let sum : suc (length blanks + len) ≡ length blanks + suc len = omega arith in
      ap (is_free (Token Based) c) (drop-append-add (c ∷ digits) tail (suc (length blanks + len)) ∙ ap (λ k. drop k tail) sum ∙ drop-append-add blanks (39 ∷ zs) (suc len))
      ∙ free_based c zs len

  pub sized_number : (len whole : ℕ) → whole ≡ 2 + (length digits + length blanks) + len → is_size (c ∷ digits) ≡ true → IsLongest is_based zs len
      → not (is_in Words (get_or zs len 0)) ≡ true → IsFront (c ∷ digits ++ tail) (Token Based) whole
  sized_number len whole sum size l ended =
      let same : whole ≡ length (c ∷ digits) + suc (length blanks + len) = omega (arith, sum) in
      subst (IsFront (c ∷ digits ++ tail) (Token Based)) (sym same)
      (front_of_longest (c ∷ digits ++ tail) (Token Based) (length (c ∷ digits) + suc (length blanks + len)) (based_longest len size l) (behind_based len ∙ ended))

  pub barred_number : (len : ℕ) → is_size (c ∷ digits) ≡ true → IsLongest is_based zs len → not (is_in Words (get_or zs len 0)) ≡ false → IsStuck (c ∷ digits ++ tail)
  barred_number len size l barred =
      stuck_if_barred (c ∷ digits ++ tail) (Token Based) (length (c ∷ digits) + suc (length blanks + len)) (based_longest len size l) (behind_based len ∙ barred)

pub all_digits : (c : ℕ) (digits : List ℕ) → is_ascii_digit c ≡ true → list_all (is_in Decimals) digits ≡ true → list_all (is_in Decimals) (c ∷ digits) ≡ true
all_digits c digits first rest = ap (λ b. (b || nat_eq c 95) && list_all (is_in Decimals) digits) first ∙ rest
