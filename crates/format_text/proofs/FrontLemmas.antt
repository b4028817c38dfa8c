-- A format's front, a letter at a time.
use Rattle.std.proofs.Common.{◌≡◌, ◌==◌, ◌<◌, ◌+◌, ◌-◌, ◌*◌, ℕ, suc, Bool, true, false, cond, if◌then◌else◌, List, [], ◌∷◌, ◌++◌, take, drop, length, Option, None, append_assoc, refl, ap, sym, subst, ◌∙◌, arith, option_and_then}
use Rattle.std.specs.Char.{is_ascii_digit}
use Rattle.vdesign.specs.declared.print.Width.{Width}
use Rattle.std.specs.List.{prefix_len}
use Rattle.std.proofs.lemmas.Bool.Decides.{nat_tests}
use Rattle.std.specs.Prelude.{nat_lt}
use Rattle.std.proofs.lemmas.List.{append-nil, length-drop}
use Rattle.format_text.specs.Formats.{FormatFront, form_by, front_by, front_in_form, front_with_form, is_letter, is_percent, letters_in, notation_of, places_by, width_of}

-- a letter that begins no form is printed
pub plain_letter : (path letters : List ℕ) (c : ℕ) (cs rest : List ℕ) → rest ≡ c ∷ cs → (c ≡ 37 → ⊥) →
    front_by path letters rest ≡ front_by path (letters ++ c ∷ []) cs
plain_letter path letters c cs rest is plain =
    let no : (c == 37) ≡ false = grind (arith, nat_tests, plain) in
    ap (front_by path letters) is ∙ ap (λ t. cond t (front_in_form path letters [] cs) (front_by path (letters ++ c ∷ []) cs)) no

-- forms from their letter on: `%m`, another one, any
abbrev path_form : List ℕ → List ℕ → List ℕ → List ℕ → Option FormatFront
path_form path letters digits cs = option_and_then (λ width. front_by path (letters ++ letters_in width path) cs) (width_of digits)

abbrev other_form : List ℕ → List ℕ → List ℕ → ℕ → List ℕ → Option FormatFront
other_form path letters digits c cs =
    if is_percent digits c then front_by path (letters ++ c ∷ []) cs else front_with_form letters (form_by (width_of digits) (notation_of c)) cs

abbrev pub front_at_letter : List ℕ → List ℕ → List ℕ → List ℕ → Option FormatFront
front_at_letter path letters digits [] = None
front_at_letter path letters digits (c ∷ cs) = if is_letter 109 77 c then path_form path letters digits cs else other_form path letters digits c cs

digits_read : (path letters digits text : List ℕ) → front_in_form path letters digits text
    ≡ front_at_letter path letters (digits ++ take (prefix_len is_ascii_digit text) text) (drop (prefix_len is_ascii_digit text) text)
digits_read path letters digits [] = refl
digits_read path letters digits (c ∷ cs) = by (is_ascii_digit c) (digits_read path letters (digits ++ c ∷ []) cs)
  where
    n : ℕ
    n = prefix_len is_ascii_digit cs

    one_more : suc n ≡ 1 + n
    one_more = omega arith

    by : (b : Bool) → front_in_form path letters (digits ++ c ∷ []) cs ≡ front_at_letter path letters ((digits ++ c ∷ []) ++ take n cs) (drop n cs) →
        cond b (front_in_form path letters (digits ++ c ∷ []) cs) (front_at_letter path letters digits (c ∷ cs))
        ≡ front_at_letter path letters (digits ++ take (cond b (1 + n) 0) (c ∷ cs)) (drop (cond b (1 + n) 0) (c ∷ cs))
    by true rest =
        subst (λ k. front_in_form path letters (digits ++ c ∷ []) cs ≡ front_at_letter path letters (digits ++ take k (c ∷ cs)) (drop k (c ∷ cs))) one_more
        (rest ∙ ap (λ ds. front_at_letter path letters ds (drop n cs)) (append_assoc digits (c ∷ []) (take n cs)))
    by false rest = ap (λ ds. front_at_letter path letters ds (c ∷ cs)) (sym (append-nil digits))

-- a `%` begins a form
pub form_begins : (path letters : List ℕ) (c : ℕ) (cs rest digits end : List ℕ) (n : ℕ) → rest ≡ c ∷ cs → c ≡ 37 → n ≡ prefix_len is_ascii_digit cs →
    digits ≡ take n cs → end ≡ drop n cs → front_by path letters rest ≡ front_at_letter path letters digits end
form_begins path letters c cs rest digits end n is c_is n_is digits_are end_is =
    ap (front_by path letters) is
    ∙ ap (λ x. front_by path letters (x ∷ cs)) c_is
    ∙ digits_read path letters [] cs
    ∙ ap (λ k. front_at_letter path letters (take k cs) (drop k cs)) (sym n_is)
    ∙ ap (λ ds. front_at_letter path letters ds (drop n cs)) (sym digits_are)
    ∙ ap (front_at_letter path letters digits) (sym end_is)

-- a form without a letter
pub without_letter : (path letters digits end : List ℕ) → length end ≡ 0 → front_at_letter path letters digits end ≡ None
without_letter path letters digits [] none = refl
without_letter path letters digits (c ∷ cs) none = absurd (omega (arith, none))

module _ (path letters digits : List ℕ) (c : ℕ) (cs end : List ℕ) (is : end ≡ c ∷ cs) where
  letter_is : (b : Bool) → b ≡ is_letter 109 77 c → front_at_letter path letters digits end ≡ cond b (path_form path letters digits cs) (other_form path letters digits c cs)
  letter_is b same =
      ap (front_at_letter path letters digits) is ∙ ap (λ x. cond x (path_form path letters digits cs) (other_form path letters digits c cs)) (sym same)

  -- `%m` where its digits say a width, or none
  pub path_in_width : (width : Option Width) → true ≡ is_letter 109 77 c → width_of digits ≡ width →
      front_at_letter path letters digits end ≡ option_and_then (λ w. front_by path (letters ++ letters_in w path) cs) width
  path_in_width width letter same = letter_is true letter ∙ ap (option_and_then (λ w. front_by path (letters ++ letters_in w path) cs)) same

  -- a form that takes an argument
  pub form_ends : false ≡ is_letter 109 77 c → false ≡ is_percent digits c →
      front_at_letter path letters digits end ≡ front_with_form letters (form_by (width_of digits) (notation_of c)) cs
  form_ends letter percent =
      letter_is false letter
      ∙ ap (λ x. cond x (front_by path (letters ++ c ∷ []) cs) (front_with_form letters (form_by (width_of digits) (notation_of c)) cs)) (sym percent)

-- a digit more makes too many places
too_many : (n : ℕ) (rest : List ℕ) → 0 < length rest → 99 < n → None ≡ places_by n rest
too_many n [] some many = absurd (omega (arith, some))
too_many n (c ∷ cs) some many =
    let over : nat_lt 99 n ≡ true = grind (arith, nat_tests, many) in
    sym (ap (λ t. cond t None (places_by (10 * n + (c - 48)) cs)) over)

pub places_end : (digits : List ℕ) (at n : ℕ) → at < length digits → 99 < n → places_by n (drop at digits) ≡ places_by 0 digits → None ≡ places_by 0 digits
places_end digits at n within many before =
    too_many n (drop at digits) (omega (arith, within, length-drop at digits)) many ∙ before
