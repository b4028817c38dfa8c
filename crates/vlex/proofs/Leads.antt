-- What each lead says of its byte.
use Rattle.std.proofs.Common.{◌≡◌, ◌≢◌, ℕ, Bool, true, false, cond, ◌||◌, not, nat_eq, refl, sym, ◌∙◌, ap, subst, inl, inr}
use Rattle.std.proofs.lemmas.Bool.{cases_Bool, eqb-true, eqb-false}
use Rattle.std.proofs.Common.{arith}
use Rattle.std.proofs.lemmas.Bool.Decides.{nat_tests}
use Rattle.vlex.specs.declared.bytes.Set.TheVariants.{Blanks, Marks}
use Rattle.vlex.specs.declared.bytes.Lead.{Lead}
use Rattle.vlex.specs.declared.bytes.Lead.TheVariants as lead
use Rattle.std.specs.Char.{is_ascii_digit, is_ascii_alphabetic}
use Rattle.vlex.specs.Bytes.{is_in, is_punctuation, lead_of}

-- what begins neither a name nor a number
pub record BeginsNeither (c : ℕ) : Type 0 where
  pub letter : (is_ascii_alphabetic c || nat_eq c 95) ≡ false
  pub digit : is_ascii_digit c ≡ false
  pub backslash : c ≢ 92
  pub apostrophe : c ≢ 39

abbrev pub Says : Lead → ℕ → Type 0
Says lead.Blank c = is_in Blanks c ≡ true
Says lead.Letter c = (is_ascii_alphabetic c || nat_eq c 95) ≡ true
Says lead.Backslash c = c ≡ 92
Says lead.Dollar c = c ≡ 36
Says lead.Digit c = is_ascii_digit c ≡ true
Says lead.Apostrophe c = c ≡ 39
Says lead.Quote c = c ≡ 34
Says lead.Slash c = c ≡ 47
Says lead.Punctuation c = BeginsNeither c
Says lead.Other c = BeginsNeither c

by_tests : (blank letter backslash dollar digit apostrophe quote slash mark : Bool) (c : ℕ)
    → is_in Blanks c ≡ blank → (is_ascii_alphabetic c || nat_eq c 95) ≡ letter → nat_eq c 92 ≡ backslash → nat_eq c 36 ≡ dollar → is_ascii_digit c ≡ digit → nat_eq c 39 ≡ apostrophe
    → nat_eq c 34 ≡ quote → nat_eq c 47 ≡ slash
    → Says (cond blank lead.Blank (cond letter lead.Letter (cond backslash lead.Backslash (cond dollar lead.Dollar (cond digit lead.Digit (cond apostrophe lead.Apostrophe
    (cond quote lead.Quote (cond slash lead.Slash (cond mark lead.Punctuation lead.Other))))))))) c
by_tests true l b d n a q s m c blank letter backslash dollar digit apostrophe quote slash = blank
by_tests false true b d n a q s m c blank letter backslash dollar digit apostrophe quote slash = letter
by_tests false false true d n a q s m c blank letter backslash dollar digit apostrophe quote slash = eqb-true c 92 backslash
by_tests false false false true n a q s m c blank letter backslash dollar digit apostrophe quote slash = eqb-true c 36 dollar
by_tests false false false false true a q s m c blank letter backslash dollar digit apostrophe quote slash = digit
by_tests false false false false false true q s m c blank letter backslash dollar digit apostrophe quote slash = eqb-true c 39 apostrophe
by_tests false false false false false false true s m c blank letter backslash dollar digit apostrophe quote slash = eqb-true c 34 quote
by_tests false false false false false false false true m c blank letter backslash dollar digit apostrophe quote slash = eqb-true c 47 slash
by_tests false false false false false false false false true c blank letter backslash dollar digit apostrophe quote slash =
    record { letter = letter; digit = digit; backslash = eqb-false c 92 backslash; apostrophe = eqb-false c 39 apostrophe }
by_tests false false false false false false false false false c blank letter backslash dollar digit apostrophe quote slash =
    record { letter = letter; digit = digit; backslash = eqb-false c 92 backslash; apostrophe = eqb-false c 39 apostrophe }

pub says : (c : ℕ) (l : Lead) → lead_of c ≡ l → Says l c
says c l e = subst (λ k. Says k c) e (by_tests _ _ _ _ _ _ _ _ (is_punctuation c) c refl refl refl refl refl refl refl refl)

-- digits are no blanks
pub blank_no_digit : (c : ℕ) → is_in Blanks c ≡ true → is_ascii_digit c ≡ false
blank_no_digit c blank = grind (arith, nat_tests)

pub digit_no_blank : (c : ℕ) → is_ascii_digit c ≡ true → is_in Marks c ≡ true
digit_no_blank c digit = elim (cases_Bool (is_in Blanks c)) [
  | inl blank ↦ let clash : false ≡ true = sym (blank_no_digit c blank) ∙ digit in cc
  | inr mark ↦ ap not mark
]
