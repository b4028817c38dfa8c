-- What the word of a name is, and what it names (IEEE 1364-2005, 3.7).
use Rattle.std.proofs.Common.{◌≡◌, ◌⊎◌, ℕ, Bool, true, false, ◌&&◌, ◌||◌, ◌==◌, not, if◌then◌else◌, [], ◌∷◌, inl, inr, refl, sym, ap, ◌∙◌, subst}
use Rattle.std.specs.List.{list_all}
use Rattle.std.proofs.lemmas.Bool.{eqb-true}
use Rattle.std.proofs.lemmas.Bool.Decides.{nat_tests}
use Rattle.std.proofs.Common.{arith}
use Rattle.basis.proofs.Bools.{and_left, and_right, and_both}
use Rattle.basis.specs.Letters.{begins_name, is_in_name}
use Rattle.vwords.specs.Words.{Text, is_name, is_reserved, reserved_words, is_printable, are_printable, without_backslash}

-- a simple name: a letter or `_`, then letters, digits, `_` and `$`, and no reserved word
pub record IsSimple (c : ℕ) (cs : Text) : Type 0 where
  pub first : begins_name c ≡ true
  pub rest : list_all is_in_name cs ≡ true
  pub free : not (is_reserved (c ∷ cs)) ≡ true

-- an escaped one
pub record IsEscaped (c : ℕ) (cs : Text) : Type 0 where
  pub backslash : c ≡ 92
  pub printable : are_printable cs ≡ true

pub simple_or_escaped : (c : ℕ) (cs : Text) → is_name (c ∷ cs) ≡ true → IsSimple c cs ⊎ IsEscaped c cs
simple_or_escaped c cs e = by (begins_name c && list_all is_in_name cs && not (is_reserved (c ∷ cs))) refl e
  where
    by : (b : Bool) → (begins_name c && list_all is_in_name cs && not (is_reserved (c ∷ cs))) ≡ b → (b || (c == 92 && are_printable cs)) ≡ true →
        IsSimple c cs ⊎ IsEscaped c cs
    by true is e =
        let letters = and_left (begins_name c && list_all is_in_name cs) (not (is_reserved (c ∷ cs))) is in
        inl (record {
          first = and_left (begins_name c) (list_all is_in_name cs) letters;
          rest = and_right (begins_name c) (list_all is_in_name cs) letters;
          free = and_right (begins_name c && list_all is_in_name cs) (not (is_reserved (c ∷ cs))) is;
        })
    by false is e =
        inr (record {
          backslash = eqb-true c 92 (and_left (c == 92) (are_printable cs) e);
          printable = and_right (c == 92) (are_printable cs) e;
        })

-- no reserved word begins with a backslash
pub escaped_free : (cs : Text) → is_reserved (92 ∷ cs) ≡ false
unfolding reserved_words
escaped_free cs = refl

pub name_not_reserved : (word : Text) → is_name word ≡ true → is_reserved word ≡ false
name_not_reserved [] e = let no : false ≡ true = e in absurd cc
name_not_reserved (c ∷ cs) e =
    elim (simple_or_escaped c cs e) [
      | inl simple ↦ by (is_reserved (c ∷ cs)) simple.free
      | inr escaped ↦ subst (λ b. is_reserved (b ∷ cs) ≡ false) (sym escaped.backslash) (escaped_free cs)
    ]
  where
    by : (b : Bool) → not b ≡ true → b ≡ false
    by true e = let no : false ≡ true = e in absurd cc
    by false e = refl

begins_printable : (c : ℕ) → begins_name c ≡ true → is_printable c ≡ true
begins_printable c e = grind (arith, nat_tests)

in_printable : (c : ℕ) → is_in_name c ≡ true → is_printable c ≡ true
in_printable c e = grind (arith, nat_tests)

all_printable : (cs : Text) → list_all is_in_name cs ≡ true → list_all is_printable cs ≡ true
all_printable [] e = refl
all_printable (c ∷ cs) e =
    and_both (is_printable c) (list_all is_printable cs) (in_printable c (and_left (is_in_name c) (list_all is_in_name cs) e))
    (all_printable cs (and_right (is_in_name c) (list_all is_in_name cs) e))

letter_no_backslash : (c : ℕ) → begins_name c ≡ true → (c == 92) ≡ false
letter_no_backslash c e = grind (arith, nat_tests)

-- what a name names is printable
pub name_printable : (word : Text) → is_name word ≡ true → are_printable (without_backslash word) ≡ true
name_printable [] e = let no : false ≡ true = e in absurd cc
name_printable (c ∷ cs) e =
    elim (simple_or_escaped c cs e) [
      | inl simple ↦
          ap (λ b. are_printable (if b then cs else c ∷ cs)) (letter_no_backslash c simple.first)
          ∙ and_both (is_printable c) (list_all is_printable cs) (begins_printable c simple.first) (all_printable cs simple.rest)
      | inr escaped ↦ subst (λ b. are_printable (without_backslash (b ∷ cs)) ≡ true) (sym escaped.backslash) escaped.printable
    ]
