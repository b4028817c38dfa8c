-- Binary digits, one letter after another.
use Rattle.std.proofs.Common.{◌≡◌, ◌<◌, ◌+◌, ◌-◌, ℕ, List, [], ◌∷◌, ◌++◌, length, take, map, reverse, Some, append_assoc, sym, ap, ◌∙◌, arith}
use Rattle.std.specs.Prelude.{slice_get}
use Rattle.std.proofs.lemmas.List.{reverse-append, take_more}
use Rattle.std.proofs.lemmas.Option.{slice_get_within, get_or_from_slice_get}
use Rattle.vbits.specs.declared.bit4.Bit4.{Bit4}
use Rattle.value_text.specs.ValueText.{binary_digit}

-- the digits of one letter more
pub binary_more : (letters : List Bit4) (i : ℕ) (letter : Bit4) (d : ℕ) (before text now whole : List ℕ) → 0 < i →
    slice_get letters (i - 1) ≡ Some letter → d ≡ binary_digit letter → now ≡ text ++ d ∷ [] →
    text ++ map binary_digit (reverse (take i letters)) ≡ before ++ whole →
    now ++ map binary_digit (reverse (take (i - 1) letters)) ≡ before ++ whole
binary_more letters i letter d before text now whole some is d_is pushed so_far =
    let j_less : i - 1 < length letters = slice_get_within letters (i - 1) letter is in
    let i_is : i ≡ (i - 1) + 1 = omega arith in
    let front : List Bit4 = take (i - 1) letters in
    let taken : take i letters ≡ front ++ letter ∷ [] =
    ap (λ (k : ℕ). take k letters) i_is ∙ take_more letters (i - 1) letter j_less
    ∙ ap (λ (x : Bit4). front ++ x ∷ []) (get_or_from_slice_get letters (i - 1) letter letter is) in
    ap (λ (xs : List ℕ). xs ++ map binary_digit (reverse front)) pushed
    ∙ append_assoc text (d ∷ []) (map binary_digit (reverse front))
    ∙ ap (λ (c : ℕ). text ++ c ∷ map binary_digit (reverse front)) d_is
    ∙ ap (λ (xs : List Bit4). text ++ map binary_digit xs) (sym (ap reverse taken ∙ reverse-append front (letter ∷ [])))
    ∙ so_far
