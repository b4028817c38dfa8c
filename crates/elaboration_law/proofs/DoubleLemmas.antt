-- Words that stand again, and names that stand twice.
use Rattle.std.proofs.Common.{◌≡◌, Bool, true, false, ◌||◌, true≢false, if◌then◌else◌, List, [], ◌∷◌, ◌++◌, Some, None, refl, sym, ap, ◌∙◌, append_assoc}
use Rattle.std.specs.Str.{bytes_eq}
use Rattle.std.proofs.lemmas.List.{append-nil}
use Rattle.std.proofs.lemmas.List.Folds.{list_any-append}
use Rattle.basis.proofs.Bools.{or_second, or_first}
use Rattle.vwords.specs.Words.{Text}
use Rattle.vast.specs.NumberedWords.{Word}
use Rattle.vmodules.specs.Names.{is_declared, has_double, letters_of, again_behind, first_again}
use Rattle.vmodules.proofs.NameLemmas.{double_at, no_double-push}

behind_none : (names : List Text) (words : List Word) → has_double names ≡ false → again_behind names words ≡ None → has_double (names ++ letters_of words) ≡ false
behind_none names [] none is = ap has_double (append-nil names) ∙ none
behind_none names (word ∷ more) none is = by (is_declared names word.letters) refl is (behind_none (names ++ word.letters ∷ []) more)
  where
    by : (b : Bool) → is_declared names word.letters ≡ b → (if b then Some word else again_behind (names ++ word.letters ∷ []) more) ≡ None →
        (has_double (names ++ word.letters ∷ []) ≡ false → again_behind (names ++ word.letters ∷ []) more ≡ None → has_double ((names ++ word.letters ∷ []) ++ letters_of more) ≡ false) →
        has_double (names ++ word.letters ∷ letters_of more) ≡ false
    by true e h rest = absurd cc
    by false e h rest = sym (ap has_double (append_assoc names (word.letters ∷ []) (letters_of more))) ∙ rest (no_double-push names word.letters none e) h

behind_some : (names : List Text) (words : List Word) (w : Word) → again_behind names words ≡ Some w → has_double (names ++ letters_of words) ≡ true
behind_some names [] w is = absurd cc
behind_some names (word ∷ more) w is = by (is_declared names word.letters) refl is (behind_some (names ++ word.letters ∷ []) more w)
  where
    by : (b : Bool) → is_declared names word.letters ≡ b → (if b then Some word else again_behind (names ++ word.letters ∷ []) more) ≡ Some w →
        (again_behind (names ++ word.letters ∷ []) more ≡ Some w → has_double ((names ++ word.letters ∷ []) ++ letters_of more) ≡ true) →
        has_double (names ++ word.letters ∷ letters_of more) ≡ true
    by true e h rest = double_at names (letters_of more) word.letters e
    by false e h rest = sym (ap has_double (append_assoc names (word.letters ∷ []) (letters_of more))) ∙ rest h

pub none_twice : (words : List Word) → first_again words ≡ None → has_double (letters_of words) ≡ false
none_twice words is = behind_none [] words refl is

pub one_twice : (words : List Word) (w : Word) → first_again words ≡ Some w → has_double (letters_of words) ≡ true
one_twice words w is = behind_some [] words w is

or_true : (a b c : Bool) → (a ≡ true → c ≡ true) → (b ≡ true → c ≡ true) → (a || b) ≡ true → c ≡ true
or_true true b c f g e = f refl
or_true false b c f g e = g e

-- among more names a name stands twice all the same
pub twice_among : (names more : List Text) → has_double names ≡ true → has_double (names ++ more) ≡ true
twice_among [] more e = absurd (true≢false (sym e))
twice_among (x ∷ xs) more e =
    or_true (is_declared xs x) (has_double xs) (is_declared (xs ++ more) x || has_double (xs ++ more))
    (λ h. or_first (is_declared (xs ++ more) x) (has_double (xs ++ more)) (list_any-append (bytes_eq x) xs more ∙ or_first (is_declared xs x) (is_declared more x) h))
    (λ h. or_second (is_declared (xs ++ more) x) (has_double (xs ++ more)) (twice_among xs more h))
    e
