-- Words of which two have one name, and words that are among others.
use Rattle.std.proofs.Common.{◌≡◌, Bool, true, false, not, ◌||◌, if◌then◌else◌, true≢false, List, [], ◌∷◌, ◌++◌, Some, None, sym, ap, subst, ◌∙◌, ◌⊎◌, inl, inr, refl}
use Rattle.std.specs.List.{Contains, flat_map}
use Rattle.std.specs.Str.{bytes_eq}
use Rattle.std.specs.Cmp.Lexicographic.{nat_list_eq_equiv}
use Rattle.std.proofs.lemmas.Bool.{or_cases}
use Rattle.std.proofs.lemmas.List.{map-append}
use Rattle.std.proofs.lemmas.List.Folds.{list_any-append}
use Rattle.std.proofs.lemmas.List.Elements.{filter-append}
use Rattle.basis.proofs.Bools.{or_first, or_second}
use Rattle.vwords.specs.Words.{Text}
use Rattle.vast.specs.NumberedWords.{Word}
use Rattle.vmodules.specs.Names.{is_declared, has_double, letters_of, again_behind}
use Rattle.vmodules.specs.Misdeclared.{outside, among}
use Rattle.elaboration_law.specs.ItemPorts.{HasOneOf}
use Rattle.elaboration_law.proofs.StepLemmas.{contains_first, contains_more, contains_cases, contains_none}

has_one_more : (names : List Text) (x : Word) (words : List Word) → HasOneOf names words → HasOneOf names (x ∷ words)
has_one_more names x words (word, inside, there) = (word, contains_more x word words inside, there)

declared_both : (xs ys : List Word) (text : Text) → is_declared (letters_of (xs ++ ys)) text ≡ (is_declared (letters_of xs) text || is_declared (letters_of ys) text)
declared_both xs ys text = ap (λ (l : List Text). is_declared l text) (map-append (λ (w : Word). w.letters) xs ys) ∙ list_any-append (bytes_eq text) (letters_of xs) (letters_of ys)

-- ---- two lists

-- two words of both are alike: two of the first, two of the second, or one of each
pub double_parts : (xs ys : List Word) → has_double (letters_of (xs ++ ys)) ≡ true →
    (has_double (letters_of xs) ≡ true) ⊎ ((has_double (letters_of ys) ≡ true) ⊎ HasOneOf (letters_of ys) xs)
double_parts [] ys e = inr (inl e)
double_parts (x ∷ xs) ys e = by (or_cases (is_declared (letters_of (xs ++ ys)) x.letters) (has_double (letters_of (xs ++ ys))) e) (double_parts xs ys)
  where
    here : (is_declared (letters_of xs) x.letters ≡ true) ⊎ (is_declared (letters_of ys) x.letters ≡ true) →
        (has_double (letters_of (x ∷ xs)) ≡ true) ⊎ ((has_double (letters_of ys) ≡ true) ⊎ HasOneOf (letters_of ys) (x ∷ xs))
    here (inl a) = inl (or_first (is_declared (letters_of xs) x.letters) (has_double (letters_of xs)) a)
    here (inr b) = inr (inr (x, contains_first x xs, b))

    later : (has_double (letters_of xs) ≡ true) ⊎ ((has_double (letters_of ys) ≡ true) ⊎ HasOneOf (letters_of ys) xs) →
        (has_double (letters_of (x ∷ xs)) ≡ true) ⊎ ((has_double (letters_of ys) ≡ true) ⊎ HasOneOf (letters_of ys) (x ∷ xs))
    later (inl a) = inl (or_second (is_declared (letters_of xs) x.letters) (has_double (letters_of xs)) a)
    later (inr (inl b)) = inr (inl b)
    later (inr (inr one)) = inr (inr (has_one_more (letters_of ys) x xs one))

    by : (is_declared (letters_of (xs ++ ys)) x.letters ≡ true) ⊎ (has_double (letters_of (xs ++ ys)) ≡ true) →
        (has_double (letters_of (xs ++ ys)) ≡ true → (has_double (letters_of xs) ≡ true) ⊎ ((has_double (letters_of ys) ≡ true) ⊎ HasOneOf (letters_of ys) xs)) →
        (has_double (letters_of (x ∷ xs)) ≡ true) ⊎ ((has_double (letters_of ys) ≡ true) ⊎ HasOneOf (letters_of ys) (x ∷ xs))
    by (inl e) rest = here (or_cases (is_declared (letters_of xs) x.letters) (is_declared (letters_of ys) x.letters) (sym (declared_both xs ys x.letters) ∙ e))
    by (inr e) rest = later (rest e)

-- and two of them are, where two of the first are, two of the second, or one of each
pub first_double : (xs ys : List Word) → has_double (letters_of xs) ≡ true → has_double (letters_of (xs ++ ys)) ≡ true
first_double [] ys e = absurd (true≢false (sym e))
first_double (x ∷ xs) ys e = by (or_cases (is_declared (letters_of xs) x.letters) (has_double (letters_of xs)) e) (first_double xs ys)
  where
    by : (is_declared (letters_of xs) x.letters ≡ true) ⊎ (has_double (letters_of xs) ≡ true) → (has_double (letters_of xs) ≡ true → has_double (letters_of (xs ++ ys)) ≡ true) →
        has_double (letters_of (x ∷ (xs ++ ys))) ≡ true
    by (inl here) rest =
        or_first (is_declared (letters_of (xs ++ ys)) x.letters) (has_double (letters_of (xs ++ ys)))
        (declared_both xs ys x.letters ∙ or_first (is_declared (letters_of xs) x.letters) (is_declared (letters_of ys) x.letters) here)
    by (inr there) rest = or_second (is_declared (letters_of (xs ++ ys)) x.letters) (has_double (letters_of (xs ++ ys))) (rest there)

pub second_double : (xs ys : List Word) → has_double (letters_of ys) ≡ true → has_double (letters_of (xs ++ ys)) ≡ true
second_double [] ys e = e
second_double (x ∷ xs) ys e = or_second (is_declared (letters_of (xs ++ ys)) x.letters) (has_double (letters_of (xs ++ ys))) (second_double xs ys e)

pub shared_double : (xs ys : List Word) → HasOneOf (letters_of ys) xs → has_double (letters_of (xs ++ ys)) ≡ true
shared_double [] ys (word, inside, there) = absurd (contains_none word inside)
shared_double (x ∷ xs) ys (word, inside, there) = by (contains_cases x word xs inside) (λ more. shared_double xs ys (word, more, there))
  where
    by : (x ≡ word) ⊎ Contains xs word → (Contains xs word → has_double (letters_of (xs ++ ys)) ≡ true) → has_double (letters_of (x ∷ (xs ++ ys))) ≡ true
    by (inl same) rest =
        or_first (is_declared (letters_of (xs ++ ys)) x.letters) (has_double (letters_of (xs ++ ys)))
        (declared_both xs ys x.letters
        ∙ or_second (is_declared (letters_of xs) x.letters) (is_declared (letters_of ys) x.letters) (ap (λ (w : Word). is_declared (letters_of ys) w.letters) same ∙ there))
    by (inr more) rest = or_second (is_declared (letters_of (xs ++ ys)) x.letters) (has_double (letters_of (xs ++ ys))) (rest more)

-- ---- words that are looked for

pub found_outside : (names words : List Word) (w : Word) → outside names words ≡ Some w → Contains words w × (is_declared (letters_of names) w.letters ≡ false)
found_outside names [] w is = absurd cc
found_outside names (x ∷ words) w is = by (is_declared (letters_of names) x.letters) refl is (found_outside names words w)
  where
    by : (b : Bool) → is_declared (letters_of names) x.letters ≡ b → (if not b then Some x else outside names words) ≡ Some w →
        (outside names words ≡ Some w → Contains words w × (is_declared (letters_of names) w.letters ≡ false)) → Contains (x ∷ words) w × (is_declared (letters_of names) w.letters ≡ false)
    by true e h rest = let r = rest h in (contains_more x w words r.0, r.1)
    by false e h rest =
        let same : x ≡ w = cc in
        (subst (Contains (x ∷ words)) same (contains_first x words), sym (ap (λ (v : Word). is_declared (letters_of names) v.letters) same) ∙ e)

pub none_outside : (names words : List Word) (w : Word) → outside names words ≡ None → Contains words w → is_declared (letters_of names) w.letters ≡ true
none_outside names [] w is inside = absurd (contains_none w inside)
none_outside names (x ∷ words) w is inside = by (is_declared (letters_of names) x.letters) refl is (contains_cases x w words inside) (none_outside names words w)
  where
    by : (b : Bool) → is_declared (letters_of names) x.letters ≡ b → (if not b then Some x else outside names words) ≡ None → (x ≡ w) ⊎ Contains words w →
        (outside names words ≡ None → Contains words w → is_declared (letters_of names) w.letters ≡ true) → is_declared (letters_of names) w.letters ≡ true
    by true e h (inl same) rest = sym (ap (λ (v : Word). is_declared (letters_of names) v.letters) same) ∙ e
    by true e h (inr more) rest = rest h more
    by false e h either rest = absurd cc

-- ---- words behind names

or_false_is : (b : Bool) → (b || false) ≡ true → b ≡ true
or_false_is true e = refl
or_false_is false e = e

declared_at : (words : List Word) (v : Word) (text : Text) → Contains words v → bytes_eq text v.letters ≡ true → is_declared (letters_of words) text ≡ true
declared_at [] v text inside e = absurd (contains_none v inside)
declared_at (x ∷ words) v text inside e = by (contains_cases x v words inside) (λ more. declared_at words v text more e)
  where
    by : (x ≡ v) ⊎ Contains words v → (Contains words v → is_declared (letters_of words) text ≡ true) → is_declared (letters_of (x ∷ words)) text ≡ true
    by (inl same) rest = or_first (bytes_eq text x.letters) (is_declared (letters_of words) text) (ap (λ (w : Word). bytes_eq text w.letters) same ∙ e)
    by (inr more) rest = or_second (bytes_eq text x.letters) (is_declared (letters_of words) text) (rest more)

-- a word that is told has one of the names, or two of the words are alike
pub behind_told : (names : List Text) (words : List Word) (w : Word) → again_behind names words ≡ Some w → (has_double (letters_of words) ≡ true) ⊎ HasOneOf names words
behind_told names [] w is = absurd cc
behind_told names (x ∷ words) w is = by (is_declared names x.letters) refl is (behind_told (names ++ x.letters ∷ []) words w)
  where
    split : (v : Word) → Contains words v → (is_declared names v.letters ≡ true) ⊎ (is_declared (x.letters ∷ []) v.letters ≡ true) →
        (has_double (letters_of (x ∷ words)) ≡ true) ⊎ HasOneOf names (x ∷ words)
    split v inside (inl there) = inr (v, contains_more x v words inside, there)
    split v inside (inr same) =
        inl (or_first (is_declared (letters_of words) x.letters) (has_double (letters_of words)) (declared_at words v x.letters inside (nat_list_eq_equiv.symm x.letters v.letters ∙ or_false_is (bytes_eq v.letters x.letters) same)))

    later : (has_double (letters_of words) ≡ true) ⊎ HasOneOf (names ++ x.letters ∷ []) words → (has_double (letters_of (x ∷ words)) ≡ true) ⊎ HasOneOf names (x ∷ words)
    later (inl e) = inl (or_second (is_declared (letters_of words) x.letters) (has_double (letters_of words)) e)
    later (inr (v, inside, there)) =
        split v inside (or_cases (is_declared names v.letters) (is_declared (x.letters ∷ []) v.letters) (sym (list_any-append (bytes_eq v.letters) names (x.letters ∷ [])) ∙ there))

    by : (b : Bool) → is_declared names x.letters ≡ b → (if b then Some x else again_behind (names ++ x.letters ∷ []) words) ≡ Some w →
        (again_behind (names ++ x.letters ∷ []) words ≡ Some w → (has_double (letters_of words) ≡ true) ⊎ HasOneOf (names ++ x.letters ∷ []) words) →
        (has_double (letters_of (x ∷ words)) ≡ true) ⊎ HasOneOf names (x ∷ words)
    by true e h rest = inr (x, contains_first x words, e)
    by false e h rest = later (rest h)

-- a name that is declared is that of a word
declared_of : (words : List Word) (text : Text) → is_declared (letters_of words) text ≡ true → (v : Word) × Contains words v × (bytes_eq text v.letters ≡ true)
declared_of [] text e = absurd (true≢false (sym e))
declared_of (x ∷ words) text e = by (or_cases (bytes_eq text x.letters) (is_declared (letters_of words) text) e) (declared_of words text)
  where
    by : (bytes_eq text x.letters ≡ true) ⊎ (is_declared (letters_of words) text ≡ true) →
        (is_declared (letters_of words) text ≡ true → (v : Word) × Contains words v × (bytes_eq text v.letters ≡ true)) → (v : Word) × Contains (x ∷ words) v × (bytes_eq text v.letters ≡ true)
    by (inl same) rest = (x, contains_first x words, same)
    by (inr there) rest = let r = rest there in (r.0, contains_more x r.0 words r.1, r.2)

-- where none is told no two of the words are alike, and none of them has one of the names
pub none_behind : (names : List Text) (words : List Word) → again_behind names words ≡ None → (has_double (letters_of words) ≡ true → ⊥) × (HasOneOf names words → ⊥)
none_behind names [] is = (λ e. true≢false (sym e), λ one. contains_none one.0 one.1)
none_behind names (x ∷ words) is = by (is_declared names x.letters) refl is (none_behind (names ++ x.letters ∷ []) words)
  where
    behind : (v : Word) → is_declared names v.letters ≡ true → is_declared (names ++ x.letters ∷ []) v.letters ≡ true
    behind v there = list_any-append (bytes_eq v.letters) names (x.letters ∷ []) ∙ or_first (is_declared names v.letters) (is_declared (x.letters ∷ []) v.letters) there

    at_last : (v : Word) → bytes_eq x.letters v.letters ≡ true → is_declared (names ++ x.letters ∷ []) v.letters ≡ true
    at_last v same =
        list_any-append (bytes_eq v.letters) names (x.letters ∷ [])
        ∙ or_second (is_declared names v.letters) (is_declared (x.letters ∷ []) v.letters) (or_first (bytes_eq v.letters x.letters) false (nat_list_eq_equiv.symm v.letters x.letters ∙ same))

    by : (b : Bool) → is_declared names x.letters ≡ b → (if b then Some x else again_behind (names ++ x.letters ∷ []) words) ≡ None →
        (again_behind (names ++ x.letters ∷ []) words ≡ None → (has_double (letters_of words) ≡ true → ⊥) × (HasOneOf (names ++ x.letters ∷ []) words → ⊥)) →
        (has_double (letters_of (x ∷ words)) ≡ true → ⊥) × (HasOneOf names (x ∷ words) → ⊥)
    by true e h rest = absurd cc
    by false e h rest = (λ d. twice (or_cases (is_declared (letters_of words) x.letters) (has_double (letters_of words)) d), λ one. taken one.0 one.2 (contains_cases x one.0 words one.1))
      where
        twice : (is_declared (letters_of words) x.letters ≡ true) ⊎ (has_double (letters_of words) ≡ true) → ⊥
        twice (inl here) = let one = declared_of words x.letters here in (rest h).1 (one.0, one.1, at_last one.0 one.2)
        twice (inr later) = (rest h).0 later

        taken : (v : Word) → is_declared names v.letters ≡ true → (x ≡ v) ⊎ Contains words v → ⊥
        taken v there (inl same) = true≢false (sym there ∙ sym (ap (λ (w : Word). is_declared names w.letters) same) ∙ e)
        taken v there (inr more) = (rest h).1 (v, more, behind v there)

-- ---- fewer words

-- words that each of some things gives, of which each gives the same elsewhere or none
module _ {A : Type 0} (F G : A → List Word) (fewer : (x : A) → (F x ≡ G x) ⊎ (F x ≡ [])) where
  fewer_one : (x : A) (P : List Word → Type 0) → (P [] → P (G x)) → P (F x) → P (G x)
  fewer_one x P none given = by (fewer x)
    where
      by : (F x ≡ G x) ⊎ (F x ≡ []) → P (G x)
      by (inl same) = subst P same given
      by (inr empty) = none (subst P empty given)

  fewer_declared : (xs : List A) (text : Text) → is_declared (letters_of (flat_map F xs)) text ≡ true → is_declared (letters_of (flat_map G xs)) text ≡ true
  fewer_declared [] text e = e
  fewer_declared (x ∷ xs) text e =
      by (or_cases (is_declared (letters_of (F x)) text) (is_declared (letters_of (flat_map F xs)) text) (sym (declared_both (F x) (flat_map F xs) text) ∙ e)) (fewer_declared xs text)
    where
      by : (is_declared (letters_of (F x)) text ≡ true) ⊎ (is_declared (letters_of (flat_map F xs)) text ≡ true) →
          (is_declared (letters_of (flat_map F xs)) text ≡ true → is_declared (letters_of (flat_map G xs)) text ≡ true) → is_declared (letters_of (flat_map G (x ∷ xs))) text ≡ true
      by (inl here) rest =
          declared_both (G x) (flat_map G xs) text
          ∙ or_first (is_declared (letters_of (G x)) text) (is_declared (letters_of (flat_map G xs)) text) (fewer_one x (λ l. is_declared (letters_of l) text ≡ true) (λ none. absurd (true≢false (sym none))) here)
      by (inr there) rest =
          declared_both (G x) (flat_map G xs) text ∙ or_second (is_declared (letters_of (G x)) text) (is_declared (letters_of (flat_map G xs)) text) (rest there)

  pub fewer_double : (xs : List A) → has_double (letters_of (flat_map F xs)) ≡ true → has_double (letters_of (flat_map G xs)) ≡ true
  fewer_double [] e = e
  fewer_double (x ∷ xs) e = by (double_parts (F x) (flat_map F xs) e) (fewer_double xs)
    where
      by : (has_double (letters_of (F x)) ≡ true) ⊎ ((has_double (letters_of (flat_map F xs)) ≡ true) ⊎ HasOneOf (letters_of (flat_map F xs)) (F x)) →
          (has_double (letters_of (flat_map F xs)) ≡ true → has_double (letters_of (flat_map G xs)) ≡ true) → has_double (letters_of (flat_map G (x ∷ xs))) ≡ true
      by (inl here) rest =
          first_double (G x) (flat_map G xs) (fewer_one x (λ l. has_double (letters_of l) ≡ true) (λ none. absurd (true≢false (sym none))) here)
      by (inr (inl later)) rest = second_double (G x) (flat_map G xs) (rest later)
      by (inr (inr (word, inside, there))) rest =
          shared_double (G x) (flat_map G xs)
          (word, fewer_one x (λ l. Contains l word) (λ none. absurd (contains_none word none)) inside, fewer_declared xs word.letters there)

-- those that are among others, thing by thing
pub among_each : {A : Type 0} (names : List Word) (F : A → List Word) (xs : List A) → among names (flat_map F xs) ≡ flat_map (λ x. among names (F x)) xs
among_each names F [] = refl
among_each names F (x ∷ xs) =
    filter-append (λ (w : Word). is_declared (letters_of names) w.letters) (F x) (flat_map F xs) ∙ ap (λ (l : List Word). among names (F x) ++ l) (among_each names F xs)
