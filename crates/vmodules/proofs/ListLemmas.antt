-- A loop over a list that builds another: what was done and what is left to do make the whole. And faults that `?` hands on.
use Rattle.std.proofs.Common.{◌≡◌, ◌<◌, ◌≤◌, ℕ, zero, suc, ◌+◌, arith, true, false, List, [], ◌∷◌, ◌++◌, Option, None, Some, is_some, option_map, refl, length, drop, get_or, Result, Ok, Err, IsErrAnd, sym, ap, subst, ◌∙◌, append_assoc}
use Rattle.basis.proofs.Lists.{left_from}
use Rattle.vwords.specs.Words.{Text}
use Rattle.std.specs.Option.{option_or}
use Rattle.std.proofs.lemmas.List.{map-append, drop_all}
use Rattle.vast.specs.NumberedWords.{Word}
use Rattle.vmodules.specs.Names.{is_declared, letters_of, again_behind}
use Rattle.vmodules.specs.Inner.{with_words, IsTold}
use Rattle.vmodules.proofs.NameLemmas.{again_here, again_next, again_append}
use Rattle.basis.specs.declared.memory.OrMemory.{OrMemory}
use Rattle.basis.specs.declared.memory.OrMemory.TheVariants.{Fault, Memory}
use Rattle.basis.specs.Reasons.{Because, IfFault}

-- what stands at a place of a list, whatever stands beyond its end
pub within_same : {A : Type 0} (xs : List A) (i : ℕ) (d e : A) → i < length xs → get_or xs i d ≡ get_or xs i e
within_same [] i d e within = absurd (omega (arith, within))
within_same (x ∷ xs) zero d e within = refl
within_same (x ∷ xs) (suc i) d e within = within_same xs i d e (omega (arith, within))

module _ {A : Type 0} (xs : List A) (i : ℕ) (x : A) (within : i < length xs) (is : x ≡ get_or xs i x) where
  pub drop_at : drop i xs ≡ x ∷ drop (i + 1) xs
  drop_at = sym (left_from xs i x is within)

  module _ {B : Type 0} (F : List A → List B) (h : A → List B) (splits : (y : A) (ys : List A) → F (y ∷ ys) ≡ h y ++ F ys) where
    -- what is left begins with what x gives
    pub opened : (done all : List B) → done ++ F (drop i xs) ≡ all → done ++ (h x ++ F (drop (i + 1) xs)) ≡ all
    opened done all same = ap (λ l. done ++ l) (sym (ap F drop_at ∙ splits x (drop (i + 1) xs))) ∙ same

    pub step : (done next all : List B) → next ≡ done ++ h x → done ++ F (drop i xs) ≡ all → next ++ F (drop (i + 1) xs) ≡ all
    step done next all is_next same =
        ap (λ l. l ++ F (drop (i + 1) xs)) is_next
        ∙ append_assoc done (h x) (F (drop (i + 1) xs))
        ∙ opened done all same

  -- words, one for each
  module _ (F : List A → List Word) (g : A → Word) (opens : (y : A) (ys : List A) → F (y ∷ ys) ≡ g y ∷ F ys) (names : List Text) (text : Text) (is_text : text ≡ (g x).letters) where
    -- the letters of this one stand behind the names
    pub word_names : (next all : List Text) → next ≡ names ++ text ∷ [] → with_words names (F (drop i xs)) ≡ all → with_words next (F (drop (i + 1) xs)) ≡ all
    word_names next all added same =
        ap (λ l. l ++ letters_of (F (drop (i + 1) xs))) (added ∙ ap (λ t. names ++ t ∷ []) is_text)
        ∙ append_assoc names ((g x).letters ∷ []) (letters_of (F (drop (i + 1) xs)))
        ∙ ap (λ l. names ++ letters_of l) (sym (ap F drop_at ∙ opens x (drop (i + 1) xs)))
        ∙ same

    -- it is new
    pub word_new : (next : List Text) (told : Option Word) → next ≡ names ++ text ∷ [] → is_declared names text ≡ false →
        again_behind names (F (drop i xs)) ≡ told → again_behind next (F (drop (i + 1) xs)) ≡ told
    word_new next told added new same =
        ap (λ l. again_behind l (F (drop (i + 1) xs))) (added ∙ ap (λ t. names ++ t ∷ []) is_text)
        ∙ sym (again_next names (g x) (F (drop (i + 1) xs)) (ap (is_declared names) (sym is_text) ∙ new))
        ∙ ap (again_behind names) (sym (ap F drop_at ∙ opens x (drop (i + 1) xs)))
        ∙ same

    -- it stands before
    pub word_again : (told : Option Word) (number : ℕ) → number ≡ (g x).number → is_declared names text ≡ true →
        again_behind names (F (drop i xs)) ≡ told → IsTold told number
    word_again told number is there same =
        ap (option_map (λ (w : Word). w.number)) (sym same ∙ ap (again_behind names) (ap F drop_at ∙ opens x (drop (i + 1) xs)) ∙ again_here names (g x) (F (drop (i + 1) xs)) (ap (is_declared names) (sym is_text) ∙ there))
        ∙ ap Some (sym is)

  -- the first word that one of them tells: T is what a call found
  module _ (F : List A → Option Word) (g : A → Option Word) (opens : (y : A) (ys : List A) → F (y ∷ ys) ≡ option_or (g y) (F ys)) {T : Type 0} (f : T → Word) where
    first_opened : (told : Option Word) → F (drop i xs) ≡ told → option_or (g x) (F (drop (i + 1) xs)) ≡ told
    first_opened told same = sym (ap F drop_at ∙ opens x (drop (i + 1) xs)) ∙ same

    pub first_here : (found : Option T) (told : Option Word) → is_some found ≡ true → option_map f found ≡ g x → F (drop i xs) ≡ told → option_map f found ≡ told
    first_here None told some is same = absurd cc
    first_here (Some t) told some is same = ap (λ o. option_or o (F (drop (i + 1) xs))) is ∙ first_opened told same

    pub first_later : (found : Option T) (told : Option Word) → is_some found ≡ false → option_map f found ≡ g x → F (drop i xs) ≡ told → F (drop (i + 1) xs) ≡ told
    first_later None told none is same = ap (λ o. option_or o (F (drop (i + 1) xs))) is ∙ first_opened told same
    first_later (Some t) told none is same = absurd cc

  -- words, several for each
  module _ (F : List A → List Word) (h : A → List Word) (opens : (y : A) (ys : List A) → F (y ∷ ys) ≡ h y ++ F ys) (names : List Text) where
    pub opened_again : (told : Option Word) → again_behind names (F (drop i xs)) ≡ told →
        option_or (again_behind names (h x)) (again_behind (with_words names (h x)) (F (drop (i + 1) xs))) ≡ told
    opened_again told same =
        sym (ap (again_behind names) (ap F drop_at ∙ opens x (drop (i + 1) xs)) ∙ again_append names (h x) (F (drop (i + 1) xs))) ∙ same

    pub words_names : (next all : List Text) → next ≡ with_words names (h x) → with_words names (F (drop i xs)) ≡ all → with_words next (F (drop (i + 1) xs)) ≡ all
    words_names next all added same =
        ap (λ l. l ++ letters_of (F (drop (i + 1) xs))) added
        ∙ append_assoc names (letters_of (h x)) (letters_of (F (drop (i + 1) xs)))
        ∙ ap (λ l. names ++ l) (sym (map-append (λ (w : Word). w.letters) (h x) (F (drop (i + 1) xs))))
        ∙ ap (λ l. names ++ letters_of l) (sym (ap F drop_at ∙ opens x (drop (i + 1) xs)))
        ∙ same

    pub words_new : (next : List Text) (told : Option Word) → next ≡ with_words names (h x) → again_behind names (h x) ≡ None →
        again_behind names (F (drop i xs)) ≡ told → again_behind next (F (drop (i + 1) xs)) ≡ told
    words_new next told added none same =
        ap (λ l. again_behind l (F (drop (i + 1) xs))) added
        ∙ sym (ap (λ o. option_or o (again_behind (with_words names (h x)) (F (drop (i + 1) xs)))) none)
        ∙ opened_again told same

    pub words_again : (told : Option Word) (number : ℕ) → IsTold (again_behind names (h x)) number → again_behind names (F (drop i xs)) ≡ told → IsTold told number
    words_again told number is same = by (again_behind names (h x)) is (opened_again told same)
      where
        by : (o : Option Word) → IsTold o number → option_or o (again_behind (with_words names (h x)) (F (drop (i + 1) xs))) ≡ told → IsTold told number
        by None e f = absurd cc
        by (Some w) e f = ap (option_map (λ (w : Word). w.number)) (sym f) ∙ e

-- nothing is left
module _ {A : Type 0} (xs : List A) (i : ℕ) (done : length xs ≤ i) (F : List A → List Word) (empty : F [] ≡ []) (names : List Text) where
  pub words_all : (all : List Text) → with_words names (F (drop i xs)) ≡ all → names ≡ all
  words_all all same = sym (nothing_behind names) ∙ sym (ap (with_words names) (ap F (drop_all i xs done) ∙ empty)) ∙ same
    where
      nothing_behind : (l : List Text) → l ++ [] ≡ l
      nothing_behind [] = refl
      nothing_behind (x ∷ xs) = ap (λ l. x ∷ l) (nothing_behind xs)

  pub none_again : (told : Option Word) → again_behind names (F (drop i xs)) ≡ told → told ≡ None
  none_again told same = sym same ∙ ap (again_behind names) (ap F (drop_all i xs done) ∙ empty)

pub no_first : {A : Type 0} (xs : List A) (i : ℕ) → length xs ≤ i → (F : List A → Option Word) → F [] ≡ None → (told : Option Word) → F (drop i xs) ≡ told → None ≡ told
no_first xs i done F empty told same = sym (ap F (drop_all i xs done) ∙ empty) ∙ same

-- a fault that `?` hands on
pub handed_on : {T F : Type 0} (P Q : F → Type 0) (result : Result T (OrMemory F)) (e : OrMemory F) → IsErrAnd result (λ y. y ≡ e) →
    ((f : F) → P f → Q f) → Because P e → IfFault result Q
handed_on P Q (Ok x) e h leads p = absurd h
handed_on P Q (Err y) e h leads p = subst (Because Q) (sym h) (still e p)
  where
    still : (e : _) → Because P e → Because Q e
    still (Fault f) q = leads f q
    still (Memory m) q = tt
