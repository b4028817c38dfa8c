-- Names kept as keys, and lists in which a name stands twice.
use Rattle.std.proofs.Common.{◌≡◌, ℕ, ◌+◌, Bool, true, false, cond, ◌||◌, not, if◌then◌else◌, nat_lt, List, [], ◌∷◌, ◌++◌, map, length, position, Bor, Option, Some, None, refl, sym, ap, subst, ◌∙◌, true≢false, append_assoc}
use Rattle.std.specs.List.{list_any, prefix_len}
use Rattle.std.specs.Str.{bytes_eq}
use Rattle.std.specs.Cmp.Lexicographic.{nat_list_eq_equiv}
use Rattle.std.proofs.lemmas.List.{length-map, map-append}
use Rattle.std.proofs.lemmas.List.Folds.{list_any-append}
use Rattle.basis.proofs.Bools.{or_second, or_left, or_right}
use Rattle.vwords.specs.Words.{Text}
use Rattle.std.specs.Option.{option_or}
use Rattle.vast.specs.NumberedWords.{Word}
use Rattle.vmodules.specs.Names.{is_declared, has_double, letters_of, again_behind}

abbrev pub texts : List (Bor Text) → List Text
texts = map (λ key. key.now)

pub any-texts : (p : Text → Bool) (keys : List (Bor Text)) → list_any (λ (key : Bor Text). p key.now) keys ≡ list_any p (texts keys)
any-texts p [] = refl
any-texts p (key ∷ keys) = ap (λ b. p key.now || b) (any-texts p keys)

prefix-texts : (p : Text → Bool) (keys : List (Bor Text)) → prefix_len (λ (key : Bor Text). p key.now) keys ≡ prefix_len p (texts keys)
prefix-texts p [] = refl
prefix-texts p (key ∷ keys) = ap (λ n. cond (p key.now) (1 + n) 0) (prefix-texts p keys)

pub position-texts : (p : Text → Bool) (keys : List (Bor Text)) → position (λ (key : Bor Text). p key.now) keys ≡ position p (texts keys)
position-texts p keys = λ i. found (prefix-texts (λ t. not (p t)) keys i) (shown i)
  where
    found : ℕ → ℕ → Option ℕ
    found n m = cond (nat_lt n m) (Some n) None

    shown : length keys ≡ length (texts keys)
    shown = sym (length-map keys (λ (key : Bor Text). key.now))

or_false : (a b : Bool) → a ≡ false → b ≡ false → (a || b) ≡ false
or_false a b e f = (λ i. e i || f i)

-- a name that stands before is there twice
pub double_at : (xs rest : List Text) (y : Text) → is_declared xs y ≡ true → has_double (xs ++ y ∷ rest) ≡ true
double_at [] rest y there = absurd (true≢false (sym there))
double_at (x ∷ xs) rest y there = by (bytes_eq y x) refl (double_at xs rest y)
  where
    among : bytes_eq x y ≡ true → list_any (bytes_eq x) (xs ++ y ∷ rest) ≡ true
    among e = list_any-append (bytes_eq x) xs (y ∷ rest) ∙ or_second (list_any (bytes_eq x) xs) (list_any (bytes_eq x) (y ∷ rest)) (ap (λ b. b || list_any (bytes_eq x) rest) e)

    by : (b : Bool) → bytes_eq y x ≡ b → (is_declared xs y ≡ true → has_double (xs ++ y ∷ rest) ≡ true) →
        (list_any (bytes_eq x) (xs ++ y ∷ rest) || has_double (xs ++ y ∷ rest)) ≡ true
    by true e later = ap (λ b. b || has_double (xs ++ y ∷ rest)) (among (nat_list_eq_equiv.symm x y ∙ e))
    by false e later = or_second (list_any (bytes_eq x) (xs ++ y ∷ rest)) (has_double (xs ++ y ∷ rest))
        (later (sym (ap (λ b. b || is_declared xs y) e) ∙ there))

-- a name that doesn't stand before may come last
pub no_double-push : (xs : List Text) (y : Text) → has_double xs ≡ false → is_declared xs y ≡ false → has_double (xs ++ y ∷ []) ≡ false
no_double-push [] y none new = refl
no_double-push (x ∷ xs) y none new =
    or_false (list_any (bytes_eq x) (xs ++ y ∷ [])) (has_double (xs ++ y ∷ []))
    (
    list_any-append (bytes_eq x) xs (y ∷ [])
    ∙ or_false (list_any (bytes_eq x) xs) (bytes_eq x y || false) (or_left (list_any (bytes_eq x) xs) (has_double xs) none)
    (or_false (bytes_eq x y) false (nat_list_eq_equiv.symm x y ∙ or_left (bytes_eq y x) (is_declared xs y) new) refl)
    )
    (no_double-push xs y (or_right (list_any (bytes_eq x) xs) (has_double xs) none) (or_right (bytes_eq y x) (is_declared xs y) new))

-- the names after one was put in, where it is new
pub no_double-inserted : (keys new : List (Bor Text)) (key : Bor Text) → has_double (texts keys) ≡ false →
    new ≡ (if list_any (λ (k : Bor Text). bytes_eq key.now k.now) keys then keys else keys ++ key ∷ []) → has_double (texts new) ≡ false
no_double-inserted keys new key none is = by (list_any (λ (k : Bor Text). bytes_eq key.now k.now) keys) refl
  where
    by : (b : Bool) → list_any (λ (k : Bor Text). bytes_eq key.now k.now) keys ≡ b → has_double (texts new) ≡ false
    by true e = ap (λ ks. has_double (texts ks)) (is ∙ ap (λ b. if b then keys else keys ++ key ∷ []) e) ∙ none
    by false e =
        ap (λ ks. has_double (texts ks)) (is ∙ ap (λ b. if b then keys else keys ++ key ∷ []) e)
        ∙ ap has_double (map-append (λ (k : Bor Text). k.now) keys (key ∷ []))
        ∙ no_double-push (texts keys) key.now none (sym (any-texts (bytes_eq key.now) keys) ∙ e)

-- the next name stands before
pub doubles : (names rest all : List Text) (name : Text) → names ++ name ∷ rest ≡ all → is_declared names name ≡ true → has_double all ≡ true
doubles names rest all name is there = subst (λ l. has_double l ≡ true) is (double_at names rest name there)

-- ---- words that stand again

-- the next word stands before
pub again_here : (names : List Text) (word : Word) (more : List Word) → is_declared names word.letters ≡ true → again_behind names (word ∷ more) ≡ Some word
again_here names word more there = ap (λ b. if b then Some word else again_behind (names ++ word.letters ∷ []) more) there

-- the next word is new
pub again_next : (names : List Text) (word : Word) (more : List Word) → is_declared names word.letters ≡ false →
    again_behind names (word ∷ more) ≡ again_behind (names ++ word.letters ∷ []) more
again_next names word more new = ap (λ b. if b then Some word else again_behind (names ++ word.letters ∷ []) more) new

-- words in front of others
pub again_append : (names : List Text) (words more : List Word) →
    again_behind names (words ++ more) ≡ option_or (again_behind names words) (again_behind (names ++ letters_of words) more)
again_append names [] more = ap (λ l. again_behind l more) (sym (nothing_behind names))
  where
    nothing_behind : (l : List Text) → l ++ [] ≡ l
    nothing_behind [] = refl
    nothing_behind (x ∷ xs) = ap (λ l. x ∷ l) (nothing_behind xs)
again_append names (word ∷ words) more = by (is_declared names word.letters) (again_append (names ++ word.letters ∷ []) words more)
  where
    by : (b : Bool) → again_behind (names ++ word.letters ∷ []) (words ++ more) ≡ option_or (again_behind (names ++ word.letters ∷ []) words) (again_behind ((names ++ word.letters ∷ []) ++ letters_of words) more) →
        (if b then Some word else again_behind (names ++ word.letters ∷ []) (words ++ more))
        ≡ option_or (if b then Some word else again_behind (names ++ word.letters ∷ []) words) (again_behind (names ++ word.letters ∷ letters_of words) more)
    by true later = refl
    by false later = later ∙ ap (λ l. option_or (again_behind (names ++ word.letters ∷ []) words) (again_behind l more)) (append_assoc names (word.letters ∷ []) (letters_of words))
