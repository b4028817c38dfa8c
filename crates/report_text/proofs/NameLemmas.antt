-- Names kept as keys.
use Rattle.std.proofs.Common.{◌≡◌, ℕ, ◌+◌, Bool, true, false, cond, ◌||◌, not, if◌then◌else◌, nat_lt, List, [], ◌∷◌, ◌++◌, map, length, position, Bor, Option, Some, None, refl, sym, ap, ◌∙◌}
use Rattle.std.specs.List.{list_any, prefix_len}
use Rattle.std.specs.Str.{bytes_eq}
use Rattle.std.proofs.lemmas.List.{length-map, map-append}
use Rattle.std.proofs.lemmas.Bool.{not-true}
use Rattle.report_text.specs.Inner.Names.{is_among}

abbrev pub texts : List (Bor (List ℕ)) → List (List ℕ)
texts = map (λ key. key.now)

pub any-texts : (p : List ℕ → Bool) (keys : List (Bor (List ℕ))) → list_any (λ (key : Bor (List ℕ)). p key.now) keys ≡ list_any p (texts keys)
any-texts p [] = refl
any-texts p (key ∷ keys) = ap (λ b. p key.now || b) (any-texts p keys)

prefix-texts : (p : List ℕ → Bool) (keys : List (Bor (List ℕ))) → prefix_len (λ (key : Bor (List ℕ)). p key.now) keys ≡ prefix_len p (texts keys)
prefix-texts p [] = refl
prefix-texts p (key ∷ keys) = ap (λ n. cond (p key.now) (1 + n) 0) (prefix-texts p keys)

pub position-texts : (p : List ℕ → Bool) (keys : List (Bor (List ℕ))) → position (λ (key : Bor (List ℕ)). p key.now) keys ≡ position p (texts keys)
position-texts p keys = λ i. found (prefix-texts (λ t. not (p t)) keys i) (shown i)
  where
    found : ℕ → ℕ → Option ℕ
    found n m = cond (nat_lt n m) (Some n) None

    shown : length keys ≡ length (texts keys)
    shown = sym (length-map keys (λ (key : Bor (List ℕ)). key.now))

-- the names after one was put in
pub put_last : (keys new : List (Bor (List ℕ))) (key : Bor (List ℕ)) (names : List (List ℕ)) (added : Bool) → texts keys ≡ names → added ≡ not (list_any (λ (k : Bor (List ℕ)). bytes_eq key.now k.now) keys) → added ≡ true →
    new ≡ (if list_any (λ (k : Bor (List ℕ)). bytes_eq key.now k.now) keys then keys else keys ++ key ∷ []) → texts new ≡ names ++ key.now ∷ []
put_last keys new key names added shows is new_one e =
    let absent : list_any (λ (k : Bor (List ℕ)). bytes_eq key.now k.now) keys ≡ false = not-true _ (sym is ∙ new_one) in
    ap texts (e ∙ ap (λ b. if b then keys else keys ++ key ∷ []) absent) ∙ map-append (λ (k : Bor (List ℕ)). k.now) keys (key ∷ []) ∙ ap (λ t. t ++ key.now ∷ []) shows

pub among_shown : (keys : List (Bor (List ℕ))) (names : List (List ℕ)) (name : List ℕ) (added : Bool) → texts keys ≡ names → added ≡ not (list_any (λ (k : Bor (List ℕ)). bytes_eq name k.now) keys) → added ≡ not (is_among names name)
among_shown keys names name added shows is = is ∙ ap not (any-texts (bytes_eq name) keys ∙ ap (λ n. is_among n name) shows)
