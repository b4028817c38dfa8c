-- Lists and options whose parts are told and then changed, or told and then read off.
use Rattle.std.proofs.Common.{◌≡◌, List, [], ◌∷◌, ◌++◌, map, Option, None, Some, refl, sym, ap₂, ◌∙◌}
use Rattle.std.specs.Option.{option_map}
use Rattle.std.specs.List.{flat_map}
use Rattle.std.proofs.lemmas.List.{map-append}
use Rattle.vast.specs.Leaves.{if_some}
use Rattle.vast.specs.TreeWords.{words_if}
use Rattle.vast.specs.declared.token.Token.{Token}

module _ {A B C : Type 0} (g : B → C) (h : A → B) (k : A → C) (same : (x : A) → g (h x) ≡ k x) where
  -- changed after they are told, they are told changed
  pub map_same : (xs : List A) → map g (map h xs) ≡ map k xs
  map_same [] = refl
  map_same (x ∷ xs) = λ i. same x i ∷ map_same xs i

  -- the same of what may be left out
  pub option_same : (x : Option A) → option_map g (option_map h x) ≡ option_map k x
  option_same None = refl
  option_same (Some x) = λ i. Some (same x i)

module _ {W : Type 0} (told : Token → W) where
  -- words that stand one after the other
  pub joined_words : {xs ys : List W} (ts us : List Token) → xs ≡ map told ts → ys ≡ map told us → xs ++ ys ≡ map told (ts ++ us)
  joined_words ts us p q = ap₂ ◌++◌ p q ∙ sym (map-append told ts us)

  module _ {A B : Type 0} (words : B → List W) (h : A → B) (leaves : A → List Token) (same : (x : A) → words (h x) ≡ map told (leaves x)) where
    -- the words of all parts
    pub flat_words : (xs : List A) → flat_map words (map h xs) ≡ map told (flat_map leaves xs)
    flat_words [] = refl
    flat_words (x ∷ xs) = joined_words (leaves x) (flat_map leaves xs) (same x) (flat_words xs)

    -- the words of what may be left out
    pub words_if_some : (x : Option A) → words_if words (option_map h x) ≡ map told (if_some leaves x)
    words_if_some None = refl
    words_if_some (Some x) = same x
