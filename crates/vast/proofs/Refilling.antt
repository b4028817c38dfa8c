-- Readers that fill a tree with words of a list, in their order, and what they make of a tree's own words.
use Rattle.std.proofs.Common.{◌≡◌, List, [], ◌∷◌, ◌++◌, map, Option, None, Some, refl, sym, ap, ap₂, ◌∙◌, append_assoc}
use Rattle.std.specs.Option.{option_map}
use Rattle.std.specs.List.{flat_map}
use Rattle.vast.specs.TreeWords.{words_if}

-- what was filled, and the words that are left
pub record Filled (V A : Type 0) : Type 0 where
  pub made : A
  pub left : List V

abbrev pub Filling : Type 0 → Type 0 → Type 0
Filling V A = List V → Filled V A

-- two things, one filled after the other
pub record Both (A B : Type 0) : Type 0 where
  pub one : A
  pub other : B

-- what is made of two, of three and of four

abbrev pub two : {A B C : Type 0} → (A → B → C) → Both A B → C
two make p = make p.one p.other

abbrev pub three : {A B C D : Type 0} → (A → B → C → D) → Both A (Both B C) → D
three make p = make p.one p.other.one p.other.other

abbrev pub four : {A B C D E : Type 0} → (A → B → C → D → E) → Both A (Both B (Both C D)) → E
four make p = make p.one p.other.one p.other.other.one p.other.other.other

module _ {V : Type 0} where
  -- what has no words
  abbrev pub pure : {A : Type 0} → A → Filling V A
  pure a words = record { made = a; left = words }

  -- the next word, or where none is left this one
  abbrev pub word : V → Filling V V
  word spare [] = record { made = spare; left = [] }
  word spare (w ∷ words) = record { made = w; left = words }

  -- one after the other
  abbrev pub both : {A B : Type 0} → Filling V A → Filling V B → Filling V (Both A B)
  both r s words = record {
    made = record { one = (r words).made; other = (s (r words).left).made };
    left = (s (r words).left).left;
  }

  -- made into something else
  abbrev pub made_to : {A B : Type 0} → (A → B) → Filling V A → Filling V B
  made_to g r words = record { made = g (r words).made; left = (r words).left }

  -- each of a list
  abbrev pub fill_list : {A B : Type 0} → (A → Filling V B) → List A → Filling V (List B)
  fill_list fill [] = pure []
  fill_list fill (x ∷ xs) = made_to (two (λ b bs. b ∷ bs)) (both (fill x) (fill_list fill xs))

  -- what may be left out
  abbrev pub fill_option : {A B : Type 0} → (A → Filling V B) → Option A → Filling V (Option B)
  fill_option fill None = pure None
  fill_option fill (Some x) = made_to Some (fill x)

  -- these words fill it to this, whatever words follow
  pub record Fills {A : Type 0} (r : Filling V A) (words : List V) (a : A) : Type 0 where
    pub fills : (more : List V) → r (words ++ more) ≡ record { made = a; left = more }

  pub pure_fills : {A : Type 0} (a : A) → Fills (pure a) [] a
  pure_fills a = record { fills = λ more. refl }

  pub word_fills : (spare w : V) → Fills (word spare) (w ∷ []) w
  word_fills spare w = record { fills = λ more. refl }

  pub both_fills : {A B : Type 0} {r : Filling V A} {s : Filling V B} {ws us : List V} {a : A} {b : B} →
      Fills r ws a → Fills s us b → Fills (both r s) (ws ++ us) (record { one = a; other = b })
  both_fills {r = r} {s} {ws} {us} {a} first second = record {
    fills = λ more.
        ap (both r s) (append_assoc ws us more)
        ∙ ap (λ filled. record { made = record { one = filled.made; other = (s filled.left).made }; left = (s filled.left).left }) (first.fills (us ++ more))
        ∙ ap (λ filled. record { made = record { one = a; other = filled.made }; left = filled.left }) (second.fills more);
  }

  pub made_fills : {A B : Type 0} {r : Filling V A} {ws : List V} {a : A} (g : A → B) → Fills r ws a → Fills (made_to g r) ws (g a)
  made_fills g first = record {
    fills = λ more. ap (λ filled. record { made = g filled.made; left = filled.left }) (first.fills more);
  }

  -- a list, filled with the words of its parts
  pub list_fills : {A B : Type 0} (fill : A → Filling V B) (h : B → A) (words : B → List V) →
      ((x : B) → Fills (fill (h x)) (words x) x) → (xs : List B) → Fills (fill_list fill (map h xs)) (flat_map words xs) xs
  list_fills fill h words each [] = pure_fills []
  list_fills fill h words each (x ∷ xs) = made_fills (two (λ b bs. b ∷ bs)) (both_fills (each x) (list_fills fill h words each xs))

  -- a list of words
  pub words_fill : {W : Type 0} (spare : V) (f : V → W) (xs : List V) → Fills (fill_list (λ x. word spare) (map f xs)) xs xs
  words_fill spare f [] = pure_fills []
  words_fill spare f (x ∷ xs) = made_fills (two (λ b bs. b ∷ bs)) (both_fills (word_fills spare x) (words_fill spare f xs))

  -- what may be left out, filled with the words of what is there
  pub option_fills : {A B : Type 0} (fill : A → Filling V B) (h : B → A) (words : B → List V) →
      ((x : B) → Fills (fill (h x)) (words x) x) → (x : Option B) → Fills (fill_option fill (option_map h x)) (words_if words x) x
  option_fills fill h words each None = pure_fills None
  option_fills fill h words each (Some x) = made_fills Some (each x)

  -- what can be filled with its words is told by them and by what it is without them
  pub filled_once : {A B : Type 0} (fill : A → Filling V B) (h : B → A) (words : B → List V) →
      ((x : B) → Fills (fill (h x)) (words x) x) → (m n : B) → h m ≡ h n → words m ≡ words n → m ≡ n
  filled_once fill h words each m n same_form same_words =
      ap (λ filled. filled.made)
      (sym ((each m).fills []) ∙ ap₂ (λ form list. fill form (list ++ [])) same_form same_words ∙ (each n).fills [])
