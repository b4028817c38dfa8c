-- The tokens that are kept, as lists grow. Plain variables.
use Rattle.std.proofs.Common.{◌≡◌, List, [], ◌∷◌, ◌++◌, Result, Ok, Err, IfOk, refl, sym, ap, ◌∙◌, append_assoc}
use Rattle.std.specs.List.{flat_map}
use Rattle.std.proofs.lemmas.List.{append-nil}
use Rattle.std.proofs.lemmas.Grind.{flat_map-append}
use Rattle.vast.specs.declared.token.Token.{Token}

module _ {T : Type 0} (leaves : T → List Token) where
  -- one more at the end
  pub pushed : (list next : List T) (one : T) (left : List Token) → next ≡ list ++ one ∷ [] →
      flat_map leaves next ++ left ≡ flat_map leaves list ++ (leaves one ++ left)
  pushed list next one left e =
      ap (λ l. flat_map leaves l ++ left) e
      ∙ ap (λ l. l ++ left) (flat_map-append leaves list (one ∷ []))
      ∙ append_assoc (flat_map leaves list) (leaves one ++ []) left
      ∙ ap (λ l. flat_map leaves list ++ (l ++ left)) (append-nil (leaves one))

  -- one more is read behind a word that no tree keeps
  pub kept_more : (list next : List T) (one : T) (start before here between left : List Token) → next ≡ list ++ one ∷ [] →
      here ≡ [] → before ≡ here ++ between → between ≡ leaves one ++ left → start ≡ flat_map leaves list ++ before →
      start ≡ flat_map leaves next ++ left
  kept_more list next one start before here between left pushing none passing reading so_far =
      so_far
      ∙ ap (λ l. flat_map leaves list ++ l) (passing ∙ ap (λ l. l ++ between) none ∙ reading)
      ∙ sym (pushed list next one left pushing)

-- what is read behind a word that no tree keeps
pub kept_behind : {T E : Type 0} (leaves : T → List Token) (result : Result T E) (before here between left : List Token) → here ≡ [] →
    before ≡ here ++ between → IfOk result (λ one. between ≡ leaves one ++ left) → IfOk result (λ one. before ≡ leaves one ++ left)
kept_behind leaves (Ok one) before here between left none passing reading = passing ∙ ap (λ l. l ++ between) none ∙ reading
kept_behind leaves (Err e) before here between left none passing reading = tt

-- two that follow one another, behind a word that no tree keeps
pub kept_both : (one two before here between left all : List Token) → here ≡ [] → before ≡ here ++ between → between ≡ two ++ left →
    all ≡ one ++ two → one ++ before ≡ all ++ left
kept_both one two before here between left all none passing reading making =
    ap (λ l. one ++ l) (passing ∙ ap (λ l. l ++ between) none ∙ reading)
    ∙ sym (append_assoc one two left)
    ∙ ap (λ l. l ++ left) (sym making)
