-- The tokens that are kept, as lists grow behind words that were read with what was added. Plain variables.
use Rattle.std.proofs.Common.{◌≡◌, List, [], ◌∷◌, ◌++◌, sym, ap, ◌∙◌, append_assoc}
use Rattle.std.specs.List.{flat_map}
use Rattle.vast.specs.declared.token.Token.{Token}
use Rattle.vexpr_parse.proofs.Kept.{pushed}

-- one more was read
pub kept_next : {T : Type 0} (leaves : T → List Token) (list next : List T) (one : T) (start before left : List Token) →
    next ≡ list ++ one ∷ [] → before ≡ leaves one ++ left → start ≡ flat_map leaves list ++ before → start ≡ flat_map leaves next ++ left
kept_next leaves list next one start before left pushing reading so_far =
    so_far ∙ ap (λ l. flat_map leaves list ++ l) reading ∙ sym (pushed leaves list next one left pushing)

-- one more name
pub name_next : (list next : List Token) (one : Token) (start before left : List Token) →
    next ≡ list ++ one ∷ [] → before ≡ one ∷ left → start ≡ list ++ before → start ≡ next ++ left
name_next list next one start before left pushing reading so_far =
    so_far ∙ ap (λ l. list ++ l) reading ∙ sym (append_assoc list (one ∷ []) left) ∙ ap (λ l. l ++ left) (sym pushing)
