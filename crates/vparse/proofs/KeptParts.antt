-- What two parts keep that follow one another. Plain variables.
use Rattle.std.proofs.Common.{◌≡◌, List, ◌++◌, sym, ap, ◌∙◌, append_assoc}
use Rattle.vast.specs.declared.token.Token.{Token}

-- behind a word that no tree keeps
pub kept_two : (one two start here between left : List Token) → start ≡ here → here ≡ one ++ between → between ≡ two ++ left →
    start ≡ (one ++ two) ++ left
kept_two one two start here between left passing reading then =
    passing ∙ reading ∙ ap (λ l. one ++ l) then ∙ sym (append_assoc one two left)
