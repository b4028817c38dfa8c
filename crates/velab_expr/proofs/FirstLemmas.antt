-- The first word of words in front of others.
use Rattle.std.proofs.Common.{◌≡◌, ℕ, None, Some, List, [], ◌∷◌, ◌++◌, refl}
use Rattle.vast.specs.NumberedWords.{Word}
use Rattle.velab_expr.specs.FirstWords.{head}
use Rattle.velab_expr.specs.Rules.{number_in}

-- there is none among the first
pub first_later : (xs ys : List Word) → number_in (head xs) ≡ None → number_in (head (xs ++ ys)) ≡ number_in (head ys)
first_later [] ys e = refl
first_later (x ∷ xs) ys e = cc

-- there is one
pub first_sooner : (xs ys : List Word) (number : ℕ) → number_in (head xs) ≡ Some number → number_in (head (xs ++ ys)) ≡ Some number
first_sooner [] ys number e = cc
first_sooner (x ∷ xs) ys number e = e
