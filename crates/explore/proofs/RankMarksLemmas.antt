-- The marks of a map, as a list.
use Rattle.std.proofs.Common.{◌≡◌, ℕ, List, [], ◌∷◌, ◌++◌, ap, sym, ◌∙◌, append_assoc, append-nil}
use Rattle.statebook.proofs.BookLemmas.{map-append_one}
use Rattle.explore.specs.Ranked.{pairs_of}
use Rattle.explore.specs.declared.rank_marks.FoundMark.{FoundMark}

-- the first of what is left was put behind the list
pub one_more : {S : Type 0} (old new : List (FoundMark S)) (left rest all : List (S × List (ℕ × ℕ))) (found : FoundMark S) → pairs_of old ++ left ≡ all → left ≡ (found.state, found.log) ∷ rest → new ≡ old ++ found ∷ [] → pairs_of new ++ rest ≡ all
one_more old new left rest all found so_far first is =
    ap (λ l. pairs_of l ++ rest) is ∙ ap (λ l. l ++ rest) (map-append_one (λ m. (m.state, m.log)) old found) ∙ append_assoc (pairs_of old) ((found.state, found.log) ∷ []) rest
    ∙ ap (λ l. pairs_of old ++ l) (sym first) ∙ so_far

-- nothing is left
pub all_there : {S : Type 0} (found : List (FoundMark S)) (left all : List (S × List (ℕ × ℕ))) → pairs_of found ++ left ≡ all → left ≡ [] → pairs_of found ≡ all
all_there found left all so_far none = sym (append-nil (pairs_of found)) ∙ ap (λ l. pairs_of found ++ l) (sym none) ∙ so_far
