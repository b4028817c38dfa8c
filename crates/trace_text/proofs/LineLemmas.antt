-- The lines of a trace, word by word.
use Rattle.std.proofs.Common.{◌≡◌, ℕ, zero, suc, ◌+◌, List, [], ◌∷◌, ◌++◌, Option, None, Some, slice_get, drop, refl, ap, ◌∙◌, append_assoc, append-nil, add-one}
use Rattle.std.specs.Option.{option_to_list}
use Rattle.std.proofs.lemmas.Option.{same_Some}
use Rattle.std.specs.Prelude.{codes}
use Rattle.vsrc.specs.declared.expanded.Place.{Place}
use Rattle.vmodel.specs.declared.part.Part.{Part}
use Rattle.vmodel.specs.declared.part.Part.TheVariants.{Whole, Bits}
use Rattle.vmodel.specs.declared.frame.Frame.{Frame}
use Rattle.vmodel.specs.Inner.{variable_of as number_of, first_place}
use Rattle.trace_text.specs.Traces.{variable_of, known_place, first_origin, word_and_number, numbers_text}

-- the number of a part's variable
pub same_variable : (part : Part) → number_of part ≡ variable_of part
same_variable (Whole n value) = refl
same_variable (Bits n low value) = refl

-- where a process has nothing left there is no origin, and else it is that of its first action
pub no_origin : (origins : List (Option Place)) (frames : List Frame) → first_place frames ≡ None → first_origin origins frames ≡ None
no_origin origins [] e = refl
no_origin origins (frame ∷ after) e = absurd cc

pub some_origin : (origins : List (Option Place)) (frames : List Frame) (n : ℕ) → first_place frames ≡ Some n → first_origin origins frames ≡ known_place (slice_get origins n)
some_origin origins [] n e = absurd cc
some_origin origins (frame ∷ after) n e = ap (λ (place : ℕ). known_place (slice_get origins place)) (same_Some _ n e)

-- the number at a place, and those behind it
numbers_from : (set : List ℕ) (i : ℕ) → numbers_text (option_to_list (slice_get set i)) ++ numbers_text (drop (suc i) set) ≡ numbers_text (drop i set)
numbers_from [] zero = refl
numbers_from [] (suc i) = refl
numbers_from (p ∷ ps) zero = ap (λ (text : List ℕ). text ++ numbers_text ps) (append-nil (word_and_number (codes " ") p))
numbers_from (p ∷ ps) (suc i) = numbers_from ps i

pub numbers_on : (text next whole set : List ℕ) (i : ℕ) (found : Option ℕ) → found ≡ slice_get set i → next ≡ text ++ numbers_text (option_to_list found) →
    text ++ numbers_text (drop i set) ≡ whole → next ++ numbers_text (drop (i + 1) set) ≡ whole
numbers_on text next whole set i found is put so_far =
    let there : List ℕ = numbers_text (option_to_list found) in
    let behind : List ℕ = numbers_text (drop (suc i) set) in
    ap (λ (n : ℕ). next ++ numbers_text (drop n set)) (add-one i)
    ∙ ap (λ (front : List ℕ). front ++ behind) put
    ∙ append_assoc text there behind
    ∙ ap (λ (member : Option ℕ). text ++ (numbers_text (option_to_list member) ++ behind)) is
    ∙ ap (λ (rest : List ℕ). text ++ rest) (numbers_from set i)
    ∙ so_far
