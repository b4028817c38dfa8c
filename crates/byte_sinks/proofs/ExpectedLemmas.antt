-- What `strip_prefix` says, as what is left.
use Rattle.std.proofs.Common.{◌≡◌, ◌≢◌, ℕ, List, ◌++◌, Option, Some, None, option_map, refl, sym, ap, ◌∙◌}
use Rattle.std.specs.Prelude.{MatchOption}
use denote.Ref.{Bor}
use Rattle.byte_sinks.specs.Comparing.{rest_behind, rest_behind_front, only_front}

never_front : (text expected : List ℕ) (left : Option (List ℕ)) → left ≡ rest_behind text (Some expected) →
    ((rest : List ℕ) → expected ≢ text ++ rest) → None ≡ left
never_front text expected None is never = refl
never_front text expected (Some rest) is never = absurd (never rest (only_front text expected rest (sym is)))

pub is_stripped : (expected text : List ℕ) (r : Option (Bor (List ℕ))) →
    MatchOption r ((rest : List ℕ) → expected ≢ text ++ rest) (λ x. expected ≡ text ++ x.now) →
    option_map (λ x. x.now) r ≡ rest_behind text (Some expected)
is_stripped expected text None never = never_front text expected (rest_behind text (Some expected)) refl never
is_stripped expected text (Some x) is = sym (ap (λ (xs : List ℕ). rest_behind text (Some xs)) is ∙ rest_behind_front text x.now)
