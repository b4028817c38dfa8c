-- Counters that are set back, and events that are heard.
use Rattle.std.proofs.Common.{◌≡◌, ℕ, zero, suc, true, List, [], ◌∷◌, Option, None, Some, refl, ap, arith}
use Rattle.std.specs.Prelude.{slice_get, slice_set, unwrap_or}
use Rattle.std.proofs.lemmas.Bool.Decides.{nat_tests}
use Rattle.vcode.specs.Code.{Code, counter_at, turns_by, turns_at, with_counter}
use Rattle.vmodel.specs.Waking.{is_triggered}
use Rattle.vflat.specs.InnerFlat.{with_left}

back_by : (turns : List ℕ) (counter n : ℕ) → slice_set (slice_set turns counter n) counter (unwrap_or (slice_get turns counter) 0) ≡ turns
back_by [] counter n = refl
back_by (t ∷ turns) zero n = refl
back_by (t ∷ turns) (suc counter) n = ap (λ ts. t ∷ ts) (back_by turns counter n)

counter_back : (own : Option ℕ) (turns : List ℕ) (n : ℕ) → with_counter own (turns_by turns own) (with_counter own n turns) ≡ turns
counter_back None turns n = refl
counter_back (Some counter) turns n = back_by turns counter n

-- a counter is set back
pub set_back : (code : Code) (turns : List ℕ) (place n : ℕ) →
    with_left code place (Some (turns_at code turns place)) (with_left code place (Some n) turns) ≡ turns
set_back code turns place n = counter_back (counter_at code place) turns n

-- an event that is triggered is heard
pub hears_itself : (event : ℕ) → is_triggered (Some event) event ≡ true
hears_itself event = grind (arith, nat_tests)
