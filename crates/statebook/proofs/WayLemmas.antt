-- Facts about forced ways and the runs that take them.
use Rattle.std.proofs.Common.{◌≡◌, ℕ, suc, true, false, arith, sym, ◌∙◌, subst, inl, inr}
use Rattle.std.proofs.lemmas.Bool.{cases_lt}
use Rattle.sched_core.specs.Rules.{Rules, IsLawful}
use Rattle.statebook.specs.Stations.{is_station, forced_state}
use Rattle.statebook.proofs.RunLemmas.{is_station_same, width_between}
use Rattle.statebook.specs.Ways.{GoesPast}
use Rattle.statebook.specs.Inner.Forced.{Passes}
use Rattle.statebook.proofs.NextLemmas.{forced_same}

pub passes_one : {S : Type 0} (r : Rules S) → IsLawful r → (s t u : S) (m : ℕ) → Passes r s t m → is_station r t ≡ false → r.same u (r.after t 0) ≡ true → Passes r s u (suc m)
passes_one r law s t u m p none e =
    let one : r.width t ≡ 1 = width_between r t none in
    let step : r.same (r.after t 0) (r.after (forced_state r s m) 0) ≡ true = law.after_same t (forced_state r s m) 0 p.same (omega arith) in
    let here : is_station r (forced_state r s m) ≡ false = sym (is_station_same r law t (forced_state r s m) p.same) ∙ none in
    record {
      same = law.transitive u (r.after t 0) (forced_state r s (suc m)) e step;
      passes = λ j lt. elim (cases_lt j m) [
        | inl less ↦ p.passes j less
        | inr ge ↦ (
            let P : ℕ → Type 0 = λ i. is_station r (forced_state r s i) ≡ false in
            let at : m ≡ j = omega arith in
            subst P at here)
      ];
    }

-- from equal states the way goes past the limit alike
pub past_same : {S : Type 0} (r : Rules S) → IsLawful r → (s t : S) (taken limit : ℕ) → r.same t s ≡ true → GoesPast r t taken limit → GoesPast r s taken limit
past_same r law s t taken limit e past j le =
    let alike : r.same (forced_state r t j) (forced_state r s j) ≡ true = forced_same r law t s j e (λ i lt. past i (omega (arith, lt, le))) in
    sym (is_station_same r law (forced_state r t j) (forced_state r s j) alike) ∙ past j le
