-- Ends and races gone through place by place, each end with its dump.
use Rattle.std.proofs.Common.{◌≡◌, ℕ, zero, suc, ◌+◌, ◌-◌, ◌<◌, ◌≤◌, ◌⊎◌, inl, inr, Bool, true, false, List, [], ◌∷◌, length, take, get_or, slice_get, Some, option_map, Decides, Bor, refl, sym, ap, ◌∙◌, subst, add-one, arith}
use Rattle.std.proofs.lemmas.Bool.{cases_lt}
use Rattle.std.proofs.lemmas.Option.{same_Some, slice_get-map, slice_get-get_or}
use Rattle.basis.proofs.Lists.{listed_place, place_within, taken_at}
use Rattle.vmodel.specs.Run.{Setting}
use Rattle.report_text.specs.Report.{End, LineRace, Report}
use Rattle.vreport.specs.Truth.{AreTrueEnds, IsTrueEndOf, IsTrueLineRace}
use Rattle.report_check.specs.Claims.{AreTrueAt}
use Rattle.report_check.specs.FirstBad.{AreFirstEndsTrue, AreFirstRacesTrue, IsFalseEnd, IsFalseLineRace, IsFalseRace, texts_of}
use Rattle.report_check.specs.Inner.{AreTrueRaces}
use Rattle.report_check.proofs.ClaimLemmas.{line_race_so, race_so, so_line_race, so_race}

-- one end more is true
ends_next : (setting : Setting) (report : Report) (ends : List End) (dumps : List (List ℕ)) (n : ℕ) (end : End) (dump : List ℕ) →
    slice_get ends n ≡ Some end → slice_get dumps n ≡ Some dump → AreTrueEnds setting report (take n ends) (take n dumps) →
    IsTrueEndOf setting report end dump → AreTrueEnds setting report (take (suc n) ends) (take (suc n) dumps)
ends_next setting report [] dumps n end dump at dump_at are is = absurd (cc)
ends_next setting report (e ∷ ends) [] n end dump at dump_at are is = absurd (cc)
ends_next setting report (e ∷ ends) (d ∷ dumps) zero end dump at dump_at are is =
    (subst (λ (x : End). IsTrueEndOf setting report x d) (sym (same_Some e end at)) (subst (λ (y : List ℕ). IsTrueEndOf setting report end y) (sym (same_Some d dump dump_at)) is), refl)
ends_next setting report (e ∷ ends) (d ∷ dumps) (suc n) end dump at dump_at are is =
    (are.0, ends_next setting report ends dumps n end dump at dump_at are.1 is)

module _ (setting : Setting) (report : Report) (dumps : List (Bor (List ℕ))) (place : ℕ) (end : End) (none : Bor (List ℕ)) (answer : Bool)
    (as_long : length dumps ≡ length report.ends) (within : place < length report.ends) (here : end ≡ get_or report.ends place end)
    (decides : Decides answer (IsTrueEndOf setting report end (get_or dumps place none).now)) (are : AreFirstEndsTrue setting report (texts_of dumps) place) where
  end_at : slice_get report.ends place ≡ Some end
  end_at = slice_get-get_or report.ends place end within ∙ ap Some (sym here)

  dump_at : slice_get (texts_of dumps) place ≡ Some (get_or dumps place none).now
  dump_at = slice_get-map (λ dump. dump.now) dumps place ∙ ap (option_map (λ dump. dump.now)) (slice_get-get_or dumps place none (omega (arith, within, as_long)))

  -- it is the first that isn't true
  pub first_false : answer ≡ false → AreFirstEndsTrue setting report (texts_of dumps) place × IsFalseEnd setting report (texts_of dumps) place
  first_false no_more = (
    are,
    record {
      end = end;
      dump = (get_or dumps place none).now;
      at = end_at;
      dump_at = dump_at;
      not_true = λ is. absurd (let bad : true ≡ false = sym (decides.1 is) ∙ no_more in cc);
    },
  )

  -- it is true as well
  pub one_more : answer ≡ true → AreFirstEndsTrue setting report (texts_of dumps) (place + 1)
  one_more is = subst (λ (k : ℕ). AreFirstEndsTrue setting report (texts_of dumps) k) (sym (add-one place))
      (ends_next setting report report.ends (texts_of dumps) place end (get_or dumps place none).now end_at dump_at are (decides.0 is))

-- ---- races, gone through place by place

-- all claims of the races before the place are true
abbrev pub AreTrueBelow : Setting → Report → ℕ → Type 0
AreTrueBelow setting report n = (race : ℕ) → race < n → AreTrueAt setting report race

module _ (setting : Setting) (report : Report) (n : ℕ) (below : AreTrueBelow setting report n) where
  -- a race of lines that stands behind so many
  line_race_below : (i : ℕ) (race : LineRace) → slice_get report.line_races i ≡ Some race → length report.races + i < n → IsTrueLineRace setting report race
  line_race_below i race at lt =
      let e : length report.races + i - length report.races ≡ i = omega arith in
      line_race_so setting report (length report.races + i) race (omega arith) (ap (slice_get report.line_races) e ∙ at) (below (length report.races + i) lt)

  first_races : AreFirstRacesTrue setting report n
  first_races = (
    λ i race at. (let h = taken_at n report.races i race at in race_so setting report i race h.1 (below i h.0)),
    λ i race at. (let h = taken_at (n - length report.races) report.line_races i race at in
        line_race_below i race h.1 (let lt = h.0 in omega (arith, lt))),
  )

  -- all are true
  pub all_races : length report.races + length report.line_races ≤ n → AreTrueRaces setting report
  all_races end = record {
    of_variables = λ i race at. race_so setting report i race at (below i (let lt = place_within report.races i race at in omega (arith, lt, end)));
    of_lines = λ i race at. line_race_below i race at (let lt = place_within report.line_races i race at in omega (arith, lt, end));
  }

  module _ (answer : Bool) (decides : Decides answer (AreTrueAt setting report n)) where
    -- the race at this place is true as well
    pub race_more : answer ≡ true → AreTrueBelow setting report (n + 1)
    race_more is race lt = elim (cases_lt race n) [
      | inl before ↦ below race before
      | inr late ↦ (let e : race ≡ n = omega (arith, lt, late) in subst (AreTrueAt setting report) (sym e) (decides.0 is))
    ]

    -- it is the first that isn't true
    pub false_race : n < length report.races + length report.line_races → answer ≡ false →
        AreFirstRacesTrue setting report n × (IsFalseRace setting report n ⊎ IsFalseLineRace setting report n)
    false_race within no_more = (
      first_races,
      (let never : AreTrueAt setting report n → ⊥ = λ are. (let bad : true ≡ false = sym (decides.1 are) ∙ no_more in absurd cc) in
          elim (cases_lt n (length report.races)) [
            | inl first ↦ (let there = listed_place report.races n first in
                inl (record { race = there.0; at = there.1; not_true = λ is. never (so_race setting report n there.0 there.1 is) }))
            | inr behind ↦ (let there = listed_place report.line_races (n - length report.races) (omega (arith, within, behind)) in
                inr (record { race = there.0; behind = behind; at = there.1; not_true = λ is. never (so_line_race setting report n there.0 behind there.1 is) }))
          ]),
    )
