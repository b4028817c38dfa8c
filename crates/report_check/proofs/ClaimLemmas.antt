-- The claims of a report: where they stand, and when the races that they are of are true.
use Rattle.std.proofs.Common.{◌≡◌, ℕ, zero, suc, ◌+◌, ◌-◌, ◌<◌, ◌≤◌, Bool, List, [], ◌∷◌, ◌++◌, length, map, slice_get, option_map, Option, Some, None, Result, Ok, Err, IfOk, Decides, sym, ap, ◌∙◌, subst, inl, inr, arith}
use Rattle.std.proofs.lemmas.Bool.{cases_lt}
use Rattle.std.proofs.lemmas.List.{length-map}
use Rattle.std.proofs.lemmas.Option.{same_Some, slice_get-map}
use Rattle.basis.proofs.Lists.{of_mapped, stands_in_front}
use Rattle.sched_core.specs.BagLaws.{lines_tell}
use Rattle.sched_core.specs.Bags.{lines_same}
use Rattle.vbits.specs.Vectors.{Vector}
use Rattle.vmodel.specs.State.{State}
use Rattle.vmodel.specs.Run.{Setting, state_after}
use Rattle.vmachine.specs.declared.machine_state.MachineState.{MachineState}
use Rattle.vmachine.specs.Machines.{Stands}
use Rattle.vmachine.specs.Reads.{slot_in}
use Rattle.racebook.proofs.FoundLemmas.{slot_ends, ends_slot}
use Rattle.report_text.specs.Report.{LineRace, Race, Report}
use Rattle.vreport.specs.Truth.{IsTrueLineRace, IsTrueLines, IsTrueRace, IsTrueWitness}
use Rattle.report_check.specs.Claims.{AreTrueAt, Claim, HasClaims, HasValue, IsClaimAt, IsSightAt, IsTrueAt, IsTrueClaim, TellsState}
use Rattle.report_check.specs.Claims.{claim_in, claim_of, claims, lines_claim, lines_claims, value_claim, value_claims}
use Rattle.value_text.specs.ValueText.{binary}

-- ---- what is seen of a state

-- a value that stands there is seen where its digits are those that are told
pub value_when : (t : State) (variable : ℕ) (digits : List ℕ) (value : Vector) (answer : Bool) → slice_get t.values variable ≡ Some value →
    Decides answer (binary value ≡ digits) → Decides answer (HasValue variable digits t)
value_when t variable digits value answer at same = (
  λ h. record { value = value; value_is = at; digits_are = sym (same.0 h) },
  λ s. same.1 (ap binary (same_Some value s.value (sym at ∙ s.value_is)) ∙ sym s.digits_are),
)

-- a claim of the slot that ends there is shown where what it claims is seen
pub claim_shown : {E : Type 0} (setting : Setting) (s : MachineState) (claim : Claim) (r : Result Bool E) →
    ((t : State) → Stands setting s t → slot_in t ≡ Some claim.time) → IfOk r (TellsState setting s (IsSightAt claim.sight)) → IfOk r (TellsState setting s (IsClaimAt claim))
claim_shown setting s claim (Ok answer) slot tells = λ t at. (
  λ h. record { slot_is = slot t at; sight_is = (tells t at).0 h },
  λ is. (tells t at).1 is.sight_is,
)
claim_shown setting s claim (Err e) slot tells = tt

-- lines that are there are those that are told where they are equal
pub lines_alike : {told printed : Option (List (List ℕ))} (a b : List (List ℕ)) (answer : Bool) → told ≡ Some a → printed ≡ Some b → answer ≡ lines_same a b →
    Decides answer (told ≡ printed)
lines_alike a b answer told_is printed_is is =
    let d = lines_tell a b in (λ h. told_is ∙ ap Some (d.0 (sym is ∙ h)) ∙ sym printed_is, λ e. is ∙ d.1 (same_Some a b (sym told_is ∙ e ∙ printed_is)))

-- ---- a claim of a value or of lines, and what it claims

module _ (setting : Setting) (report : Report) where
  -- of a value
  pub value_so : (race : Race) (witness : List ℕ × List (ℕ × ℕ)) → IsTrueClaim setting report (value_claim race witness) →
      IsTrueWitness setting report race.time race.variable witness
  value_so race witness is =
      let seen = is.seen in
      let at = seen.before.at in
      let earlier = seen.before.earlier in
      let t = state_after setting witness.1 at in
      let here = seen.before.seen in
      record {
        value = here.sight_is.value;
        text_is = here.sight_is.digits_are;
        steps = seen.steps;
        run = seen.run;
        names = seen.names;
        within = seen.within;
        at = at;
        reached = omega (arith, earlier);
        shown = record {
          run = λ k lt. seen.run k (omega (arith, lt, earlier));
          values = t.values;
          slot = slot_ends t race.time here.slot_is;
          value_is = here.sight_is.value_is;
        };
        short = is.short;
      }

  pub so_value : (race : Race) (witness : List ℕ × List (ℕ × ℕ)) → IsTrueWitness setting report race.time race.variable witness →
      IsTrueClaim setting report (value_claim race witness)
  so_value race witness is = record {
    seen = record {
      steps = is.steps;
      run = is.run;
      names = is.names;
      within = is.within;
      before = record {
        at = is.at;
        earlier = (let le = is.reached in omega (arith, le));
        seen = record {
          slot_is = ends_slot (state_after setting witness.1 is.at) race.time is.shown.values is.shown.slot;
          sight_is = record {
            value = is.value;
            value_is = ap (λ (xs : List Vector). slice_get xs race.variable) is.shown.slot.values_are ∙ is.shown.value_is;
            digits_are = is.text_is;
          };
        };
      };
    };
    short = is.short;
  }

  -- of lines
  pub lines_so : (race : LineRace) (side : List (List ℕ) × List (ℕ × ℕ)) → IsTrueClaim setting report (lines_claim race side) →
      IsTrueLines setting report race.time side
  lines_so race side is =
      let seen = is.seen in
      let at = seen.before.at in
      let earlier = seen.before.earlier in
      let t = state_after setting side.1 at in
      let here = seen.before.seen in
      record {
        steps = seen.steps;
        run = seen.run;
        names = seen.names;
        within = seen.within;
        at = at;
        reached = omega (arith, earlier);
        shown = record {
          run = λ k lt. seen.run k (omega (arith, lt, earlier));
          values = t.values;
          slot = slot_ends t race.time here.slot_is;
          printed = sym here.sight_is;
        };
        short = is.short;
      }

  pub so_lines : (race : LineRace) (side : List (List ℕ) × List (ℕ × ℕ)) → IsTrueLines setting report race.time side →
      IsTrueClaim setting report (lines_claim race side)
  so_lines race side is = record {
    seen = record {
      steps = is.steps;
      run = is.run;
      names = is.names;
      within = is.within;
      before = record {
        at = is.at;
        earlier = (let le = is.reached in omega (arith, le));
        seen = record {
          slot_is = ends_slot (state_after setting side.1 is.at) race.time is.shown.values is.shown.slot;
          sight_is = sym is.shown.printed;
        };
      };
    };
    short = is.short;
  }

-- ---- places

-- what stands behind the first list
pub behind_first : {X : Type 0} (xs ys : List X) (i : ℕ) → length xs ≤ i → slice_get (xs ++ ys) i ≡ slice_get ys (i - length xs)
behind_first [] ys i le = ap (slice_get ys) (let e : i ≡ i - 0 = omega arith in e)
behind_first (x ∷ xs) ys zero le = absurd (omega (arith, le))
behind_first (x ∷ xs) ys (suc i) le =
    behind_first xs ys i (omega (arith, le)) ∙ ap (slice_get ys) (let e : i - length xs ≡ suc i - suc (length xs) = omega arith in e)

module _ (report : Report) (place i : ℕ) where
  -- in a race of a variable
  pub value_in : (race : Race) → slice_get report.races place ≡ Some race →
      claim_in report (place, i) ≡ option_map (value_claim race) (slice_get race.values i)
  value_in race at =
      ap (λ (all : Option (List Claim)). claim_of all i)
      (stands_in_front (map value_claims report.races) (map lines_claims report.line_races) place (value_claims race)
      (slice_get-map value_claims report.races place ∙ ap (option_map value_claims) at))
      ∙ slice_get-map (value_claim race) race.values i

  -- behind them
  behind_values : length report.races ≤ place →
      slice_get (claims report) place ≡ option_map lines_claims (slice_get report.line_races (place - length report.races))
  behind_values le =
      let same : length (map value_claims report.races) ≡ length report.races = length-map report.races value_claims in
      behind_first (map value_claims report.races) (map lines_claims report.line_races) place (omega (arith, le, same))
      ∙ ap (λ (n : ℕ). slice_get (map lines_claims report.line_races) (place - n)) same
      ∙ slice_get-map lines_claims report.line_races (place - length report.races)

  -- in a race of lines
  pub lines_in : (race : LineRace) → length report.races ≤ place → slice_get report.line_races (place - length report.races) ≡ Some race →
      claim_in report (place, i) ≡ option_map (lines_claim race) (slice_get race.sides i)
  lines_in race le at =
      ap (λ (all : Option (List Claim)). claim_of all i) (behind_values le ∙ ap (option_map lines_claims) at)
      ∙ slice_get-map (lines_claim race) race.sides i

  -- behind all
  pub none_in : length report.races ≤ place → slice_get report.line_races (place - length report.races) ≡ None → claim_in report (place, i) ≡ None
  none_in le at = ap (λ (all : Option (List Claim)). claim_of all i) (behind_values le ∙ ap (option_map lines_claims) at)

-- ---- a race is true where its claims are

module _ (setting : Setting) (report : Report) (place : ℕ) where
  pub race_so : (race : Race) → slice_get report.races place ≡ Some race → AreTrueAt setting report place → IsTrueRace setting report race
  race_so race at are i witness there = value_so setting report race witness
      (are i (value_claim race witness) (value_in report place i race at ∙ ap (option_map (value_claim race)) there))

  pub so_race : (race : Race) → slice_get report.races place ≡ Some race → IsTrueRace setting report race → AreTrueAt setting report place
  so_race race at is i claim there =
      let h = of_mapped (value_claim race) race.values i claim (slice_get-map (value_claim race) race.values i ∙ sym (value_in report place i race at) ∙ there) in
      subst (IsTrueClaim setting report) h.2 (so_value setting report race h.0 (is i h.0 h.1))

  pub line_race_so : (race : LineRace) → length report.races ≤ place → slice_get report.line_races (place - length report.races) ≡ Some race →
      AreTrueAt setting report place → IsTrueLineRace setting report race
  line_race_so race le at are i side there = lines_so setting report race side
      (are i (lines_claim race side) (lines_in report place i race le at ∙ ap (option_map (lines_claim race)) there))

  pub so_line_race : (race : LineRace) → length report.races ≤ place → slice_get report.line_races (place - length report.races) ≡ Some race →
      IsTrueLineRace setting report race → AreTrueAt setting report place
  so_line_race race le at is i claim there =
      let h = of_mapped (lines_claim race) race.sides i claim (slice_get-map (lines_claim race) race.sides i ∙ sym (lines_in report place i race le at) ∙ there) in
      subst (IsTrueClaim setting report) h.2 (so_lines setting report race h.0 (is i h.0 h.1))

-- ---- the claims of a race, gone through place by place

-- those before the place are true
abbrev pub AreTrueUpTo : Setting → Report → ℕ → ℕ → Type 0
AreTrueUpTo setting report race n = (i : ℕ) → i < n → IsTrueAt setting report (race, i)

module _ (setting : Setting) (report : Report) (race n : ℕ) (below : AreTrueUpTo setting report race n) where
  -- and so is one more
  pub claim_more : IsTrueAt setting report (race, n) → AreTrueUpTo setting report race (n + 1)
  claim_more is i lt = elim (cases_lt i n) [
    | inl before ↦ below i before
    | inr late ↦ (let e : i ≡ n = omega (arith, lt, late) in subst (λ (k : ℕ). IsTrueAt setting report (race, k)) (sym e) is)
  ]

  -- all are
  pub all_claims : (count : ℕ) → HasClaims report race count → count ≤ n → AreTrueAt setting report race
  all_claims count none end i = elim (cases_lt i n) [
    | inl before ↦ below i before
    | inr late ↦ (let absent = none i (omega (arith, end, late)) in λ claim at. (let bad : Some claim ≡ None = sym at ∙ absent in absurd cc))
  ]
