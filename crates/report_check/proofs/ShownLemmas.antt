-- Claims that stand at places of a report, and are shown in the runs under their logs.
use Rattle.std.proofs.Common.{◌≡◌, ℕ, ◌<◌, ◌≤◌, ◌&&◌, ◌==◌, Bool, true, false, List, length, Some, None, Result, Ok, Err, IfOk, is_ok, IsTrue, Decides, refl, sym, ap, ◌∙◌, subst, arith}
use Rattle.std.specs.List.{Contains, HoldsAt}
use Rattle.std.specs.List.Sorted.{IsSearchInRange}
use Rattle.std.specs.Cmp.Lexicographic.{pointwise}
use Rattle.std.specs.Ordering.{nat_cmp, ordering_then}
use Rattle.std.specs.declared.cmp.Ordering.TheVariants.{Equal}
use Rattle.std.proofs.lemmas.Bool.Decides.{Decides-and, Decides-eqb}
use Rattle.std.proofs.lemmas.Cmp.{ranked}
use Rattle.std.proofs.lemmas.List.Elements.{Contains-from_at}
use Rattle.std.proofs.lemmas.Option.{same_Some}
use Rattle.std.proofs.lemmas.Slice.Eq.{slice_eq-Decides}
use Rattle.vmodel.specs.State.{State}
use Rattle.vmodel.specs.Run.{Setting, state_after}
use Rattle.vmachine.specs.declared.machine_state.MachineState.{MachineState}
use Rattle.vmachine.specs.Machines.{Stands}
use Rattle.report_text.specs.Report.{Report}
use Rattle.vreport.proofs.OrderLemmas.{then_alike}
use Rattle.report_check.specs.Claims.{Claim, ComesTo, IsClaimAt, IsSeenWithin, IsTrueAt, IsTrueClaim, TellsState, claim_in}

-- ---- places

abbrev Place : Type 0
Place = ℕ × ℕ

-- places that compare as equal are one
place_same : (p q : Place) → ordering_then (nat_cmp p.0 q.0) (nat_cmp p.1 q.1) ≡ Equal → p ≡ q
place_same p q e =
    let both = then_alike (nat_cmp p.0 q.0) (nat_cmp p.1 q.1) e in
    let first : p.0 ≡ q.0 = ranked p.0 q.0 Equal (sym both.0) in
    let second : p.1 ≡ q.1 = ranked p.1 q.1 Equal (sym both.1) in
    λ i. (first i, second i)

-- what a search found is there
pub among : (places : List Place) (place : Place) (k : ℕ) → k < length places →
    HoldsAt (λ (p : Place). ordering_then (nat_cmp p.0 place.0) (nat_cmp p.1 place.1) ≡ Equal) places k → Contains places place
among places place k lt at = Contains-from_at places place (k, lt, λ d. place_same _ place (at d))

-- so says the search's answer
pub among_when : (places : List Place) (place : Place) (r : Result ℕ ℕ) (answer : Bool) → IsSearchInRange r (length places) →
    IfOk r (HoldsAt (λ (p : Place). ordering_then (nat_cmp p.0 place.0) (nat_cmp p.1 place.1) ≡ Equal) places) → answer ≡ is_ok r → IsTrue answer → Contains places place
among_when places place (Ok k) answer bound holds is said = among places place k bound holds
among_when places place (Err k) answer bound holds is said = absurd (let bad : false ≡ true = sym is ∙ said in cc)

member_decides : (m n : Place) → Decides ((m.0 == n.0) && (m.1 == n.1)) (m ≡ n)
member_decides m n =
    let d = Decides-and (m.0 == n.0) (m.1 == n.1) (Decides-eqb m.0 n.0) (Decides-eqb m.1 n.1) in
    (λ h. (let e = d.0 h in λ i. (e.0 i, e.1 i)), λ e. d.1 (ap (λ (p : Place). p.0) e, ap (λ (p : Place). p.1) e))

-- lists of members that are tested to be equal are
pub same_members : (ms ns : List Place) → pointwise (λ (m n : Place). (m.0 == n.0) && (m.1 == n.1)) ms ns ≡ true → ms ≡ ns
same_members ms ns said = (slice_eq-Decides member_decides ms ns true (sym said)).0 refl

-- ---- claims at places

-- a claim is true where it is seen under a log that is short enough
pub claim_when : {E : Type 0} (setting : Setting) (report : Report) (claim : Claim) (r : Result Bool E) → length claim.log ≤ report.depart →
    IfOk r (λ is. Decides is (IsSeenWithin setting report.steps (IsClaimAt claim) claim.log)) → IfOk r (λ is. Decides is (IsTrueClaim setting report claim))
claim_when setting report claim (Ok b) short d = (λ h. record { seen = d.0 h; short = short }, λ is. d.1 is.seen)
claim_when setting report claim (Err e) short d = tt

module _ (setting : Setting) (report : Report) (place : Place) (claim : Claim) (at : claim_in report place ≡ Some claim) where
  -- one claim stands at a place
  true_at : IsTrueClaim setting report claim → IsTrueAt setting report place
  true_at is other there = subst (IsTrueClaim setting report) (same_Some claim other (sym at ∙ there)) is

  -- so what is said of it is said of the place
  pub at_when : {E : Type 0} (r : Result Bool E) → IfOk r (λ is. Decides is (IsTrueClaim setting report claim)) → IfOk r (λ is. Decides is (IsTrueAt setting report place))
  at_when (Ok b) d = (λ h. true_at (d.0 h), λ are. d.1 (are claim at))
  at_when (Err e) d = tt

  module _ (s : MachineState) (comes : ComesTo setting report claim.log s) where
    shown_true : ((t : State) → Stands setting s t → IsClaimAt claim t) → IsTrueClaim setting report claim
    shown_true shows = record {
      seen = record {
        steps = comes.steps;
        run = comes.run;
        names = comes.names;
        within = comes.within;
        before = record { at = comes.steps; earlier = omega arith; seen = shows (state_after setting claim.log comes.steps) comes.at };
      };
      short = comes.short;
    }

    -- a claim that is shown where the run under its log comes is true
    pub shown_when : {E : Type 0} (r : Result Bool E) → IfOk r (TellsState setting s (IsClaimAt claim)) → IfOk r (λ is. IsTrue is → IsTrueAt setting report place)
    shown_when (Ok b) tells = λ said. true_at (shown_true (λ t stands. (tells t stands).0 said))
    shown_when (Err e) tells = tt

-- no claim stands at this place
pub at_none : (setting : Setting) (report : Report) (place : Place) → claim_in report place ≡ None → IsTrueAt setting report place
at_none setting report place none claim there = absurd (let bad : Some claim ≡ None = sym there ∙ none in cc)
