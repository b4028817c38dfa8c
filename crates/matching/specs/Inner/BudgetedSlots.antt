-- *internal*: One slot of a space whose states know how many departures their run has left, and that it is lawful (with its proof).
use Rattle.std.proofs.Common.{◌≡◌, ℕ, ◌<◌, ◌==◌, ◌&&◌, zero, suc, Bool, true, false, if◌then◌else◌, arith, ap}
use Rattle.std.proofs.Common.{refl, sym, ◌∙◌}
use Rattle.std.proofs.lemmas.Bool.Decides.{nat_tests}
use Rattle.basis.proofs.Bools.{and_both, and_left, and_right}
use Rattle.sched_core.specs.Rules.{Rules, IsLawful}
use Rattle.sched_core.specs.Ranks.{IsRanked}
use Rattle.statebook.specs.ExplorerCore.{budget_after, choices_of}
use Rattle.matching.specs.declared.budgeted_slot.Budgeted.{Budgeted}

-- The runs from a state on to the first mark, with at most so many departures. Where none is left a state has choice 0 alone, so that
-- all further steps are forced.
abbrev pub budgeted_slot : {S : Type 0} → Rules S → S → ℕ → Rules (Budgeted S)
budgeted_slot r start most = record {
  same = λ s t. r.same s.state t.state && (s.budget == t.budget);
  first = record { state = start; budget = most };
  width = λ s. if r.mark s.state then 0 else choices_of (r.width s.state) s.budget;
  mark = λ s. r.mark s.state;
  after = λ s i. record { state = r.after s.state i; budget = budget_after s.budget i };
}

-- a choice that is left is one of the space
few_choices : (w b i : ℕ) → i < choices_of w b → i < w
few_choices w zero i lt = omega (arith, lt)
few_choices w (suc b) i lt = lt

pub choice_there : (mark : Bool) (w b i : ℕ) → i < (if mark then 0 else choices_of w b) → i < w
choice_there true w b i lt = absurd (omega (arith, lt))
choice_there false w b i lt = few_choices w b i lt

none_left : (w b : ℕ) → choices_of w b ≡ 0 → w ≡ 0
none_left w zero e = omega (arith, e)
none_left w (suc b) e = e

ends_there : (mark : Bool) (w b : ℕ) → (w ≡ 0 → mark ≡ true) → (if mark then 0 else choices_of w b) ≡ 0 → mark ≡ true
ends_there true w b h e = refl
ends_there false w b h e = h (none_left w b e)

equal_budgets : (b c : ℕ) → (b == c) ≡ true → b ≡ c
equal_budgets b c e = grind (arith, nat_tests)

same_budget : (b c : ℕ) → b ≡ c → (b == c) ≡ true
same_budget b c e = grind (arith, nat_tests)

module _ {S : Type 0} (r : Rules S) (s t : Budgeted S) (h : (r.same s.state t.state && (s.budget == t.budget)) ≡ true) where
  pub same_states : r.same s.state t.state ≡ true
  same_states = and_left (r.same s.state t.state) (s.budget == t.budget) h

  pub same_budgets : s.budget ≡ t.budget
  same_budgets = equal_budgets s.budget t.budget (and_right (r.same s.state t.state) (s.budget == t.budget) h)

pub same_both : {S : Type 0} (r : Rules S) (s t : Budgeted S) → r.same s.state t.state ≡ true → s.budget ≡ t.budget →
    (r.same s.state t.state && (s.budget == t.budget)) ≡ true
same_both r s t e b = and_both (r.same s.state t.state) (s.budget == t.budget) e (same_budget s.budget t.budget b)

pub budgeted_is_lawful : {S : Type 0} (r : Rules S) (start : S) (most : ℕ) → IsLawful r → IsLawful (budgeted_slot r start most)
budgeted_is_lawful r start most law = record {
  reflexive = λ s. same_both r s s (law.reflexive s.state) refl;
  symmetric = λ s t h. same_both r t s (law.symmetric s.state t.state (same_states r s t h)) (sym (same_budgets r s t h));
  transitive = λ s t u h k. same_both r s u (law.transitive s.state t.state u.state (same_states r s t h) (same_states r t u k))
      (same_budgets r s t h ∙ same_budgets r t u k);
  width_same = λ s t h. (
      let marks = law.mark_same s.state t.state (same_states r s t h) in
      let widths = law.width_same s.state t.state (same_states r s t h) in
      let budgets = same_budgets r s t h in
      λ i. if marks i then 0 else choices_of (widths i) (budgets i));
  mark_same = λ s t h. law.mark_same s.state t.state (same_states r s t h);
  after_same = λ s t i h lt. same_both r (record { state = r.after s.state i; budget = budget_after s.budget i })
      (record { state = r.after t.state i; budget = budget_after t.budget i })
      (law.after_same s.state t.state i (same_states r s t h) (choice_there (r.mark s.state) (r.width s.state) s.budget i lt))
      (ap (λ b. budget_after b i) (same_budgets r s t h));
  end_is_mark = λ s e. ends_there (r.mark s.state) (r.width s.state) s.budget (law.end_is_mark s.state) e;
}

-- all states of a slot are of one time
pub one_rank : {S : Type 0} (r : Rules S) (start : S) (most time : ℕ) → IsRanked (budgeted_slot r start most) (λ s. time)
one_rank r start most time = record { rank_same = λ s t h. refl; rises = λ log n run. omega arith }
