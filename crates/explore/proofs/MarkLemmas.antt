-- Reading the marks from a book, each once, under the log of the entry of the greatest budget.
use Rattle.std.proofs.Common.{◌≡◌, ℕ, ◌+◌, ◌<◌, ◌≤◌, Bool, true, false, List, length, slice_get, Some, arith, ap, refl, sym, ◌∙◌, subst, inl, inr}
use Rattle.std.specs.Cmp.{IsEquivalence}
use Rattle.std.specs.List.{IsDistinct}
use Rattle.std.specs.Map.{keys_of}
use Rattle.std.proofs.lemmas.Bool.{cases_lt}
use Rattle.std.proofs.lemmas.Option.{same_Some}
use Rattle.indexmap.specs.IndexMap.{insert_entry}
use Rattle.basis.proofs.Bools.{same_truth, clash}
use Rattle.sched_core.specs.Rules.{Rules, IsLawful, stands, IsRun, NamesBelow}
use Rattle.statebook.specs.Books.{Book, IsUndominated}
use Rattle.statebook.specs.ExplorerCore.{IsEntry}
use Rattle.statebook.specs.declared.entry.Entry.{Entry}
use Rattle.statebook.specs.declared.limits.Limits.{Limits}
use Rattle.explore.specs.Found.{AreFound, IsFound, IsListedMark}
use Rattle.explore.specs.BookFindings.{IsAmongMarks, ListsExactly}
use Rattle.explore.specs.Inner.Exploring.{AreEntries}
use Rattle.explore.proofs.InsertLemmas.{Inserted, inserted, same_value}

-- the pair is the state and the log of an entry before the place, of the greatest budget among them
pub record IsBestUpTo {S : Type 0} (r : Rules S) (entries : List (Entry S)) (place : ℕ) (found : S × List (ℕ × ℕ)) : Type 0 where
  pub at_place : ℕ
  pub entry : Entry S
  pub at : slice_get entries at_place ≡ Some entry
  pub same : r.same found.0 entry.state ≡ true
  pub log : found.1 ≡ entry.log
  pub greatest : (i : ℕ) (e : Entry S) → i < place → slice_get entries i ≡ Some e → r.same found.0 e.state ≡ true → e.budget ≤ entry.budget

-- the marks of the entries before a place are read
pub record MarksUpTo {S : Type 0} (r : Rules S) (limits : Limits) (entries : List (Entry S)) (place : ℕ) (marks : List (S × List (ℕ × ℕ))) : Type 0 where
  pub found : AreFound r limits marks
  pub each : (i : ℕ) (e : Entry S) → i < place → slice_get entries i ≡ Some e → r.mark e.state ≡ true → IsAmongMarks r marks e.state
  pub best : (j : ℕ) (p : S × List (ℕ × ℕ)) → slice_get marks j ≡ Some p → IsBestUpTo r entries place p

-- the states' own equality is one
pub equivalence : {S : Type 0} (r : Rules S) → IsLawful r → (eq : S → S → Bool) → ((s t : S) → r.same s t ≡ eq s t) → IsEquivalence eq
equivalence r law eq agree = record {
  refl = λ x. sym (agree x x) ∙ law.reflexive x;
  symm = λ x y. same_truth (eq x y) (eq y x)
      (λ h. sym (agree y x) ∙ law.symmetric x y (agree x y ∙ h))
      (λ h. sym (agree x y) ∙ law.symmetric y x (agree y x ∙ h));
  congr = λ x y z e. same_truth (eq x z) (eq y z)
      (λ h. sym (agree y z) ∙ law.transitive y x z (law.symmetric x y (agree x y ∙ e)) (agree x z ∙ h))
      (λ h. sym (agree x z) ∙ law.transitive x y z (agree x y ∙ e) (agree y z ∙ h));
}

same_place : {X : Type 0} (xs : List X) (i j : ℕ) (x y : X) → j ≡ i → slice_get xs i ≡ Some x → slice_get xs j ≡ Some y → x ≡ y
same_place {X} xs i j x y e at at' =
    let P : ℕ → Type 0 = λ p. slice_get xs p ≡ Some y in
    same_Some x y (sym at ∙ subst P e at')

-- the entry at the place is no mark
pub marks_skip : {S : Type 0} (r : Rules S) → IsLawful r → (limits : Limits) (entries : List (Entry S)) (place : ℕ) (marks : List (S × List (ℕ × ℕ))) (x : Entry S) → MarksUpTo r limits entries place marks → slice_get entries place ≡ Some x → r.mark x.state ≡ false → MarksUpTo r limits entries (place + 1) marks
marks_skip {S} r law limits entries place marks x m there plain = record {
  found = m.found;
  each = λ i e lt at mark. elim (cases_lt i place) [
    | inl before ↦ m.each i e before at mark
    | inr ge ↦ (
        let itself : x ≡ e = same_place entries place i x e (omega (arith, ge, lt)) there at in
        absurd (clash (r.mark e.state) mark (ap (λ y. r.mark y.state) (sym itself) ∙ plain)))
  ];
  best = λ j p at. (let b = m.best j p at in record {
    at_place = b.at_place;
    entry = b.entry;
    at = b.at;
    same = b.same;
    log = b.log;
    greatest = λ i e lt at' same. elim (cases_lt i place) [
      | inl before ↦ b.greatest i e before at' same
      | inr ge ↦ (
          let itself : x ≡ e = same_place entries place i x e (omega (arith, ge, lt)) there at' in
          let mark : r.mark e.state ≡ true = sym (law.mark_same p.0 e.state same) ∙ (m.found j p at).mark in
          absurd (clash (r.mark e.state) mark (ap (λ y. r.mark y.state) (sym itself) ∙ plain)))
    ];
  });
}

-- of two entries of equal states the later has the greater budget
greater : {S : Type 0} (r : Rules S) (eq : S → S → Bool) → ((s t : S) → r.same s t ≡ eq s t) → (entries : List (Entry S)) → IsUndominated eq entries → (i j : ℕ) (e x : Entry S) → i < j → slice_get entries i ≡ Some e → slice_get entries j ≡ Some x → r.same e.state x.state ≡ true → e.budget ≤ x.budget
greater r eq agree entries u i j e x lt at at' same = elim (cases_lt e.budget x.budget) [
  | inl less ↦ omega (arith, less)
  | inr ge ↦ absurd (u.later i j e x lt at at' (record { state = sym (agree e.state x.state) ∙ same; budget = ge }))
]

-- the pair that was put in is the mark's
pub found_new : {S : Type 0} (r : Rules S) → IsLawful r → (limits : Limits) (x : Entry S) (p : S × List (ℕ × ℕ)) → IsEntry r limits.depart limits.steps x → r.mark x.state ≡ true → r.same p.0 x.state ≡ true → p.1 ≡ x.log → IsFound r limits p
found_new {S} r law limits x p is mark same log =
    let R : List (ℕ × ℕ) → Type 0 = λ l. IsRun r l x.steps in
    let A : List (ℕ × ℕ) → Type 0 = λ l. r.same p.0 (stands r l x.steps) ≡ true in
    let N : List (ℕ × ℕ) → Type 0 = λ l. NamesBelow l x.steps in
    let count : length p.1 ≡ length x.log = ap length log in
    record {
      steps = x.steps;
      run = subst R (sym log) is.run;
      at = subst A (sym log) (law.transitive p.0 x.state (stands r x.log x.steps) same is.at);
      mark = law.mark_same p.0 x.state same ∙ mark;
      names = subst N (sym log) is.names;
      within = is.within;
      short = omega (arith, is.budget, count);
    }

-- what a mark is put in by: the entry at the place, a copy of its state, and what that leaves of the list
record Puts {S : Type 0} (r : Rules S) (limits : Limits) (eq : S → S → Bool) (entries : List (Entry S)) (place : ℕ) (x : Entry S) (t : S) (log : List (ℕ × ℕ)) (marks after : List (S × List (ℕ × ℕ))) : Type 0 where
  law : IsLawful r
  agree : (s t : S) → r.same s t ≡ eq s t
  undominated : IsUndominated eq entries
  there : slice_get entries place ≡ Some x
  is : IsEntry r limits.depart limits.steps x
  mark : r.mark x.state ≡ true
  copy : r.same t x.state ≡ true
  log_is : log ≡ x.log
  inserted : Inserted eq marks t log after
  apart : IsDistinct eq (keys_of after)

-- what is equal to the key that was put in is equal to the entry's state
same_as_entry : {S : Type 0} (r : Rules S) (limits : Limits) (eq : S → S → Bool) (entries : List (Entry S)) (place : ℕ) (x : Entry S) (t : S) (log : List (ℕ × ℕ)) (marks after : List (S × List (ℕ × ℕ))) → Puts r limits eq entries place x t log marks after → (y : S) → eq t y ≡ true → r.same y x.state ≡ true
same_as_entry r limits eq entries place x t log marks after h y e = h.law.transitive y t x.state (h.law.symmetric t y (h.agree t y ∙ e)) h.copy

more_found : {S : Type 0} (r : Rules S) (limits : Limits) (eq : S → S → Bool) (entries : List (Entry S)) (place : ℕ) (x : Entry S) (t : S) (log : List (ℕ × ℕ)) (marks after : List (S × List (ℕ × ℕ))) → Puts r limits eq entries place x t log marks after → AreFound r limits marks → AreFound r limits after
more_found r limits eq entries place x t log marks after h found j p at = elim (h.inserted.from j p at) [
  | inl new ↦ found_new r h.law limits x p h.is h.mark (same_as_entry r limits eq entries place x t log marks after h p.0 new.0) (new.1 ∙ h.log_is)
  | inr old ↦ found old.0 p old.1
]

more_each : {S : Type 0} (r : Rules S) (limits : Limits) (eq : S → S → Bool) (entries : List (Entry S)) (place : ℕ) (x : Entry S) (t : S) (log : List (ℕ × ℕ)) (marks after : List (S × List (ℕ × ℕ))) → Puts r limits eq entries place x t log marks after → MarksUpTo r limits entries place marks → (i : ℕ) (e : Entry S) → i < place + 1 → slice_get entries i ≡ Some e → r.mark e.state ≡ true → IsAmongMarks r after e.state
more_each {S} r limits eq entries place x t log marks after h m i e lt at mark = elim (cases_lt i place) [
  | inl before ↦ (
      let old = m.each i e before at mark in
      let kept = h.inserted.kept old.place old.found old.at in
      record { place = old.place; found = kept.0; at = kept.1; same = ap (λ s. r.same s e.state) kept.2 ∙ old.same })
  | inr ge ↦ (
      let itself : x ≡ e = same_place entries place i x e (omega (arith, ge, lt)) h.there at in
      let P : Entry S → Type 0 = λ y. IsAmongMarks r after y.state in
      subst P itself (record {
        place = h.inserted.place;
        found = (h.inserted.key, log);
        at = h.inserted.at;
        same = same_as_entry r limits eq entries place x t log marks after h h.inserted.key h.inserted.same;
      }))
]

-- the entry at the place has the greatest budget so far
best_new : {S : Type 0} (r : Rules S) (limits : Limits) (eq : S → S → Bool) (entries : List (Entry S)) (place : ℕ) (x : Entry S) (t : S) (log : List (ℕ × ℕ)) (marks after : List (S × List (ℕ × ℕ))) → Puts r limits eq entries place x t log marks after → (p : S × List (ℕ × ℕ)) → eq t p.0 ≡ true → p.1 ≡ log → IsBestUpTo r entries (place + 1) p
best_new {S} r limits eq entries place x t log marks after h p same is =
    let near : r.same p.0 x.state ≡ true = same_as_entry r limits eq entries place x t log marks after h p.0 same in
    record {
      at_place = place;
      entry = x;
      at = h.there;
      same = near;
      log = is ∙ h.log_is;
      greatest = λ i e lt at equal. elim (cases_lt i place) [
        | inl before ↦ greater r eq h.agree entries h.undominated i place e x before at h.there (h.law.transitive e.state p.0 x.state (h.law.symmetric p.0 e.state equal) near)
        | inr ge ↦ (
            let itself : x ≡ e = same_place entries place i x e (omega (arith, ge, lt)) h.there at in
            let budget : x.budget ≡ e.budget = ap (λ y. y.budget) itself in
            omega (arith, budget))
      ];
    }

-- what stands at another state stays the best there
best_other : {S : Type 0} (r : Rules S) (limits : Limits) (eq : S → S → Bool) (entries : List (Entry S)) (place : ℕ) (x : Entry S) (t : S) (log : List (ℕ × ℕ)) (marks after : List (S × List (ℕ × ℕ))) → Puts r limits eq entries place x t log marks after → (p : S × List (ℕ × ℕ)) → eq t p.0 ≡ false → IsBestUpTo r entries place p → IsBestUpTo r entries (place + 1) p
best_other {S} r limits eq entries place x t log marks after h p other b = record {
  at_place = b.at_place;
  entry = b.entry;
  at = b.at;
  same = b.same;
  log = b.log;
  greatest = λ i e lt at equal. elim (cases_lt i place) [
    | inl before ↦ b.greatest i e before at equal
    | inr ge ↦ (
        let itself : x ≡ e = same_place entries place i x e (omega (arith, ge, lt)) h.there at in
        let state : r.same t e.state ≡ true = ap (λ y. r.same t y.state) (sym itself) ∙ h.copy in
        let near : r.same t p.0 ≡ true = h.law.transitive t e.state p.0 state (h.law.symmetric p.0 e.state equal) in
        absurd (clash (eq t p.0) (sym (h.agree t p.0) ∙ near) other))
  ];
}

-- a pair that was there stands at another state, or is the pair that was put in
best_old : {S : Type 0} (r : Rules S) (limits : Limits) (eq : S → S → Bool) (entries : List (Entry S)) (place : ℕ) (x : Entry S) (t : S) (log : List (ℕ × ℕ)) (marks after : List (S × List (ℕ × ℕ))) → Puts r limits eq entries place x t log marks after → (j : ℕ) (p : S × List (ℕ × ℕ)) → slice_get after j ≡ Some p → IsBestUpTo r entries place p → (b : Bool) → eq t p.0 ≡ b → IsBestUpTo r entries (place + 1) p
best_old {S} r limits eq entries place x t log marks after h j p at best true same =
    let laws : IsEquivalence eq = equivalence r h.law eq h.agree in
    let near : eq p.0 h.inserted.key ≡ true = laws.congr p.0 t h.inserted.key (laws.symm p.0 t ∙ same) ∙ h.inserted.same in
    let pair : S × List (ℕ × ℕ) = (h.inserted.key, log) in
    best_new r limits eq entries place x t log marks after h p same (same_value eq laws after h.apart j h.inserted.place p pair at h.inserted.at near)
best_old r limits eq entries place x t log marks after h j p at best false other = best_other r limits eq entries place x t log marks after h p other best

more_put : {S : Type 0} (r : Rules S) (limits : Limits) (eq : S → S → Bool) (entries : List (Entry S)) (place : ℕ) (x : Entry S) (t : S) (log : List (ℕ × ℕ)) (marks after : List (S × List (ℕ × ℕ))) → Puts r limits eq entries place x t log marks after → MarksUpTo r limits entries place marks → MarksUpTo r limits entries (place + 1) after
more_put r limits eq entries place x t log marks after h m = record {
  found = more_found r limits eq entries place x t log marks after h m.found;
  each = more_each r limits eq entries place x t log marks after h m;
  best = λ j p at. elim (h.inserted.from j p at) [
    | inl new ↦ best_new r limits eq entries place x t log marks after h p new.0 new.1
    | inr old ↦ best_old r limits eq entries place x t log marks after h j p at (m.best old.0 p old.1) (eq t p.0) refl
  ];
}

-- the entry at the place is a mark
pub marks_more : {S : Type 0} (r : Rules S) → IsLawful r → (limits : Limits) (eq : S → S → Bool) → ((s t : S) → r.same s t ≡ eq s t) → (entries : List (Entry S)) → IsUndominated eq entries → ((i : ℕ) (e : Entry S) → slice_get entries i ≡ Some e → IsEntry r limits.depart limits.steps e) → (place : ℕ) (marks after : List (S × List (ℕ × ℕ))) (x : Entry S) (t : S) (log : List (ℕ × ℕ)) → MarksUpTo r limits entries place marks → slice_get entries place ≡ Some x → r.mark x.state ≡ true → r.same t x.state ≡ true → log ≡ x.log → IsDistinct eq (keys_of after) → after ≡ insert_entry eq marks t log → MarksUpTo r limits entries (place + 1) after
marks_more {S} r law limits eq agree entries u sound place marks after x t log m there mark copy log_is apart is =
    let P : List (S × List (ℕ × ℕ)) → Type 0 = λ l. Inserted eq marks t log l in
    let laws : IsEquivalence eq = equivalence r law eq agree in
    more_put r limits eq entries place x t log marks after (record {
      law = law;
      agree = agree;
      undominated = u;
      there = there;
      is = sound place x there;
      mark = mark;
      copy = copy;
      log_is = log_is;
      inserted = subst P (sym is) (inserted eq laws.refl marks t log);
      apart = apart;
    }) m

-- once all entries are passed, the list is read from the book
pub marks_read : {S : Type 0} (r : Rules S) (limits : Limits) (b : Book S) (place : ℕ) (marks : List (S × List (ℕ × ℕ))) → MarksUpTo r limits b.entries place marks → ((i : ℕ) (e : Entry S) → slice_get b.entries i ≡ Some e → i < place) → ListsExactly r b marks
marks_read r limits b place marks m all = record {
  each = λ i e at mark. m.each i e (all i e at) at mark;
  best = λ j p at. (let x = m.best j p at in record {
    place = x.at_place;
    entry = x.entry;
    at = x.at;
    same = x.same;
    mark = (m.found j p at).mark;
    log = x.log;
    greatest = λ i e at' same. x.greatest i e (all i e at') at' same;
  });
}

-- each entry that stands at a mark is listed, under a log with no more departures
pub lists_each : {S : Type 0} (r : Rules S) → IsLawful r → (limits : Limits) (b : Book S) (marks : List (S × List (ℕ × ℕ))) → AreEntries r limits b → ListsExactly r b marks → (i : ℕ) (e : Entry S) → slice_get b.entries i ≡ Some e → r.mark e.state ≡ true → IsListedMark r marks e.state (length e.log)
lists_each r law limits b marks u lists i e at mark =
    let m = lists.each i e at mark in
    let best = lists.best m.place m.found m.at in
    let count : length m.found.1 ≡ length best.entry.log = ap length best.log in
    record {
      place = m.place;
      found = m.found;
      at = m.at;
      same = m.same;
      departures = omega (arith, best.greatest i e at m.same, count, (u i e at).budget, (u best.place best.entry best.at).budget);
    }

-- no entry that stands at a listed mark has fewer departures
pub has_no_shorter : {S : Type 0} (r : Rules S) (limits : Limits) (b : Book S) (marks : List (S × List (ℕ × ℕ))) → AreEntries r limits b → ListsExactly r b marks → (j : ℕ) (p : S × List (ℕ × ℕ)) → slice_get marks j ≡ Some p → (i : ℕ) (e : Entry S) → slice_get b.entries i ≡ Some e → r.same p.0 e.state ≡ true → length p.1 ≤ length e.log
has_no_shorter r limits b marks u lists j p at i e at' same =
    let best = lists.best j p at in
    let count : length p.1 ≡ length best.entry.log = ap length best.log in
    omega (arith, best.greatest i e at' same, count, (u i e at').budget, (u best.place best.entry best.at).budget)
