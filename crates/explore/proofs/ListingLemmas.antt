-- Reading the marks from entries that were seen, in whatever order.
use Rattle.std.proofs.Common.{◌≡◌, ℕ, ◌+◌, ◌<◌, ◌≤◌, Bool, true, List, [], length, slice_get, get_or, Option, option_map, Some, None, Result, Ok, Err, OnErr, OnOk, arith, ap, sym, ◌∙◌, subst, inl, inr}
use Rattle.std.specs.Cmp.{IsEquivalence}
use Rattle.std.specs.List.{IsDistinct}
use Rattle.std.specs.Map.{keys_of, lookup}
use Rattle.std.proofs.lemmas.Bool.{cases_lt}
use Rattle.std.proofs.lemmas.Option.{same_Some, slice_get-map, none-some}
use Rattle.std.proofs.lemmas.List.{length-map}
use Rattle.std.proofs.lemmas.Map.Entries.{place_from_lookup}
use Rattle.indexmap.specs.IndexMap.{insert_entry}
use Rattle.sched_core.specs.Rules.{Rules, IsLawful, stands}
use Rattle.statebook.specs.Covered.{IsCovered}
use Rattle.statebook.specs.ExplorerCore.{IsEntry, IsListed}
use Rattle.statebook.specs.declared.entry.Entry.{Entry}
use Rattle.statebook.specs.declared.limits.Limits.{Limits}
use Rattle.statebook.proofs.CoreLemmas.{closed_listed}
use Rattle.basis.proofs.Lists.{listed_place, place_within}
use Rattle.shardbook.proofs.ScanLemmas.{EachBelow, each_more}
use Rattle.shardbook.specs.Closing.{Closes, Closing}
use Rattle.shardbook.specs.StoredEntries.{StoredEntry, entries_of}
use Rattle.explore.specs.Found.{AllFewest, AreFound, IsListedMark}
use Rattle.statebook.specs.Inner.Forced.{MayBeAdded}
use Rattle.explore.specs.Inner.Listing.{AreLong, IsShort, KeepsListed, ListsEach, ListsEntry}
use Rattle.workpool.specs.Searches.{AreParametersOf}
use Rattle.explore.proofs.InsertLemmas.{Inserted, inserted, same_value, value_at}
use Rattle.explore.proofs.MarkLemmas.{equivalence, found_new}

-- an equal state that is listed shortly is the mark, listed
pub short_lists : {S : Type 0} (r : Rules S) → IsLawful r → (eq : S → S → Bool) → ((s t : S) → r.same s t ≡ eq s t) → (marks : List (S × List (ℕ × ℕ))) (s : S) (d : ℕ) → IsShort eq marks s d → IsListedMark r marks s d
short_lists r law eq agree marks s d h = record {
  place = h.place;
  found = h.found;
  at = h.at;
  same = law.symmetric s h.found.0 (agree s h.found.0 ∙ h.equal);
  departures = h.departures;
}

-- a mark is put in: the entry, a copy of its state, and what that leaves of the list
pub record PutsIn {S : Type 0} (r : Rules S) (limits : Limits) (eq : S → S → Bool) (x : Entry S) (t : S) (log : List (ℕ × ℕ)) (marks after : List (S × List (ℕ × ℕ))) : Type 0 where
  pub law : IsLawful r
  pub agree : (s t : S) → r.same s t ≡ eq s t
  pub is : MayBeAdded r limits x
  pub mark : r.mark x.state ≡ true
  pub copy : r.same t x.state ≡ true
  pub log_is : log ≡ x.log
  pub apart : IsDistinct eq (keys_of marks)
  pub after_is : after ≡ insert_entry eq marks t log

module _ {S : Type 0} (r : Rules S) (limits : Limits) (eq : S → S → Bool) (x : Entry S) (t : S) (log : List (ℕ × ℕ)) (marks after : List (S × List (ℕ × ℕ))) (h : PutsIn r limits eq x t log marks after) where
  laws : IsEquivalence eq
  laws = equivalence r h.law eq h.agree

  put : Inserted eq marks t log after
  put =
      let P : List (S × List (ℕ × ℕ)) → Type 0 = λ l. Inserted eq marks t log l in
      subst P (sym h.after_is) (inserted eq laws.refl marks t log)

  -- what is equal to the key that was put in is equal to the entry's state
  near : (y : S) → eq t y ≡ true → r.same y x.state ≡ true
  near y e = h.law.transitive y t x.state (h.law.symmetric t y (h.agree t y ∙ e)) h.copy

  pub put_found : AreFound r limits marks → AreFound r limits after
  put_found found j p at = elim (put.from j p at) [
    | inl new ↦ found_new r h.law limits x p h.is h.mark (near p.0 new.0) (new.1 ∙ h.log_is)
    | inr old ↦ found old.0 p old.1
  ]

  pub put_listed : ListsEntry r after x
  put_listed _ =
      let count : length log ≡ length x.log = ap length h.log_is in
      record {
        place = put.place;
        found = (put.key, log);
        at = put.at;
        same = near put.key put.same;
        departures = omega (arith, count);
      }

  -- what was listed at another key stays; at an equal key the log has no more departures
  pub put_keeps : AreLong eq marks x.state (length x.log) → KeepsListed r marks after
  put_keeps long s d old =
      let kept = put.kept old.place old.found old.at in
      elim (put.from old.place kept.0 kept.1) [
        | inl new ↦ (
            let count : length kept.0.1 ≡ length x.log = ap length (new.1 ∙ h.log_is) in
            let key : r.same old.found.0 x.state ≡ true = near old.found.0 (ap (λ k. eq t k) (sym kept.2) ∙ new.0) in
            let equal : eq x.state old.found.0 ≡ true = sym (h.agree x.state old.found.0) ∙ h.law.symmetric old.found.0 x.state key in
            let more : length x.log ≤ length old.found.1 = long old.place old.found old.at equal in
            record {
              place = old.place;
              found = kept.0;
              at = kept.1;
              same = ap (λ k. r.same k s) kept.2 ∙ old.same;
              departures = omega (arith, count, more, old.departures);
            })
        | inr there ↦ (
            let equal : eq kept.0.0 old.found.0 ≡ true = ap (λ k. eq kept.0.0 k) (sym kept.2) ∙ laws.refl kept.0.0 in
            let log_same : kept.0.1 ≡ old.found.1 = same_value eq laws marks h.apart there.0 old.place kept.0 old.found there.1 old.at equal in
            let count : length kept.0.1 ≡ length old.found.1 = ap length log_same in
            record {
              place = old.place;
              found = kept.0;
              at = kept.1;
              same = ap (λ k. r.same k s) kept.2 ∙ old.same;
              departures = omega (arith, count, old.departures);
            })
      ]

-- the entry is listed already
pub stays_listed : {S : Type 0} (r : Rules S) → IsLawful r → (eq : S → S → Bool) → ((s t : S) → r.same s t ≡ eq s t) → (marks : List (S × List (ℕ × ℕ))) (e : Entry S) → IsShort eq marks e.state (length e.log) → ListsEntry r marks e
stays_listed r law eq agree marks e h = λ _. short_lists r law eq agree marks e.state (length e.log) h

-- the marks of the entries before a place of the list are read
pub record ListedUpTo {S : Type 0} (r : Rules S) (limits : Limits) (eq : S → S → Bool) (all : List (StoredEntry S)) (place : ℕ) (marks : List (S × List (ℕ × ℕ))) : Type 0 where
  pub found : AreFound r limits marks
  pub apart : IsDistinct eq (keys_of marks)
  pub each : EachBelow (λ (s : StoredEntry S). ListsEntry r marks s.entry) all place

-- one entry more is listed
pub one_more : {S : Type 0} (r : Rules S) (limits : Limits) (eq : S → S → Bool) (all : List (StoredEntry S)) (place : ℕ) (x : StoredEntry S) (e : Entry S) (old new : List (S × List (ℕ × ℕ))) → ListedUpTo r limits eq all place old → x ≡ get_or all place x → place < length all → e ≡ x.entry → AreFound r limits new → IsDistinct eq (keys_of new) → ListsEntry r new e → KeepsListed r old new → ListedUpTo r limits eq all (place + 1) new
one_more {S} r limits eq all place x e old new m is lt entry found apart listed keeps =
    let L : Entry S → Type 0 = λ y. ListsEntry r new y in
    record {
      found = found;
      apart = apart;
      each = each_more (λ (s : StoredEntry S). ListsEntry r new s.entry) all place x is lt (subst L entry listed) (λ c y before at mark. keeps y.entry.state (length y.entry.log) (m.each c y before at mark));
    }

-- once all are passed, the marks of all entries are listed
pub all_listed : {S : Type 0} (r : Rules S) (limits : Limits) (eq : S → S → Bool) (all : List (StoredEntry S)) (place : ℕ) (marks : List (S × List (ℕ × ℕ))) → ListedUpTo r limits eq all place marks → length all ≤ place → ListsEach r (entries_of all) marks
all_listed {S} r limits eq all place marks m end i e at =
    let lt : i < length all = omega (arith, place_within (entries_of all) i e at, length-map all (λ (x : StoredEntry S). x.entry)) in
    let s = listed_place all i lt in
    let there : slice_get (entries_of all) i ≡ Some s.0.entry = slice_get-map (λ (x : StoredEntry S). x.entry) all i ∙ ap (option_map (λ (x : StoredEntry S). x.entry)) s.1 in
    let L : Entry S → Type 0 = λ y. ListsEntry r marks y in
    subst L (same_Some s.0.entry e (sym there ∙ at)) (m.each i s.0 (omega (arith, lt, end)) s.1)

-- what a look-up finds, and what it finds where keys are distinct
pub short_from : {S : Type 0} (eq : S → S → Bool) (marks : List (S × List (ℕ × ℕ))) (s : S) (log : List (ℕ × ℕ)) (d : ℕ) → Some log ≡ lookup (eq s) marks → length log ≤ d → IsShort eq marks s d
short_from eq marks s log d e le =
    let x = place_from_lookup (eq s) marks log (sym e) in
    record { place = x.0; found = (x.1, log); at = x.2; equal = x.3; departures = le }

looked_up : {S : Type 0} (eq : S → S → Bool) → IsEquivalence eq → (marks : List (S × List (ℕ × ℕ))) → IsDistinct eq (keys_of marks) → (s : S) (i : ℕ) (p : S × List (ℕ × ℕ)) → slice_get marks i ≡ Some p → eq s p.0 ≡ true → lookup (eq s) marks ≡ Some p.1
looked_up {S} eq laws marks apart s i p at equal =
    let tests : eq s ≡ eq p.0 = λ n k. laws.congr s p.0 k equal n in
    ap (λ (t : S → Bool). lookup t marks) tests ∙ value_at eq laws marks apart i p at

pub long_from : {S : Type 0} (eq : S → S → Bool) → IsEquivalence eq → (marks : List (S × List (ℕ × ℕ))) → IsDistinct eq (keys_of marks) → (s : S) (log : List (ℕ × ℕ)) (d : ℕ) → Some log ≡ lookup (eq s) marks → d ≤ length log → AreLong eq marks s d
long_from eq laws marks apart s log d e le i p at equal =
    let count : length log ≡ length p.1 = ap length (same_Some log p.1 (e ∙ looked_up eq laws marks apart s i p at equal)) in
    omega (arith, count, le)

pub long_from_none : {S : Type 0} (eq : S → S → Bool) → IsEquivalence eq → (marks : List (S × List (ℕ × ℕ))) → IsDistinct eq (keys_of marks) → (s : S) (d : ℕ) → None ≡ lookup (eq s) marks → AreLong eq marks s d
long_from_none eq laws marks apart s d e i p at equal = absurd (none-some p.1 (e ∙ looked_up eq laws marks apart s i p at equal))

pub on_ok : {A E : Type 0} {P Q : Type 0} (x : Result A E) → (P → Q) → OnOk x P → OnOk x Q
on_ok (Ok a) f p = f p
on_ok (Err e) f p = tt

pub both_ok : {T E P Q R : Type 0} (r : Result T E) → (P → Q → R) → OnOk r P → OnOk r Q → OnOk r R
both_ok (Ok x) so p q = so p q
both_ok (Err e) so p q = tt

pub on_both : {A E : Type 0} {P Q R : Type 0} (x : Result A E) → (P → R) → (Q → R) → OnOk x P → OnErr x Q → R
on_both (Ok a) f g p q = f p
on_both (Err e) f g p q = g q

-- what is asked of an entry that may be added, by the search parameters
pub wanted : {S : Type 0} (rules : Option (Rules S)) (k limit : ℕ) (r : Rules S) (limits : Limits) (e : Entry S) → AreParametersOf rules k limit r limits → ((x : Rules S) → rules ≡ Some x → IsEntry x k limit e) → MayBeAdded r limits e
wanted {S} rules k limit r limits e parameters w =
    let P : ℕ → Type 0 = λ d. IsEntry r d limits.steps e in
    let Q : ℕ → Type 0 = λ n. IsEntry r k n e in
    subst P parameters.depart_is (subst Q parameters.steps_are (w r parameters.rules_are))

-- what closed entries list, the list of marks has
pub seen_listed : {S : Type 0} (r : Rules S) → IsLawful r → (k limit : ℕ) (root : Entry S) (entries : List (Entry S)) (marks : List (S × List (ℕ × ℕ))) → Closing r k limit root entries → ListsEach r entries marks → IsCovered r k (IsListedMark r marks)
seen_listed {S} r law k limit root entries marks closed each log n short run mark =
    let L : List (Entry S) → Type 0 = λ es. IsListed r es (stands r log n) (length log) in
    let l : IsListed r entries (stands r log n) (length log) = subst L closed.entries_are (closed_listed r k limit closed.book closed.place _ law closed.sound closed.closed log n short run mark) in
    let at_mark : r.mark l.entry.state ≡ true = law.mark_same l.entry.state (stands r log n) l.same ∙ mark in
    let m : IsListedMark r marks l.entry.state (length l.entry.log) = each l.place l.entry l.at at_mark in
    record {
      place = m.place;
      found = m.found;
      at = m.at;
      same = law.transitive m.found.0 l.entry.state (stands r log n) m.same l.same;
      departures = omega (arith, m.departures, l.departures);
    }

-- and under logs of the fewest departures
pub covered_fewest : {S : Type 0} (r : Rules S) → IsLawful r → (eq : S → S → Bool) → ((s t : S) → r.same s t ≡ eq s t) → (limits : Limits) (marks : List (S × List (ℕ × ℕ))) → AreFound r limits marks → IsDistinct eq (keys_of marks) → IsCovered r limits.depart (IsListedMark r marks) → AllFewest r marks
covered_fewest r law eq agree limits marks found apart covered i p at log n run same = elim (cases_lt limits.depart (length log)) [
  | inl more ↦ (let f = found i p at in omega (arith, f.short, more))
  | inr short ↦ (
      let mark : r.mark (stands r log n) ≡ true = sym (law.mark_same p.0 (stands r log n) same) ∙ (found i p at).mark in
      let m : IsListedMark r marks (stands r log n) (length log) = covered log n short run mark in
      let near : r.same p.0 m.found.0 ≡ true = law.transitive p.0 (stands r log n) m.found.0 same (law.symmetric m.found.0 (stands r log n) m.same) in
      let logs : p.1 ≡ m.found.1 = same_value eq (equivalence r law eq agree) marks apart i m.place p m.found at m.at (sym (agree p.0 m.found.0) ∙ near) in
      let count : length p.1 ≡ length m.found.1 = ap length logs in
      omega (arith, count, m.departures))
]

-- as the book's own scan says it
pub closed_covers : {S : Type 0} (rules : Option (Rules S)) (k limit : ℕ) (r : Rules S) (limits : Limits) → IsLawful r → AreParametersOf rules k limit r limits → (root : StoredEntry S) (all : List (StoredEntry S)) (marks : List (S × List (ℕ × ℕ))) → Closes rules k limit root all → ListsEach r (entries_of all) marks → IsCovered r limits.depart (IsListedMark r marks)
closed_covers {S} rules k limit r limits law parameters root all marks closes each =
    let C : ℕ → Type 0 = λ d. IsCovered r d (IsListedMark r marks) in
    subst C parameters.depart_is (seen_listed r law k limit root.entry (entries_of all) marks (closes r parameters.rules_are) each)

-- no entry is passed, and no mark listed
pub nothing_listed : {S : Type 0} (r : Rules S) (limits : Limits) (eq : S → S → Bool) (all : List (StoredEntry S)) (marks : List (S × List (ℕ × ℕ))) → marks ≡ [] → IsDistinct eq (keys_of marks) → ListedUpTo r limits eq all 0 marks
nothing_listed {S} r limits eq all marks none apart =
    let P : List (S × List (ℕ × ℕ)) → Type 0 = λ m. AreFound r limits m in
    record {
      found = subst P (sym none) (λ i p at. absurd cc);
      apart = apart;
      each = λ c y lt at. absurd (omega (arith, lt));
    }
