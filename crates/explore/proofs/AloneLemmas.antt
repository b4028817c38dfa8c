-- From the first book to the findings.
use Rattle.std.proofs.Common.{◌≡◌, ℕ, ◌≤◌, ◌||◌, not, ◌==◌, Bool, true, false, List, [], length, slice_get, Some, Result, Ok, OnOk, IfOk, arith, ap, refl, sym, ◌∙◌, subst, inl, inr}
use Rattle.std.proofs.lemmas.Bool.{cases_lt}
use Rattle.std.proofs.lemmas.Option.{slice_get_within}
use Rattle.sched_core.specs.Logs.{IsLog}
use Rattle.sched_core.specs.Rules.{Rules, IsLawful, stands, NamesBelow}
use Rattle.statebook.specs.Books.{Book, IsUndominated, Inserts, no_entries}
use Rattle.statebook.specs.Covered.{IsCovered}
use Rattle.statebook.specs.ExplorerCore.{IsEntry, IsListed}
use Rattle.statebook.specs.declared.book.Met.{Met}
use Rattle.statebook.specs.declared.book.Met.TheVariants.{New, Known}
use Rattle.statebook.specs.declared.entry.Entry.{Entry}
use Rattle.statebook.specs.declared.limits.Limits.{Limits}
use Rattle.basis.specs.declared.memory.OrMemory.{OrMemory}
use Rattle.basis.specs.Reasons.{IfFault}
use Rattle.basis.proofs.Bools.{or_first}
use Rattle.basis.proofs.Lists.{listed_place}
use Rattle.statebook.proofs.CoreLemmas.{closed_listed, sound_add, sound_nothing}
use Rattle.statebook.proofs.ReachLemmas.{sound_reached}
use Rattle.statebook.specs.Ways.{SomeRunExceeds}
use Rattle.explore.specs.Found.{AllFewest, AreFound, HasEntries, IsListedMark}
use Rattle.explore.specs.BookFindings.{IsBounded, ListsExactly, SomeWayGoesPast, TellsOfBook, WentThrough}
use Rattle.explore.specs.Inner.Exploring.{AllFinished, AllVisited, Closes, CutsShort, IsComplete, IsUnderWay, StoppedFull}
use Rattle.explore.specs.declared.classes.Full.{Full}
use Rattle.explore.specs.declared.findings.Findings.{Findings}
use Rattle.statebook.specs.declared.reason.Reason.TheVariants.{Entries, Steps}
use Rattle.explore.specs.declared.findings.Status.{Status}
use Rattle.explore.specs.declared.findings.Status.TheVariants.{Exhausted, Cut}
use Rattle.explore.proofs.ClassLemmas.{all_lead_on, fewer_entries}
use Rattle.explore.proofs.MarkLemmas.{has_no_shorter, lists_each}
use Rattle.statebook.proofs.NextLemmas.{exceeds}

-- the root's entry
pub root_entry : {S : Type 0} (r : Rules S) (limits : Limits) (e : Entry S) → r.same e.state r.first ≡ true → e.budget ≡ limits.depart → e.log ≡ [] → e.steps ≡ 0 → IsEntry r limits.depart limits.steps e
root_entry {S} r limits e same budget log steps =
    let none : length e.log ≡ 0 = ap length log in
    let A : ℕ → Type 0 = λ n. r.same e.state (stands r e.log n) ≡ true in
    let N : List (ℕ × ℕ) → Type 0 = λ l. NamesBelow l e.steps in
    let L : List (ℕ × ℕ) → Type 0 = λ l. IsLog l in
    record {
      run = λ j lt. absurd (omega (arith, lt, steps));
      at = subst A (sym steps) same;
      station = or_first (r.same e.state r.first) (not (r.width e.state == 1) || r.mark e.state) same;
      within = omega (arith, steps);
      log = subst L (sym log) tt;
      names = subst N (sym log) tt;
      budget = omega (arith, budget, none);
    }

pub nothing_there : {X : Type 0} (i : ℕ) (x : X) → slice_get [] i ≡ Some x → ⊥
nothing_there i x at = cc

-- the book with the root's entry alone
pub opened : {S : Type 0} (r : Rules S) (limits : Limits) (same : S → S → Bool) (e : Entry S) (met : Met) (new : Book S) → r.same e.state r.first ≡ true → e.budget ≡ limits.depart → e.log ≡ [] → e.steps ≡ 0 → Inserts same no_entries e met new → IsUnderWay r limits new
opened {S} r limits same e (New place) new root budget log steps m =
    let P : Book S → Type 0 = λ b. IsUnderWay r limits b in
    subst P (sym m.1) (record {
      sound = sound_add r limits.depart limits.steps no_entries e (sound_nothing r limits.depart limits.steps) (root_entry r limits e root budget log steps);
      root = record { entry = e; at = refl; log = log; steps = steps };
    })
opened r limits same e (Known place) new root budget log steps m = absurd (nothing_there place m.0.entry m.0.at)

-- where each entry is finished the book is complete
pub complete : {S : Type 0} (r : Rules S) (limits : Limits) (b : Book S) → IsUnderWay r limits b → AllFinished b → IsComplete b
complete r limits b u done = record {
  root = u.root;
  places = λ i lt.
      (let e = listed_place b.entries i lt in
      let f = done i e.0 e.1 in
      let m = u.sound.met i f.0 f.1 in
      (f.0, f.1, λ c j h. (let t = m.met c j h in slice_get_within b.entries j t.found t.at)));
}

-- what a closed book's entries list, the list of marks has
pub exhausted : {S : Type 0} (r : Rules S) → IsLawful r → (limits : Limits) (b : Book S) (marks : List (S × List (ℕ × ℕ))) → IsUnderWay r limits b → Closes b → ListsExactly r b marks → IsCovered r limits.depart (IsListedMark r marks)
exhausted r law limits b marks u closed lists log n short run mark =
    let l : IsListed r b.entries (stands r log n) (length log) = closed_listed r limits.depart limits.steps b 0 closed.0 law u.sound closed.1 log n short run mark in
    let at_mark : r.mark l.entry.state ≡ true = law.mark_same l.entry.state (stands r log n) l.same ∙ mark in
    let m : IsListedMark r marks l.entry.state (length l.entry.log) = lists_each r law limits b marks u.sound.entry lists l.place l.entry l.at at_mark in
    record {
      place = m.place;
      found = m.found;
      at = m.at;
      same = law.transitive m.found.0 l.entry.state (stands r log n) m.same l.same;
      departures = omega (arith, m.departures, l.departures);
    }

-- and under logs of the fewest departures
pub fewest : {S : Type 0} (r : Rules S) → IsLawful r → (limits : Limits) (b : Book S) (marks : List (S × List (ℕ × ℕ))) → IsUnderWay r limits b → Closes b → AreFound r limits marks → ListsExactly r b marks → AllFewest r marks
fewest r law limits b marks u closed found lists i p at log n run same = elim (cases_lt limits.depart (length log)) [
  | inl more ↦ (let f = found i p at in omega (arith, f.short, more))
  | inr short ↦ (
      let mark : r.mark (stands r log n) ≡ true = sym (law.mark_same p.0 (stands r log n) same) ∙ (found i p at).mark in
      let l : IsListed r b.entries (stands r log n) (length log) = closed_listed r limits.depart limits.steps b 0 closed.0 law u.sound closed.1 log n short run mark in
      let near : r.same p.0 l.entry.state ≡ true = law.transitive p.0 (stands r log n) l.entry.state same (law.symmetric l.entry.state (stands r log n) l.same) in
      omega (arith, has_no_shorter r limits b marks u.sound.entry lists i p at l.place l.entry l.at near, l.departures))
]

-- a book's entries differ in state or budget
pub has_entries : {S : Type 0} (r : Rules S) (limits : Limits) (eq : S → S → Bool) → ((s t : S) → r.same s t ≡ eq s t) → (b : Book S) → IsUnderWay r limits b → IsUndominated eq b.entries → limits.entries ≤ length b.entries → HasEntries r limits
has_entries r limits eq agree b u apart count = record {
  entries = b.entries;
  count = count;
  allowed = u.sound.entry;
  differ = λ i j e f lt at at' same budget. apart.later i j e f lt at at' (record { state = sym (agree e.state f.state) ∙ same; budget = omega (arith, budget) });
}

-- a book with the root's entry alone has room
pub root_is_bounded : {S : Type 0} (r : Rules S) (limits : Limits) (b : Book S) → IsUnderWay r limits b → length b.entries ≡ 1 → 1 ≤ limits.entries → IsBounded r limits.entries b.entries
root_is_bounded r limits b u alone some = record {
  place = 0;
  entry = u.root.entry;
  at = u.root.at;
  few = omega (arith, alone, some);
}

apart_by_rules : {S : Type 0} (r : Rules S) (eq : S → S → Bool) → ((s t : S) → r.same s t ≡ eq s t) → (entries : List (Entry S)) → IsUndominated eq entries → IsUndominated r.same entries
apart_by_rules r eq agree entries apart = record {
  later = λ i j e f lt at at' d. apart.later i j e f lt at at' (record { state = sym (agree e.state f.state) ∙ d.state; budget = d.budget });
}

-- what is known of a search that went through
through : {A E P : Type 0} (visited : Result A E) (a : A) → visited ≡ Ok a → OnOk visited P → P
through {A} {E} {P} visited a is p =
    let Q : Result A E → Type 0 = λ v. OnOk v P in
    subst Q is p

pub through_value : {A E : Type 0} (visited : Result A E) (a : A) (P : A → Type 0) → visited ≡ Ok a → IfOk visited P → P a
through_value {A} {E} visited a P is p =
    let Q : Result A E → Type 0 = λ v. IfOk v P in
    subst Q is p

-- and of one that the limit of entries stopped
pub stopped : {P : Type 0} (visited : Result Bool (OrMemory Full)) → StoppedFull visited → IfFault visited (λ _. P) → P
stopped {P} visited (full, is) p =
    let Q : Result Bool (OrMemory Full) → Type 0 = λ v. IfFault v (λ _. P) in
    subst Q is p

-- what the search left, and how it ended
pub record Left {S : Type 0} (r : Rules S) (limits : Limits) (eq : S → S → Bool) (b : Book S) (visited : Result Bool (OrMemory Full)) (status : Status) : Type 0 where
  pub under_way : IsUnderWay r limits b
  pub paired : length b.finished ≡ length b.entries
  pub apart : IsUndominated eq b.entries
  pub agree : (s t : S) → r.same s t ≡ eq s t
  pub bounded : IsBounded r limits.entries b.entries
  pub visited_all : OnOk visited (AllVisited r limits b)
  pub past : IfOk visited (CutsShort r limits b)
  pub full : IfFault visited (λ _. limits.entries ≤ length b.entries)
  pub exhausted : status ≡ Exhausted → visited ≡ Ok true
  pub entries : status ≡ Cut Entries → StoppedFull visited
  pub steps : status ≡ Cut Steps → visited ≡ Ok false

went_through : {S : Type 0} (r : Rules S) (limits : Limits) (eq : S → S → Bool) (b : Book S) (visited : Result Bool (OrMemory Full)) (status : Status) → Left r limits eq b visited status → WentThrough status → AllVisited r limits b
went_through r limits eq b visited status h (inl exhausted) = through visited true (h.exhausted exhausted) h.visited_all
went_through r limits eq b visited status h (inr steps) = through visited false (h.steps steps) h.visited_all

-- a search that was cut by the limit of steps has a way that goes past it
goes_past : {S : Type 0} (r : Rules S) (limits : Limits) (eq : S → S → Bool) (b : Book S) (visited : Result Bool (OrMemory Full)) (status : Status) → Left r limits eq b visited status → status ≡ Cut Steps → SomeWayGoesPast r limits b.entries
goes_past r limits eq b visited status h t = through_value visited false (CutsShort r limits b) (h.steps t) h.past refl

-- and so some run takes more steps
pub cut_steps : {S : Type 0} (r : Rules S) → IsLawful r → (limits : Limits) (eq : S → S → Bool) (b : Book S) (visited : Result Bool (OrMemory Full)) (status : Status) → Left r limits eq b visited status → status ≡ Cut Steps → SomeRunExceeds r limits
cut_steps r law limits eq b visited status h t =
    let w = goes_past r limits eq b visited status h t in
    exceeds r law limits w.entry w.past.choice (h.under_way.sound.entry w.place w.entry w.at) w.past.allowed w.past.past

pub tells_of_book : {S : Type 0} (r : Rules S) (limits : Limits) (eq : S → S → Bool) (b : Book S) (visited : Result Bool (OrMemory Full)) (findings : Findings S) → Left r limits eq b visited findings.status → ListsExactly r b findings.marks.entries → TellsOfBook r limits findings
tells_of_book r limits eq b visited findings h lists = (
  b,
  record {
    reached = sound_reached r limits.depart limits.steps b h.under_way.sound h.paired;
    root = h.under_way.root;
    undominated = apart_by_rules r eq h.agree b.entries h.apart;
    marks = lists;
    bounded = h.bounded;
    full = λ t. stopped visited (h.entries t) h.full;
    fewer = λ t. fewer_entries r limits b (slice_get_within b.entries 0 h.under_way.root.entry h.under_way.root.at) (went_through r limits eq b visited findings.status h t);
    past = goes_past r limits eq b visited findings.status h;
    steps = λ t. all_lead_on r limits b (went_through r limits eq b visited findings.status h (inr t));
  },
)
