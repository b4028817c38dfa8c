-- Every allowed list of events keeps the core sound, and a closed one covers every run.
use Rattle.std.proofs.Common.{◌≡◌, ℕ, ◌<◌, zero, suc, Bool, true, List, [], ◌∷◌, ◌++◌, length, slice_get, slice_set, Contains, Some, None, arith, ap, refl, sym, ◌∙◌, subst, ◌⊎◌, inl, inr, Option}
use Rattle.std.proofs.lemmas.Option.{same_Some, slice_get-get_or}
use Rattle.basis.proofs.Lists.{listed_place, stands_in_front, last_or_before}
use Rattle.sched_core.specs.Rules.{Rules, IsLawful, stands}
use Rattle.statebook.specs.declared.entry.Entry.{Entry}
use Rattle.statebook.specs.Covered.{IsCovered}
use Rattle.statebook.specs.declared.book.Met.{Met}
use Rattle.statebook.specs.declared.book.Met.TheVariants.{New, Known}
use Rattle.statebook.specs.Books.{Book, no_entries, add, finish, AllClosed, IsClosedAt, IsClosed, Inserts}
use Rattle.statebook.specs.ExplorerCore.{IsEntry, choices_of, IsSuccessorAt, HasSuccessorsAt, Core, Event, happens, IsAllowed, AreAllowed, after_all, empty, IsListed, IsSound}
use Rattle.statebook.specs.ExplorerCore.Event.{Add, Finish, Give, Take, Open, Shut, Stop}
use Rattle.statebook.specs.Inner.Frontiers.{IsOnWay, LeadsInto}
use Rattle.statebook.proofs.RunLemmas.{used-le, mark_is_station}
use Rattle.statebook.proofs.FrontierLemmas.{Way, goes_through}

-- a place of a list with one place written is that place, or was there
pub slice_get-set : {X : Type 0} (xs : List X) (k : ℕ) (y : X) (i : ℕ) (x : X) → slice_get (slice_set xs k y) i ≡ Some x → (slice_get xs i ≡ Some x) ⊎ ((i ≡ k) × (y ≡ x))
slice_get-set [] k y i x e = inl e
slice_get-set (z ∷ xs) zero y zero x e = inr (refl, same_Some y x e)
slice_get-set (z ∷ xs) zero y (suc i) x e = inl e
slice_get-set (z ∷ xs) (suc k) y zero x e = inl e
slice_get-set (z ∷ xs) (suc k) y (suc i) x e = elim (slice_get-set xs k y i x e) [
  | inl h ↦ inl h
  | inr h ↦ inr (ap suc h.0, h.1)
]

-- what was met stays met as entries are added
met_more : {S : Type 0} (r : Rules S) (entries : List (Entry S)) (e : Entry S) (i : ℕ) (places : List ℕ) → HasSuccessorsAt r entries i places → HasSuccessorsAt r (entries ++ e ∷ []) i places
met_more r entries e i places m = record {
  entry = m.entry;
  at = stands_in_front entries (e ∷ []) i m.entry m.at;
  count = m.count;
  met = λ c j h. let t = m.met c j h in record {
    found = t.found;
    at = stands_in_front entries (e ∷ []) j t.found t.at;
    steps = t.steps;
    next = t.next;
    dominates = t.dominates;
  };
}

pub sound_add : {S : Type 0} (r : Rules S) (k limit : ℕ) (b : Book S) (e : Entry S) → IsSound r k limit b → IsEntry r k limit e → IsSound r k limit (add b e)
sound_add {S} r k limit b e s h = record {
  entry = λ i f g. elim (last_or_before b.entries e i f g) [
    | inl there ↦ s.entry i f there
    | inr last ↦ (let P : Entry S → Type 0 = λ x. IsEntry r k limit x in subst P last.1 h)
  ];
  met = λ i places g. elim (last_or_before b.finished None i (Some places) g) [
    | inl there ↦ met_more r b.entries e i places (s.met i places there)
    | inr last ↦ let none : None ≡ Some places = last.1 in absurd cc
  ];
}

pub sound_meets : {S : Type 0} (r : Rules S) (k limit : ℕ) (same : S → S → Bool) (old : Book S) (e : Entry S) (met : Met) (new : Book S) → IsSound r k limit old → IsEntry r k limit e → Inserts same old e met new → IsSound r k limit new
sound_meets {S} r k limit same old e (New place) new s h m =
    let P : Book S → Type 0 = λ b. IsSound r k limit b in
    subst P (sym m.1) (sound_add r k limit old e s h)
sound_meets {S} r k limit same old e (Known place) new s h m =
    let P : Book S → Type 0 = λ b. IsSound r k limit b in
    subst P (sym m.1) s

pub sound_finish : {S : Type 0} (r : Rules S) (k limit : ℕ) (b : Book S) (i : ℕ) (places : List ℕ) → IsSound r k limit b → HasSuccessorsAt r b.entries i places → IsSound r k limit (finish b i places)
sound_finish r k limit b i places s h = record {
  entry = s.entry;
  met = λ j others g. elim (slice_get-set b.finished i (Some places) j (Some others) g) [
    | inl there ↦ s.met j others there
    | inr same ↦ (
        let list : places ≡ others = same_Some places others (same_Some (Some places) (Some others) (ap Some same.1)) in
        let P : List ℕ → Type 0 = λ l. HasSuccessorsAt r b.entries j l in
        let Q : ℕ → Type 0 = λ p. HasSuccessorsAt r b.entries p places in
        subst P list (subst Q (sym same.0) h))
  ];
}

sound_happens : {S : Type 0} (r : Rules S) (k limit : ℕ) (w : Core S) (e : Event S) → IsSound r k limit w.book → IsAllowed r k limit w e → IsSound r k limit (happens w e).book
sound_happens r k limit w (Add e) s h = sound_add r k limit w.book e s h
sound_happens r k limit w (Finish i places) s h = sound_finish r k limit w.book i places s h.1
sound_happens r k limit w (Give worker job) s h = s
sound_happens r k limit w (Take worker job) s h = s
sound_happens r k limit w (Open seat) s h = s
sound_happens r k limit w (Shut seat) s h = s
sound_happens r k limit w Stop s h = s

sound_after : {S : Type 0} (r : Rules S) (k limit : ℕ) (w : Core S) (es : List (Event S)) → IsSound r k limit w.book → AreAllowed r k limit w es → IsSound r k limit (after_all w es).book
sound_after r k limit w [] s h = s
sound_after r k limit w (e ∷ es) s h = sound_after r k limit (happens w e) es (sound_happens r k limit w e s h.0) h.1

pub sound_nothing : {S : Type 0} (r : Rules S) (k limit : ℕ) → IsSound {S = S} r k limit no_entries
sound_nothing r k limit = record { entry = λ i e h. absurd cc; met = λ i places h. absurd cc }

pub sound_events : {S : Type 0} (r : Rules S) (k limit workers seats : ℕ) (es : List (Event S)) → AreAllowed r k limit (empty workers seats) es → IsSound r k limit (after_all (empty workers seats) es).book
sound_events {S} r k limit workers seats es h = sound_after r k limit (empty workers seats) es (sound_nothing r k limit) h

closed_member : (finished : List (Option (List ℕ))) (all : List ℕ) → AllClosed finished all → (place : ℕ) → Contains all place → IsClosedAt finished all place
closed_member finished all h place (c, lt, e) =
    h c place (slice_get-get_or all c place lt ∙ ap Some e)

-- The entry stands at a place of the list.
abbrev IsAmong : {S : Type 0} → List (Entry S) → List ℕ → Entry S → Type 0
IsAmong entries all e = (place : ℕ) × Contains all place × (slice_get entries place ≡ Some e)

-- each choice of an entry of a closed list leads into the list
closed_leads : {S : Type 0} (r : Rules S) (k limit : ℕ) (b : Book S) (all : List ℕ) → IsSound r k limit b → AllClosed b.finished all → (e : Entry S) → IsAmong b.entries all e → LeadsInto r (IsAmong b.entries all) e
closed_leads {S} r k limit b all sound members e (place, inside, at) c lt =
    let closed : IsClosedAt b.finished all place = closed_member b.finished all members place inside in
    let done : HasSuccessorsAt r b.entries place closed.places = sound.met place closed.places closed.at in
    let E : Entry S → Type 0 = λ f. length closed.places ≡ choices_of (r.width f.state) f.budget in
    let itself : done.entry ≡ e = same_Some done.entry e (sym done.at ∙ at) in
    let few : c < length closed.places = rw (subst E itself done.count) lt in
    let target = listed_place closed.places c few in
    let M : Entry S → Type 0 = λ f. IsSuccessorAt r b.entries f c target.0 in
    let met : IsSuccessorAt r b.entries e c target.0 = subst M itself (done.met c target.0 target.1) in
    record {
      found = met.found;
      inside = (target.0, closed.inside c target.0 target.1, met.at);
      steps = met.steps;
      next = met.next;
      dominates = met.dominates;
    }

root_on_way : {S : Type 0} (r : Rules S) (k limit : ℕ) (b : Book S) (root : ℕ) (all : List ℕ) (log : List (ℕ × ℕ)) → IsSound r k limit b → IsClosed b root all → IsOnWay r k (IsAmong b.entries all) log 0
root_on_way {S} r k limit b root all log sound closed =
    let e : Entry S = closed.root_entry.entry in
    let is : IsEntry r k limit e = sound.entry root e closed.root_entry.at in
    let A : ℕ → Type 0 = λ n. r.same e.state (stands r e.log n) ≡ true in
    let none : length e.log ≡ 0 = ap length closed.root_entry.log in
    record {
      entry = e;
      inside = (root, closed.root_inside, closed.root_entry.at);
      same = subst A closed.root_entry.steps is.at;
      budget = omega (arith, is.budget, none);
    }

-- where a closing scan answers true, each mark is listed under a log with no more departures
pub closed_listed : {S : Type 0} (r : Rules S) (k limit : ℕ) (b : Book S) (root : ℕ) (all : List ℕ) → IsLawful r → IsSound r k limit b → IsClosed b root all → IsCovered r k (IsListed r b.entries)
closed_listed {S} r k limit b root all law sound closed log n short run mark =
    let way : Way r k log n = record { law = law; short = short; run = run; station = mark_is_station r (stands r log n) mark } in
    let end : IsOnWay r k (IsAmong b.entries all) log n =
    goes_through r k (IsAmong b.entries all) log n way (closed_leads r k limit b all sound closed.members) (root_on_way r k limit b root all log sound closed) in
    let is : IsEntry r k limit end.entry = sound.entry end.inside.0 end.entry end.inside.2 in
    record {
      place = end.inside.0;
      entry = end.entry;
      at = end.inside.2;
      same = end.same;
      departures = omega (arith, end.budget, is.budget, used-le log n);
    }
