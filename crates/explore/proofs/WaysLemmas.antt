-- What is remembered of forced ways, and what it is good for.
use Rattle.std.proofs.Common.{◌≡◌, ℕ, ◌+◌, ◌-◌, ◌<◌, ◌≤◌, ◌++◌, zero, suc, Bool, true, false, List, [], ◌∷◌, Option, Some, None, IfSome, IfNone, slice_get, length, length-append, cond, ap, arith, refl, sym, ◌∙◌, subst, inl, inr}
use Rattle.std.proofs.lemmas.Bool.{cases_lt}
use Rattle.std.proofs.lemmas.Map.Entries.{place_from_lookup}
use Rattle.std.proofs.lemmas.Option.{same_Some, slice_get_within}
use Rattle.std.specs.Map.{lookup}
use Rattle.indexmap.specs.IndexMap.{insert_entry}
use Rattle.basis.proofs.Lists.{stands_in_front, stands_last}
use Rattle.sched_core.specs.Rules.{Rules, IsLawful}
use Rattle.statebook.specs.declared.entry.Entry.{Entry}
use Rattle.statebook.specs.Stations.{forced_state}
use Rattle.statebook.specs.Books.{Book, IsFoundAt}
use Rattle.statebook.specs.declared.limits.Limits.{Limits}
use Rattle.statebook.specs.Inner.Forced.{ComesTo}
use Rattle.explore.specs.Inner.Exploring.{IsSameOrAdded}
use Rattle.explore.specs.Inner.Ways.{AllCome, AllGoPast, AllLead, AreRemembered, IsKnownAs, LeadsTo}
use Rattle.explore.proofs.InsertLemmas.{Inserted, inserted}
use Rattle.explore.proofs.WayLemmas.{leads_same}
use Rattle.explore.specs.declared.search.Onward.{Onward}
use Rattle.explore.specs.declared.search.Checkpoint.{Checkpoint}

none_passes_at : {K V : Type 0} (test : K → Bool) (x : K × V) (es : List (K × V)) → (lookup test es ≡ None → (i : ℕ) (p : K × V) → slice_get es i ≡ Some p → test p.0 ≡ false) → (b : Bool) → test x.0 ≡ b → cond b (Some x.1) (lookup test es) ≡ None → (i : ℕ) (p : K × V) → slice_get (x ∷ es) i ≡ Some p → test p.0 ≡ false
none_passes_at test x es later true h e i p at = absurd cc
none_passes_at test x es later false h e zero p at = ap (λ q. test q.0) (sym (same_Some x p at)) ∙ h
none_passes_at test x es later false h e (suc i) p at = later e i p at

none_passes : {K V : Type 0} (test : K → Bool) (es : List (K × V)) → lookup test es ≡ None → (i : ℕ) (p : K × V) → slice_get es i ≡ Some p → test p.0 ≡ false
none_passes test [] e i p at = absurd cc
none_passes test (x ∷ es) e i p at = none_passes_at test x es (none_passes test es) (test x.0) refl e i p at

pub known_as : {S : Type 0} (test : S → Bool) (ways : List (S × Onward)) (found : Option Onward) → found ≡ lookup test ways → IfSome found (λ onward. (i : ℕ) × (p : S × Onward) × (slice_get ways i ≡ Some p) × (test p.0 ≡ true) × (p.1 ≡ onward))
known_as test ways (Some onward) e =
    let x = place_from_lookup test ways onward (sym e) in
    (x.0, (x.1, onward), x.2, x.3, refl)
known_as test ways None e = tt

pub unknown_as : {S : Type 0} (test : S → Bool) (ways : List (S × Onward)) (found : Option Onward) → found ≡ lookup test ways → IfNone found ((i : ℕ) (p : S × Onward) → slice_get ways i ≡ Some p → test p.0 ≡ false)
unknown_as test ways (Some onward) e = tt
unknown_as test ways None e = λ i p at. none_passes test ways (sym e) i p at

-- The checkpoints left are among those that were given, and what is remembered is of the latter or was before, and not more than there
-- is room for. With room for all, something is remembered of each that is no longer left.
pub record Remembers {S : Type 0} (same : S → S → Bool) (most : ℕ) (old : List (S × Onward)) (all left : List (Checkpoint S)) (end : ℕ) (station : Option ℕ) (now : List (S × Onward)) : Type 0 where
  pub among : (i : ℕ) (l : Checkpoint S) → slice_get left i ≡ Some l → slice_get all i ≡ Some l
  pub remembered : AreRemembered same old all end station now
  pub count : length now + length left ≤ length old + length all
  pub within : length old ≤ most → length now ≤ most
  pub known : length old + length all ≤ most → (i : ℕ) (l : Checkpoint S) → length left ≤ i → slice_get all i ≡ Some l → (onward : Onward) × IsKnownAs same now l.state onward

pub remembers_none : {S : Type 0} (same : S → S → Bool) (most : ℕ) (old : List (S × Onward)) (all : List (Checkpoint S)) (end : ℕ) (station : Option ℕ) → Remembers same most old all all end station old
remembers_none same most old all end station = record {
  among = λ i l at. at;
  remembered = λ i p at. inl (i, at);
  count = omega arith;
  within = λ room. room;
  known = λ room i l past at. (let lt = slice_get_within all i l at in absurd (omega (arith, lt, past)));
}

among_left : {X : Type 0} (all left rest : List X) (last : X) → ((i : ℕ) (x : X) → slice_get left i ≡ Some x → slice_get all i ≡ Some x) → left ≡ rest ++ last ∷ [] → (i : ℕ) (x : X) → slice_get rest i ≡ Some x → slice_get all i ≡ Some x
among_left {X} all left rest last among items i x at =
    let P : List X → Type 0 = λ xs. slice_get xs i ≡ Some x in
    among i x (subst P (sym items) (stands_in_front rest (last ∷ []) i x at))

last_among : {X : Type 0} (all left rest : List X) (last : X) → ((i : ℕ) (x : X) → slice_get left i ≡ Some x → slice_get all i ≡ Some x) → left ≡ rest ++ last ∷ [] → slice_get all (length rest) ≡ Some last
last_among {X} all left rest last among items =
    let P : List X → Type 0 = λ xs. slice_get xs (length rest) ≡ Some last in
    among (length rest) last (subst P (sym items) (stands_last rest last))

one_less : {X : Type 0} (left rest : List X) (last : X) → left ≡ rest ++ last ∷ [] → length left ≡ length rest + 1
one_less left rest last items = ap length items ∙ length-append rest (last ∷ [])

-- the last checkpoint is one that was given
pub last_left : {S : Type 0} (same : S → S → Bool) (most : ℕ) (old : List (S × Onward)) (all left rest : List (Checkpoint S)) (last : Checkpoint S) (end : ℕ) (station : Option ℕ) (now : List (S × Onward)) → Remembers same most old all left end station now → left ≡ rest ++ last ∷ [] → ((i : ℕ) (l : Checkpoint S) → slice_get all i ≡ Some l → l.taken ≤ end) → last.taken ≤ end
last_left same most old all left rest last end station now h items before = before (length rest) last (last_among all left rest last h.among items)

-- the last checkpoint was taken, and is not remembered, for want of room
pub remembers_less : {S : Type 0} (same : S → S → Bool) (most : ℕ) (old : List (S × Onward)) (all left rest : List (Checkpoint S)) (last : Checkpoint S) (end : ℕ) (station : Option ℕ) (now : List (S × Onward)) → Remembers same most old all left end station now → left ≡ rest ++ last ∷ [] → most ≤ length now → Remembers same most old all rest end station now
remembers_less same most old all left rest last end station now h items full =
    let less : length left ≡ length rest + 1 = one_less left rest last items in
    record {
      among = among_left all left rest last h.among items;
      remembered = h.remembered;
      count = omega (arith, h.count, less);
      within = h.within;
      known = λ room i l past at. absurd (omega (arith, room, full, h.count, less));
    }

known_key : {S : Type 0} (same : S → S → Bool) (now after : List (S × Onward)) (k : S) (v : Onward) → Inserted same now k v after → (s : S) → (onward : Onward) × IsKnownAs same now s onward → (onward : Onward) × IsKnownAs same after s onward
known_key same now after k v I s (onward, (i, p, at, equal, is)) =
    let q = I.kept i p at in
    (q.0.1, (i, q.0, q.1, ap (same s) q.2 ∙ equal, refl))

known_more : {S : Type 0} (same : S → S → Bool) (all left rest : List (Checkpoint S)) (last : Checkpoint S) (now after : List (S × Onward)) (v : Onward) → Inserted same now last.state v after → slice_get all (length rest) ≡ Some last → length left ≡ length rest + 1 → ((i : ℕ) (l : Checkpoint S) → length left ≤ i → slice_get all i ≡ Some l → (onward : Onward) × IsKnownAs same now l.state onward) → (i : ℕ) (l : Checkpoint S) → length rest ≤ i → slice_get all i ≡ Some l → (onward : Onward) × IsKnownAs same after l.state onward
known_more {S} same all left rest last now after v I there less known i l past at = elim (cases_lt (length rest) i) [
  | inl later ↦ known_key same now after last.state v I l.state (known i l (omega (arith, later, less)) at)
  | inr ge ↦ (
      let here : i ≡ length rest = omega (arith, ge, past) in
      let P : ℕ → Type 0 = λ j. slice_get all j ≡ Some l in
      let one : last ≡ l = same_Some last l (sym there ∙ subst P here at) in
      let Q : Checkpoint S → Type 0 = λ x. (onward : Onward) × IsKnownAs same after x.state onward in
      subst Q one (v, (I.place, (I.key, v), I.at, I.same, refl)))
]

-- the last checkpoint was taken, and is remembered
pub remembers_more : {S : Type 0} (same : S → S → Bool) → ((x : S) → same x x ≡ true) → (most : ℕ) (old : List (S × Onward)) (all left rest : List (Checkpoint S)) (last : Checkpoint S) (end : ℕ) (station : Option ℕ) (now new : List (S × Onward)) → Remembers same most old all left end station now → left ≡ rest ++ last ∷ [] → length now < most → new ≡ insert_entry same now last.state (record { steps = end - last.taken; station = station }) → Remembers same most old all rest end station new
remembers_more {S} same itself most old all left rest last end station now new h items space more =
    let onward : Onward = record { steps = end - last.taken; station = station } in
    let there : slice_get all (length rest) ≡ Some last = last_among all left rest last h.among items in
    let less : length left ≡ length rest + 1 = one_less left rest last items in
    let I : Inserted same now last.state onward (insert_entry same now last.state onward) = inserted same itself now last.state onward in
    let P : List (S × Onward) → Type 0 = λ xs. Remembers same most old all rest end station xs in
    subst P (sym more) (record {
      among = among_left all left rest last h.among items;
      remembered = λ i p at. elim (I.from i p at) [
        | inl new ↦ inr (record { place = length rest; checkpoint = last; at = there; equal = new.0; onward = new.1 })
        | inr was ↦ h.remembered was.0 p was.1
      ];
      count = omega (arith, h.count, less, I.count);
      within = λ room. omega (arith, space, I.count);
      known = λ room. known_more same all left rest last now (insert_entry same now last.state onward) onward I there less (h.known room);
    })

-- what a state is known as is so
pub known_leads : {S : Type 0} (r : Rules S) → IsLawful r → (same : S → S → Bool) → ((s t : S) → r.same s t ≡ same s t) → (entries : List (Entry S)) (ways : List (S × Onward)) (s : S) (onward : Onward) → AllLead r entries ways → IsKnownAs same ways s onward → LeadsTo r entries s onward.steps onward.station
known_leads {S} r law same agree entries ways s onward lead (i, p, at, equal, is) =
    let P : Onward → Type 0 = λ o. LeadsTo r entries s o.steps o.station in
    subst P is (leads_same r law entries s p.0 p.1.steps p.1.station (law.symmetric s p.0 (agree s p.0 ∙ equal)) (lead i p at))

-- the entry at the place stands where the way leads
pub leads_to_entry : {S : Type 0} (r : Rules S) (entries : List (Entry S)) (s : S) (steps : ℕ) (station : Option ℕ) (place : ℕ) (e : Entry S) → LeadsTo r entries s steps station → station ≡ Some place → slice_get entries place ≡ Some e → ComesTo r s 0 e.state steps
leads_to_entry {S} r entries s steps station place e leads is at =
    let P : Option ℕ → Type 0 = λ o. LeadsTo r entries s steps o in
    let there : LeadsTo r entries s steps (Some place) = subst P is leads in
    let Q : Entry S → Type 0 = λ x. ComesTo r s 0 x.state steps in
    subst Q (same_Some there.0 e (sym there.1 ∙ at)) there.2

pub leads_to_place : {S : Type 0} (r : Rules S) (entries : List (Entry S)) (s : S) (steps : ℕ) (station : Option ℕ) (place : ℕ) → LeadsTo r entries s steps station → station ≡ Some place → place < length entries
leads_to_place {S} r entries s steps station place leads is =
    let P : Option ℕ → Type 0 = λ o. LeadsTo r entries s steps o in
    let there : LeadsTo r entries s steps (Some place) = subst P is leads in
    slice_get_within entries place there.0 there.1

-- what leads somewhere does so in a book with more entries
leads_later : {S : Type 0} (r : Rules S) (old new : List (Entry S)) → ((i : ℕ) (e : Entry S) → slice_get old i ≡ Some e → slice_get new i ≡ Some e) → (t : S) (steps : ℕ) (station : Option ℕ) → LeadsTo r old t steps station → LeadsTo r new t steps station
leads_later r old new stays t steps (Some place) (x, at, way) = (x, stays place x at, way)
leads_later r old new stays t steps None none = none

pub lead_later : {S : Type 0} (r : Rules S) (old new : List (Entry S)) → ((i : ℕ) (e : Entry S) → slice_get old i ≡ Some e → slice_get new i ≡ Some e) → (ways : List (S × Onward)) → AllLead r old ways → AllLead r new ways
lead_later r old new stays ways lead i p at = leads_later r old new stays p.0 p.1.steps p.1.station (lead i p at)

-- each checkpoint leads to the end
abbrev pub MarksLead : {S : Type 0} → Rules S → List (Entry S) → List (Checkpoint S) → ℕ → Option ℕ → Type 0
MarksLead {S} r entries checkpoints end station = (i : ℕ) (l : Checkpoint S) → slice_get checkpoints i ≡ Some l → LeadsTo r entries l.state (end - l.taken) station

pub lead_more : {S : Type 0} (r : Rules S) → IsLawful r → (same : S → S → Bool) → ((s t : S) → r.same s t ≡ same s t) → (entries : List (Entry S)) (old new : List (S × Onward)) (checkpoints : List (Checkpoint S)) (end : ℕ) (station : Option ℕ) → AllLead r entries old → MarksLead r entries checkpoints end station → AreRemembered same old checkpoints end station new → AllLead r entries new
lead_more {S} r law same agree entries old new checkpoints end station lead marks remembered i p at = elim (remembered i p at) [
  | inl was ↦ lead was.0 p was.1
  | inr new ↦ (
      let P : Onward → Type 0 = λ o. LeadsTo r entries p.0 o.steps o.station in
      let l : Checkpoint S = new.checkpoint in
      subst P (sym new.onward) (leads_same r law entries p.0 l.state (end - l.taken) station (agree l.state p.0 ∙ new.equal) (marks new.place l new.at)))
]

-- where the way comes to a station that the book has met
pub marks_lead_there : {S : Type 0} (r : Rules S) → IsLawful r → (same : S → S → Bool) → ((s t : S) → r.same s t ≡ same s t) → (b : Book S) (next : Entry S) (place end : ℕ) (checkpoints : List (Checkpoint S)) → AllCome r checkpoints next.state end → IsFoundAt same b.entries next place → MarksLead r b.entries checkpoints end (Some place)
marks_lead_there r law same agree b next place end checkpoints come found i l at =
    let way = come i l at in (
      found.entry,
      found.at,
      record {
        forced_steps = way.forced_steps;
        count = omega (arith, way.count);
        next = way.next;
        same = law.transitive found.entry.state next.state (forced_state r l.state way.forced_steps) (agree found.entry.state next.state ∙ found.dominates.state) way.same;
      },
    )

pub marks_lead_past : {S : Type 0} (r : Rules S) (entries : List (Entry S)) (limits : Limits) (checkpoints : List (Checkpoint S)) → AllGoPast r checkpoints limits → MarksLead r entries checkpoints (limits.steps + 1) None
marks_lead_past r entries limits checkpoints past i l at = λ j lt. (past i l at).1 j (omega (arith, lt))

pub come_before : {S : Type 0} (r : Rules S) (checkpoints : List (Checkpoint S)) (t : S) (end : ℕ) → AllCome r checkpoints t end → (i : ℕ) (l : Checkpoint S) → slice_get checkpoints i ≡ Some l → l.taken ≤ end
come_before r checkpoints t end come i l at = omega (arith, (come i l at).count)

-- a book with an entry more has room for what there was room for
pub room_later : {S : Type 0} (old : Book S) (e : Entry S) (new : Book S) (room count : ℕ) → IsSameOrAdded old e new → count ≤ length old.entries + room → count ≤ length new.entries + room
room_later {S} old e new room count (inl same) few =
    let P : Book S → Type 0 = λ b. count ≤ length b.entries + room in
    subst P (sym same) few
room_later {S} old e new room count (inr added) few =
    let P : Book S → Type 0 = λ b. count ≤ length b.entries + room in
    subst P (sym added) (omega (arith, few, length-append old.entries (e ∷ [])))
