-- What stays of a worker from step to step, and what it has met so far.
use Rattle.std.proofs.Common.{◌≡◌, ℕ, ◌+◌, zero, suc, true, Bool, List, [], ◌∷◌, ◌++◌, length, slice_get, Some, arith, ap, refl, sym, ◌∙◌, subst, length-append, ◌%◌, ◌^◌, None, ◌≤◌}
use Rattle.std.specs.Prelude.{reverse}
use Rattle.std.proofs.lemmas.List.{reverse-append}
use native.Mathlib.Nat.{mod-add-mod}
use Rattle.atomic_table.specs.Seated.{TableId}
use Rattle.basis.specs.declared.memory.NoMemory.{NoMemory}
use Rattle.shardbook.specs.Passes.{Counts}
use Rattle.sched_core.specs.Rules.{Rules, IsLawful}
use Rattle.statebook.specs.Books.{Dominates}
use Rattle.statebook.specs.ExplorerCore.{choices_of}
use Rattle.statebook.specs.Stations.{forced_state}
use Rattle.statebook.specs.declared.entry.Entry.{Entry}
use Rattle.shardbook.specs.Finishes.{HasAllSuccessors, IsSuccessor}
use Rattle.shardbook.specs.StoredEntries.{StoredEntry, entries_of}
use Rattle.workpool.specs.Tallies.{Seated}
use Rattle.statebook.specs.Inner.Forced.{Follows}
use Rattle.workpool.specs.Inner.Works.{IsCounted, IsSamePlace, IsSeated}
use Rattle.workpool.specs.declared.work.Work.{Work}

pub same_itself : {B : Type 0} (w : Work B) → IsSamePlace w w
same_itself w = record { owner = refl; thief = refl; tally = refl; seats = refl; parts = refl }

pub same_twice : {B : Type 0} (u v w : Work B) → IsSamePlace u v → IsSamePlace v w → IsSamePlace u w
same_twice u v w a b = record { owner = b.owner ∙ a.owner; thief = b.thief ∙ a.thief; tally = b.tally ∙ a.tally; seats = b.seats ∙ a.seats; parts = b.parts ∙ a.parts }

pub seated_same : {B : Type 0} (tally : TableId) (v w : Work B) → IsSeated tally v → IsSamePlace v w → IsSeated tally w
seated_same tally v w s a = record { here = a.tally ∙ s.here; part = a.seats ∙ s.part }

-- what a worker is when its seat has only learnt of the mark
abbrev pub hearing : {B : Type 0} → Work B → Seated → Work B
hearing w s = record w { tally = s }

pub same_hearing : {B : Type 0} (w : Work B) (s : Seated) → s ≡ record w.tally { stopped = s.stopped } → IsSamePlace w (hearing w s)
same_hearing w s e = record { owner = refl; thief = refl; tally = ap (λ (x : Seated). x.tally) e; seats = ap (λ (x : Seated). x.parts) e; parts = refl }

pub counted_hearing : {B : Type 0} (running : ℕ) (w : Work B) (s : Seated) → s ≡ record w.tally { stopped = s.stopped } → IsCounted running w → IsCounted running (hearing w s)
counted_hearing running w s e c =
    let opens : s.opens ≡ w.tally.opens = ap (λ (x : Seated). x.opens) e in
    record { opens = c.opens ∙ sym opens; fewer = omega (arith, c.fewer, opens); all = λ none. c.all none ∙ sym opens; given = c.given; taken = c.taken; shut = (let shuts : s.shuts ≡ w.tally.shuts = ap (λ (x : Seated). x.shuts) e in omega (arith, c.shut, shuts)) }

-- an entry that dominates what follows is met by the choice
pub met_by : {S : Type 0} (r : Rules S) → IsLawful r → (same : S → S → Bool) → ((s t : S) → r.same s t ≡ same s t) → (e next found : Entry S) (c : ℕ) → Follows r e c next → Dominates same found next.state next.budget → IsSuccessor r e c found
met_by r law same agree e next found c f d = record {
  steps = f.steps;
  next = f.station;
  dominates = record {
    state = law.transitive found.state next.state (forced_state r (r.after e.state c) f.steps) (agree found.state next.state ∙ d.state) f.same;
    budget = omega (arith, d.budget, f.budget);
  };
}

-- one entry was found for each of the last choices, so many of all, in order
pub record HasLastSuccessors {S : Type 0} (r : Rules S) (e : Entry S) (all n : ℕ) (found : List (Entry S)) : Type 0 where
  pub count : length found ≡ n
  pub met : (i c : ℕ) (f : Entry S) → slice_get found i ≡ Some f → c + n ≡ all + i → IsSuccessor r e c f

pub met_none : {S : Type 0} (r : Rules S) (e : Entry S) (all : ℕ) (next : List (StoredEntry S)) → next ≡ [] → HasLastSuccessors r e all 0 (entries_of (reverse next))
met_none {S} r e all next none =
    let P : List (StoredEntry S) → Type 0 = λ l. HasLastSuccessors r e all 0 (entries_of (reverse l)) in
    subst P (sym none) (record { count = refl; met = λ i c f at is. absurd cc })

-- of what is found with the choice before them
met_at : {S : Type 0} (r : Rules S) (e : Entry S) (all n c : ℕ) (found : List (Entry S)) (f : Entry S) → HasLastSuccessors r e all n found → c + (n + 1) ≡ all → IsSuccessor r e c f →
    (i d : ℕ) (g : Entry S) → slice_get (f ∷ found) i ≡ Some g → d + (n + 1) ≡ all + i → IsSuccessor r e d g
met_at {S} r e all n c found f h before m zero d g at is =
    let P : Entry S → Type 0 = λ x. IsSuccessor r e d x in
    let Q : ℕ → Type 0 = λ k. IsSuccessor r e k f in
    let itself : f ≡ g = cc in
    let here : c ≡ d = omega (arith, before, is) in
    subst P itself (subst Q here m)
met_at r e all n c found f h before m (suc i) d g at is = h.met i d g at (omega (arith, is))

met_cons : {S : Type 0} (r : Rules S) (e : Entry S) (all n c : ℕ) (found : List (Entry S)) (f : Entry S) → HasLastSuccessors r e all n found → c + (n + 1) ≡ all → IsSuccessor r e c f → HasLastSuccessors r e all (n + 1) (f ∷ found)
met_cons r e all n c found f h before m = record { count = omega (arith, h.count); met = met_at r e all n c found f h before m }

pub met_more : {S : Type 0} (r : Rules S) (e : Entry S) (all n c : ℕ) (old new : List (StoredEntry S)) (s : StoredEntry S) → new ≡ old ++ s ∷ [] → c + (n + 1) ≡ all → HasLastSuccessors r e all n (entries_of (reverse old)) → IsSuccessor r e c s.entry → HasLastSuccessors r e all (n + 1) (entries_of (reverse new))
met_more {S} r e all n c old new s is before h m =
    let P : List (Entry S) → Type 0 = λ l. HasLastSuccessors r e all (n + 1) l in
    let grown : entries_of (reverse new) ≡ s.entry ∷ entries_of (reverse old) = ap (λ (l : List (StoredEntry S)). entries_of (reverse l)) is ∙ ap entries_of (reverse-append old (s ∷ [])) in
    subst P (sym grown) (met_cons r e all n c (entries_of (reverse old)) s.entry h before m)

pub met_all : {S : Type 0} (r : Rules S) (e : Entry S) (all n : ℕ) (old new : List (StoredEntry S)) → new ≡ reverse old → HasLastSuccessors r e all n (entries_of (reverse old)) → n ≡ all → all ≡ choices_of (r.width e.state) e.budget → HasAllSuccessors r e (entries_of new)
met_all {S} r e all n old new is h each whole =
    let P : List (StoredEntry S) → Type 0 = λ l. HasAllSuccessors r e (entries_of l) in
    subst P (sym is) (record { count = h.count ∙ each ∙ whole; met = λ c f at. h.met c c f at (omega (arith, each)) })

-- a pass that counted nothing more
pub counted_pass : {B : Type 0} (running : ℕ) (w : Work B) (p : Counts) → p ≡ w.pass → IsCounted running w → IsCounted running (record w { pass = p })
counted_pass running w p e c = record {
  opens = ap (λ (x : Counts). x.count) e ∙ c.opens;
  fewer = c.fewer;
  all = c.all;
  given = c.given;
  taken = c.taken;
  shut = c.shut;
}

-- a New answer, an open and a job, or want of memory in the job's place
pub counted_new : {B : Type 0} (running : ℕ) (w v : Work B) → IsCounted running w → v.pass.count ≡ w.pass.count + 1 → v.tally.opens ≡ w.tally.opens + 1 → v.tally.shuts ≡ w.tally.shuts → v.seat.owner.taken ≡ w.seat.owner.taken → v.seat.thief.taken ≡ w.seat.thief.taken → v.taken ≡ w.taken
    → length v.seat.owner.put ≤ length w.seat.owner.put + 1 → (v.refused ≡ None → (w.refused ≡ None) × (length v.seat.owner.put ≡ length w.seat.owner.put + 1)) → v.given ≡ length v.seat.owner.put % 2 ^ 64 → IsCounted running v
counted_new running w v c count opens shuts out stolen taken few all given =
    let a = ap length out in
    let b = ap length stolen in
    let same : length w.seat.owner.taken + length w.seat.thief.taken ≡ length v.seat.owner.taken + length v.seat.thief.taken = omega (arith, a, b) in
    record {
      opens = omega (arith, count, opens, c.opens);
      fewer = omega (arith, few, opens, c.fewer);
      all = λ none. (let n = all none in let was = c.all n.0 in let now = n.1 in omega (arith, was, now, opens));
      given = given;
      taken = taken ∙ c.taken ∙ ap (λ n. n % 2 ^ 64) same;
      shut = omega (arith, same, c.shut, shuts);
    }

-- one job put more, modulo 2^64
pub one_given : (before after : ℕ) (old new : List ℕ) (job : ℕ) → before ≡ length old % 2 ^ 64 → new ≡ old ++ job ∷ [] → after ≡ (before + 1) % 2 ^ 64 → after ≡ length new % 2 ^ 64
one_given before after old new job was put is =
    let len : length new ≡ length old + 1 = ap length put ∙ length-append old (job ∷ []) in
    is ∙ ap (λ n. (n + 1) % 2 ^ 64) was ∙ mod-add-mod (length old) (2 ^ 64) 1 ∙ ap (λ n. n % 2 ^ 64) (sym len)

-- the job that was running is shut
pub counted_shut : {B : Type 0} (w : Work B) (s : Seated) → s ≡ record w.tally { shuts = w.tally.shuts + 1 } → IsCounted 1 w → IsCounted 0 (record w { tally = s })
counted_shut w s e c =
    let opens : s.opens ≡ w.tally.opens = ap (λ (x : Seated). x.opens) e in
    let shuts : s.shuts ≡ w.tally.shuts + 1 = ap (λ (x : Seated). x.shuts) e in
    record {
      opens = c.opens ∙ sym opens;
      fewer = omega (arith, c.fewer, opens);
      all = λ none. c.all none ∙ sym opens;
      given = c.given;
      taken = c.taken;
      shut = omega (arith, c.shut, shuts);
    }

-- what is noted besides changes no count
pub counted_past : {B : Type 0} (running : ℕ) (w : Work B) (past : Bool) → IsCounted running w → IsCounted running (record w { past = past })
counted_past running w past c = record { opens = c.opens; fewer = c.fewer; all = c.all; given = c.given; taken = c.taken; shut = c.shut }

pub counted_refused : {B : Type 0} (running : ℕ) (w : Work B) (refused : NoMemory) (s : Seated) → s ≡ record w.tally { stopped = true } → IsCounted running w → IsCounted running (record w { tally = s; refused = Some refused })
counted_refused running w refused s e c =
    let opens : s.opens ≡ w.tally.opens = ap (λ (x : Seated). x.opens) e in
    let shuts : s.shuts ≡ w.tally.shuts = ap (λ (x : Seated). x.shuts) e in
    record {
      opens = c.opens ∙ sym opens;
      fewer = omega (arith, c.fewer, opens);
      all = λ none. absurd cc;
      given = c.given;
      taken = c.taken;
      shut = omega (arith, c.shut, shuts);
    }
