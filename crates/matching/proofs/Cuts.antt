-- Why a search stops short.
use Rattle.std.proofs.Common.{◌≡◌, ℕ, ◌+◌, ◌-◌, ◌<◌, ◌≤◌, zero, suc, Bool, true, false, List, [], ◌∷◌, ◌++◌, length, slice_get, Some, inl}
use Rattle.std.proofs.Common.{inr, arith, ap, refl, sym, ◌∙◌, subst, append_assoc}
use Rattle.std.specs.List.{AllByRecursion, IsDistinct}
use Rattle.std.specs.Map.{keys_of}
use Rattle.std.proofs.lemmas.Bool.{cases_lt}
use Rattle.std.proofs.lemmas.List.{length-map}
use Rattle.std.proofs.lemmas.Map.Keys.{IsDistinct-head, IsDistinct-tail}
use Rattle.std.proofs.lemmas.Option.{same_Some, none-some}
use Rattle.basis.proofs.Bools.{clash}
use Rattle.sched_core.specs.Logs.{IsLog, IsLogFrom}
use Rattle.sched_core.specs.Rules.{Rules, IsLawful, stands, choice_at, IsRun, NamesBelow}
use Rattle.sched_core.proofs.LogLemmas.{IsLogFrom-front}
use Rattle.statebook.specs.declared.limits.Limits.{Limits}
use Rattle.statebook.specs.Ways.{SomeRunExceeds}
use Rattle.explore.specs.Found.{HasEntries}
use Rattle.explore.specs.declared.ranked_findings.RankedReason.TheVariants.{Entries as AtEntries, Steps as AtSteps, Stopped as AtStop}
use Rattle.explore.specs.declared.ranked_findings.RankedStatus.{RankedStatus}
use Rattle.explore.specs.declared.ranked_findings.RankedStatus.TheVariants.{Cut}
use Rattle.matching.specs.Slots.{HasEnds, IsSomeEnd, SomeRunIsLong, SomeSlotExceeds, IsRunTo, one_slot}
use Rattle.basis.specs.Reasons.{Because}
use Rattle.basis.specs.declared.memory.OrMemory.{OrMemory}
use Rattle.basis.specs.declared.memory.OrMemory.TheVariants.{Fault, Memory}
use Rattle.matching.specs.Inner.Candidates.{AreWays, IsAWay, Keeps}
use Rattle.matching.specs.Inner.Searching.{IsReason}
use Rattle.matching.specs.Inner.Slots.{EndsSlot, IsBeyond, log_later}
use Rattle.matching.specs.declared.candidates.Way.{Way}
use Rattle.matching.specs.declared.halt.Halt.{Halt}
use Rattle.matching.specs.declared.halt.Halt.TheVariants.{Entries, Steps, Stopped}
use Rattle.matching.specs.declared.slot.SlotStart.{SlotStart}
use Rattle.matching.proofs.Explaining.{joined_run}
use Rattle.matching.proofs.Matched.{way_alike}
use Rattle.matching.proofs.JoinedLogs.{joined_after, joined_before, none_beyond, shifted_length, within_all, within_joined}
use Rattle.matching.proofs.Segments.{ChooseAlike, ChoosesFrom, along_open, along_run, run_alike, stands_alike}

-- the key of a pair, at its place
key_at : {S : Type 0} (entries : List (S × Way S)) (i : ℕ) (s : S) → slice_get (keys_of entries) i ≡ Some s →
    (e : S × Way S) × (slice_get entries i ≡ Some e) × (e.0 ≡ s)
key_at [] i s at = absurd (none-some s at)
key_at (e ∷ entries) zero s at = (e, refl, same_Some e.0 s at)
key_at (e ∷ entries) (suc i) s at = key_at entries i s at

all_at : {S : Type 0} (P : S → Type 0) (keys : List S) → AllByRecursion P keys → (i : ℕ) (s : S) → slice_get keys i ≡ Some s → P s
all_at P [] all i s at = absurd (none-some s at)
all_at P (k ∷ keys) all zero s at = subst P (same_Some k s at) all.0
all_at P (k ∷ keys) all (suc i) s at = all_at P keys all.1 i s at

apart_at : {S : Type 0} (eq : S → S → Bool) (keys : List S) → IsDistinct eq keys → (i j : ℕ) (s t : S) → i < j →
    slice_get keys i ≡ Some s → slice_get keys j ≡ Some t → eq s t ≡ false
apart_at eq [] apart i j s t lt at also = absurd (none-some s at)
apart_at eq (k ∷ keys) apart i zero s t lt at also = absurd (omega (arith, lt))
apart_at {S} eq (k ∷ keys) apart zero (suc j) s t lt at also =
    let P : S → Type 0 = λ x. eq x t ≡ false in
    subst P (same_Some k s at) (all_at (λ y. eq k y ≡ false) keys (IsDistinct-head eq k keys apart) j t also)
apart_at eq (k ∷ keys) apart (suc i) (suc j) s t lt at also = apart_at eq keys (IsDistinct-tail eq k keys apart) i j s t
    (omega (arith, lt)) at also

-- there are as many candidates as the limit
pub has_ends : {S : Type 0} (r : Rules S) (eq : S → S → Bool) → ((s t : S) → r.same s t ≡ eq s t) →
    (rank : S → ℕ) (limits : Limits) (entries : List (S × Way S)) → IsDistinct eq (keys_of entries) → AreWays r rank entries →
    limits.entries ≤ length entries → HasEnds r limits
has_ends {S} r eq agree rank limits entries apart ways many = record {
  ends = keys_of entries;
  count = omega (arith, many, length-map entries (λ (e : S × Way S). e.0));
  each = λ i s at. (
      let k = key_at entries i s at in
      let way = ways k.0 (i, k.1) in
      let P : S → Type 0 = λ x. IsSomeEnd r x in
      subst P k.2 (record { log = k.0.1.log; steps = k.0.1.steps; stands = way.stands; mark = way.mark }));
  differ = λ i j s t lt at also same. clash (eq s t) (sym (agree s t) ∙ same) (apart_at eq (keys_of entries) apart i j s t lt at also);
}

-- a slot's run that takes more steps than the limit
pub slot_exceeds : {S : Type 0} (r : Rules S) → IsLawful r → (limits : Limits) (start : SlotStart S) →
    IsRunTo r start.state start.log start.steps → SomeRunExceeds (one_slot r start.state) limits → SomeSlotExceeds r limits
slot_exceeds {S} r law limits start from x =
    let log : List (ℕ × ℕ) = start.log in
    let n : ℕ = start.steps in
    let whole : List (ℕ × ℕ) = log ++ log_later n x.log in
    let front : ChooseAlike log whole n = λ k lt. sym (joined_before log n k x.log lt) in
    let behind : ChoosesFrom x.log whole n x.steps = λ k lt. sym (joined_after log n k x.log from.names) in
    let here : stands r log n ≡ stands r whole n = stands_alike r log whole n n front (omega arith) in
    let begins : r.same start.state (stands r whole n) ≡ true = ap (r.same start.state) (sym here) ∙ from.at in
    record {
      log = whole;
      before = n;
      within = x.steps;
      run = λ k lt. elim (cases_lt k n) [
        | inl before ↦ run_alike r log whole n front from.run k before
        | inr ge ↦ (
            let is : n + (k - n) ≡ k = omega (arith, ge) in
            let P : ℕ → Type 0 = λ j. choice_at whole j < r.width (stands r whole j) in
            subst P is (along_run r law start.state x.log whole n x.steps begins behind x.run (k - n) (omega (arith, ge, lt))))
      ];
      one = along_open r law start.state x.log whole n x.steps begins behind x.run;
      few = omega (
        arith,
        within_joined log (log_later n x.log) n (n + x.steps),
        none_beyond log n n (n + x.steps) from.names (omega arith),
        within_all (log_later n x.log) n (n + x.steps),
        shifted_length n x.log,
        x.short,
      );
      more = x.more;
    }

-- why a slot's search stopped short
pub slot_reason : {S : Type 0} (r : Rules S) → IsLawful r →
    (limits : Limits) (start : SlotStart S) (status : RankedStatus) (halt : Halt) → IsRunTo r start.state start.log start.steps →
    (halt ≡ Entries → status ≡ Cut AtEntries) → (halt ≡ Steps → status ≡ Cut AtSteps) →
    (status ≡ Cut AtEntries → HasEntries (one_slot r start.state) limits) →
    (status ≡ Cut AtSteps → SomeRunExceeds (one_slot r start.state) limits) → IsReason r limits halt
slot_reason r law limits start status Entries from full long many exceeds =
    inl (record { state = start.state; log = start.log; steps = start.steps; stands = from; many = many (full refl) })
slot_reason r law limits start status Steps from full long many exceeds = inl (slot_exceeds r law limits start from (exceeds (long refl)))
slot_reason r law limits start status Stopped from full long many exceeds = tt

-- the run to an end of the slot that can't be named
pub end_is_long : {S : Type 0} (r : Rules S) → IsLawful r → (start : SlotStart S) (s : S) (slot : List (ℕ × ℕ)) (count : ℕ) →
    IsRunTo r start.state start.log start.steps → EndsSlot r start.state slot count s → 999999 < start.steps + count → SomeRunIsLong r
end_is_long r law start s slot count from end long = record {
  log = start.log ++ log_later start.steps slot;
  steps = start.steps + count;
  run = joined_run r law start.log start.steps from.run from.names start.state slot count s from.at end;
  long = long;
}

-- The joined log is one, where its steps can be named.
shifted_is_log : (low from n c : ℕ) (slot : List (ℕ × ℕ)) → low ≤ n + from → IsLogFrom from slot → NamesBelow slot c → n + c ≤ 1000000 →
    IsLogFrom low (log_later n slot)
shifted_is_log low from n c [] le log names few = tt
shifted_is_log low from n c (m ∷ slot) le log names few = (
  omega (arith, le, log.0),
  omega (arith, names.0, few),
  log.2,
  log.3,
  shifted_is_log (n + m.0 + 1) (m.0 + 1) n c slot (omega arith) log.4 names.1 few,
)

joined_is_log : (low n c : ℕ) (log slot : List (ℕ × ℕ)) → low ≤ n → IsLogFrom low log → NamesBelow log n → IsLogFrom 0 slot →
    NamesBelow slot c → n + c ≤ 1000000 → IsLogFrom low (log ++ log_later n slot)
joined_is_log low n c [] slot le log names one below few = shifted_is_log low 0 n c slot (omega (arith, le)) one below few
joined_is_log low n c (m ∷ more) slot le log names one below few =
    (log.0, log.1, log.2, log.3, joined_is_log (m.0 + 1) n c more slot (omega (arith, names.0)) log.4 names.1 one below few)

-- what was put, with one member more, is the front of it
front_is_log : (n c : ℕ) (log slot put after : List (ℕ × ℕ)) (m : ℕ × ℕ) → put ++ log_later n (m ∷ after) ≡ log ++ log_later n slot →
    IsLog log → NamesBelow log n → IsLog slot → NamesBelow slot c → n + c ≤ 1000000 → IsLog (put ++ (n + m.0, m.1) ∷ [])
front_is_log n c log slot put after m whole is names one below few =
    let L : List (ℕ × ℕ) → Type 0 = λ l. IsLog l in
    let all : IsLog (log ++ log_later n slot) = joined_is_log 0 n c log slot (omega arith) is names one below few in
    let same : log ++ log_later n slot ≡ (put ++ (n + m.0, m.1) ∷ []) ++ log_later n after = sym whole ∙ sym
    (append_assoc put ((n + m.0, m.1) ∷ []) (log_later n after)) in
    IsLogFrom-front 0 (put ++ (n + m.0, m.1) ∷ []) (log_later n after) (subst L same all)

-- so where a member isn't taken, steps are too many
pub is_beyond : (n : ℕ) (log slot put after : List (ℕ × ℕ)) (m : ℕ × ℕ) → put ++ log_later n (m ∷ after) ≡ log ++ log_later n slot →
    IsLog log → IsLog slot → (IsLog (put ++ (n + m.0, m.1) ∷ []) → ⊥) → IsBeyond log n slot
is_beyond n log slot put after m whole is one never c names below = elim (cases_lt 1000000 (n + c)) [
  | inl lt ↦ lt
  | inr few ↦ absurd (never (front_is_log n c log slot put after m whole is names one below few))
]

member_last : (n : ℕ) (log : List (ℕ × ℕ)) (m : ℕ × ℕ) (more : List (ℕ × ℕ)) → IsLog (log ++ m ∷ more) → m.0 ≤ 999999
member_last n log m more is = last_from 0 log m more is
  where
    last_from : (low : ℕ) (log : List (ℕ × ℕ)) (m : ℕ × ℕ) (more : List (ℕ × ℕ)) → IsLogFrom low (log ++ m ∷ more) → m.0 ≤ 999999
    last_from low [] m more is = is.1
    last_from low (x ∷ log) m more is = last_from (x.0 + 1) log m more is.4

pub is_beyond_all : (n : ℕ) (log slot put after : List (ℕ × ℕ)) (m : ℕ × ℕ) → put ++ log_later n (m ∷ after) ≡ log ++ log_later n slot →
    IsLog log → IsLog slot → 4294967296 ≤ n + m.0 → IsBeyond log n slot
is_beyond_all n log slot put after m whole is one high =
    is_beyond n log slot put after m whole is one (λ lawful. absurd (omega (arith, member_last 0 put (n + m.0, m.1) [] lawful, high)))

pub slot_reasons : {S : Type 0} (r : Rules S) → IsLawful r →
    (limits : Limits) (start : SlotStart S) (status : RankedStatus) (e : OrMemory Halt) → IsRunTo r start.state start.log start.steps →
    Because (λ halt. halt ≡ Entries → status ≡ Cut AtEntries) e → Because (λ halt. halt ≡ Steps → status ≡ Cut AtSteps) e →
    (status ≡ Cut AtEntries → HasEntries (one_slot r start.state) limits) →
    (status ≡ Cut AtSteps → SomeRunExceeds (one_slot r start.state) limits) → Because (IsReason r limits) e
slot_reasons r law limits start status (Fault halt) from full long many exceeds = slot_reason r law limits start status halt from full
    long many exceeds
slot_reasons r law limits start status (Memory m) from full long many exceeds = tt

-- that it was stopped is told where the watcher said so
pub stop_told : (IsStopped : Type 0) (status : RankedStatus) (e : OrMemory Halt) →
    Because (λ halt. halt ≡ Stopped → status ≡ Cut AtStop) e →
    (status ≡ Cut AtStop → IsStopped) → Because (λ halt. halt ≡ Stopped → IsStopped) e
stop_told IsStopped status (Fault halt) told stopped = λ is. stopped (told is)
stop_told IsStopped status (Memory m) told stopped = tt

-- candidates stay ends of slots
pub ways_more : {S : Type 0} (r : Rules S) → IsLawful r → (rank : S → ℕ) (s : S) (way : Way S) (old new : List (S × Way S)) →
    Keeps r s way old new → AreWays r rank old → IsAWay r rank (s, way) → AreWays r rank new
ways_more {S} r law rank s way old new keeps ways h e at = elim (keeps.adds e at) [
  | inl before ↦ ways e before
  | inr is ↦ (
      let W : Way S → Type 0 = λ w. IsAWay r rank (e.0, w) in
      subst W (sym is.1) (way_alike r law rank s e.0 way is.0 h))
]

-- a run that takes more steps than can be counted
pub too_long : {S : Type 0} (r : Rules S) (log : List (ℕ × ℕ)) (n : ℕ) → IsRun r log n → ¬ (n + 1 < 4294967296) → SomeRunIsLong r
too_long r log n run never = elim (cases_lt (n + 1) 4294967296) [
  | inl lt ↦ absurd (never lt)
  | inr ge ↦ record { log = log; steps = n; run = run; long = omega (arith, ge) }
]

pub too_high : (n c : ℕ) → ¬ (n + c < 4294967296) → 999999 < n + c
too_high n c never = elim (cases_lt (n + c) 4294967296) [ inl lt ↦ absurd (never lt) | inr ge ↦ omega (arith, ge) ]
