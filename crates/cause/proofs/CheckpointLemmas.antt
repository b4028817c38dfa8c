-- Checkpoints: what is kept of what was seen is enough.
use Rattle.std.proofs.Common.{◌≡◌, ℕ, zero, suc, ◌+◌, ◌<◌, ◌≤◌, ◌==◌, nat_lt, Bool, true, false, if◌then◌else◌, List, [], ◌∷◌, ◌++◌, Option, Some, None, slice_get, refl, sym, ap, subst, ◌∙◌, le_refl, add-one, arith, take, drop}
use Rattle.std.specs.List.{remove}
use Rattle.std.proofs.lemmas.Bool.Decides.{nat_tests}
use Rattle.std.proofs.lemmas.Option.{same_Some}
use Rattle.sched_core.specs.Logs.{IsLogFrom}
use Rattle.sched_core.specs.Rules.{IsRun, choice_at}
use Rattle.sched_core.proofs.RunLemmas.{IsLeft}
use Rattle.vdesign.specs.Design.{Design}
use Rattle.vmodel.specs.declared.choice.Choice.{Choice}
use Rattle.vmodel.specs.declared.choice.Choice.TheVariants.{Run, Update, Advance}
use Rattle.vmodel.specs.State.{State}
use Rattle.vmodel.specs.Choices.{choices}
use Rattle.vmodel.specs.Step.{Transition, next}
use Rattle.vmodel.specs.Run.{Setting, rules_of, opening_of, state_after}
use Rattle.vmodel.specs.RunProgress.{opening_is}
use Rattle.vmodel.proofs.TimesLemmas.{time_never_falls}
use Rattle.cause.specs.declared.checkpoint.Checkpoint.{Checkpoint}
use Rattle.footprints.specs.declared.visit.Posted.{Posted}
use Rattle.cause.specs.Checkpoints.{IsCheckpoint, IsCheckpointOf, AreCheckpoints}
use Rattle.footprints.specs.Keeping.{due_from, Keeps}
use Rattle.footprints.specs.Visits.{Seen, nothing_seen, is_due, due_at, place_by, acting_place, posted_by, news_of, with_visit, with_waits, seen_by, seen_next, seen_after, choice_of, updates_after}

-- ---- what is kept

due_on : (first : Bool) (place : ℕ) (xs ys zs : List ℕ) → zs ≡ xs ++ ys → (if first then place ∷ zs else zs) ≡ (if first then place ∷ xs else xs) ++ ys
due_on true place xs ys zs h = ap (λ (more : List ℕ). place ∷ more) h
due_on false place xs ys zs h = h

due_at-append : (t : ℕ) (xs ys : List Posted) → due_at t (xs ++ ys) ≡ due_at t xs ++ due_at t ys
due_at-append t [] ys = refl
due_at-append t (p ∷ xs) ys = due_on (is_due t p) p.place (due_at t xs) (due_at t ys) (due_at t (xs ++ ys)) (due_at-append t xs ys)

by_test : (past : Bool) (p : Posted) (time t : ℕ) (posted kept : List Posted) → nat_lt (p.at + p.after) time ≡ past → time ≤ t → due_at t kept ≡ due_at t posted →
    due_at t (if past then kept else p ∷ kept) ≡ due_at t (p ∷ posted)
by_test true p time t posted kept is le same =
    let before : p.at + p.after < time = grind (arith, nat_tests, is) in
    let other : (p.at + p.after == t) ≡ false = grind (arith, nat_tests, before, le) in
    same ∙ sym (ap (λ (test : Bool). if test then p.place ∷ due_at t posted else due_at t posted) other)
by_test false p time t posted kept is le same = ap (λ (more : List ℕ). if is_due t p then p.place ∷ more else more) same

due_kept : (time t : ℕ) (posted : List Posted) → time ≤ t → due_at t (due_from time posted) ≡ due_at t posted
due_kept time t [] le = refl
due_kept time t (p ∷ posted) le = by_test (nat_lt (p.at + p.after) time) p time t posted (due_from time posted) refl le (due_kept time t posted le)

-- all that isn't past is kept
pub keeps_due : (time : ℕ) (kept seen : Seen) → kept ≡ record seen { posted = due_from time seen.posted } → Keeps time kept seen
keeps_due time kept seen is =
    let all : Keeps time (record seen { posted = due_from time seen.posted }) seen =
    record { due = λ t le. due_kept time t seen.posted le; updates = refl; visits = refl; waits = refl } in
    subst (λ (s : Seen). Keeps time s seen) (sym is) all

pub keeps_all : (time : ℕ) (kept seen : Seen) → kept ≡ seen → Keeps time kept seen
keeps_all time kept seen is =
    let all : Keeps time seen seen = record { due = λ t le. refl; updates = refl; visits = refl; waits = refl } in
    subst (λ (s : Seen). Keeps time s seen) (sym is) all

pub keeps_as : (time t : ℕ) (kept seen other : Seen) → Keeps t kept seen → t ≡ time → seen ≡ other → Keeps time kept other
keeps_as time t kept seen other keeps when is = subst (Keeps time kept) is (subst (λ (n : ℕ). Keeps n kept seen) when keeps)

pub keeps_then : (time : ℕ) (one two three : Seen) → Keeps time one two → Keeps time two three → Keeps time one three
keeps_then time one two three first second = record {
  due = λ t le. first.due t le ∙ second.due t le;
  updates = first.updates ∙ second.updates;
  visits = first.visits ∙ second.visits;
  waits = first.waits ∙ second.waits;
}

same_place : (state : State) (kept seen : Seen) (c : Choice) → Keeps state.queue.time kept seen → place_by state kept c ≡ place_by state seen c
same_place state kept seen (Run p) keeps = refl
same_place state kept seen Update keeps =
    ap (λ (due : List ℕ). slice_get due kept.updates) (keeps.due state.queue.time (omega arith))
    ∙ ap (slice_get (due_at state.queue.time seen.posted)) keeps.updates
same_place state kept seen Advance keeps = refl

-- a step more
pub keeps_on : (design : Design) (s n : ℕ) (state : State) (c : Choice) (step : Transition) (kept seen : Seen) (time : ℕ) → Keeps state.queue.time kept seen →
    state.queue.time ≤ time → Keeps time (seen_by design s n state c step kept) (seen_by design s n state c step seen)
keeps_on design s n state c step kept seen time keeps later =
    let posts : List Posted = posted_by state.queue.time (acting_place state c) step.effect.posted in
    record {
      due = λ t le.
          due_at-append t kept.posted posts
          ∙ ap (λ (due : List ℕ). due ++ due_at t posts) (keeps.due t (omega (arith, later, le)))
          ∙ sym (due_at-append t seen.posted posts);
      updates = ap (updates_after c) keeps.updates;
      visits = λ i. if nat_lt n s then keeps.visits i else
          with_visit design n c (same_place state kept seen c keeps i) (news_of state step) (acting_place step.state c) step.effect (keeps.waits i) (keeps.visits i);
      waits = λ i. if nat_lt n s then keeps.waits i else
          with_waits design c (same_place state kept seen c keeps i) (news_of state step) (acting_place step.state c) step.effect (keeps.visits i) (keeps.waits i);
    }

-- ---- what is left of a log

-- from where a log names its first step
pub empty_from : (n : ℕ) (log : List (ℕ × ℕ)) → slice_get log 0 ≡ None → IsLogFrom n log
empty_from n [] none = tt
empty_from n (m ∷ log) none = absurd cc

pub log_from : (n : ℕ) (log : List (ℕ × ℕ)) (first : ℕ × ℕ) → slice_get log 0 ≡ Some first → n ≤ first.0 → IsLogFrom 0 log → IsLogFrom n log
log_from n [] first is le lawful = tt
log_from n (m ∷ log) first is le lawful =
    let same : m ≡ first = same_Some m first is in
    (omega (arith, le, ap (λ (member : ℕ × ℕ). member.0) same), lawful.1, lawful.2, lawful.3, lawful.4)

pub log_before : (n low : ℕ) (log : List (ℕ × ℕ)) → n ≤ low → IsLogFrom low log → IsLogFrom n log
log_before n low [] le lawful = tt
log_before n low (m ∷ log) le lawful = (omega (arith, le, lawful.0), lawful.1, lawful.2, lawful.3, lawful.4)

pub left_from : (n : ℕ) (log : List (ℕ × ℕ)) → IsLogFrom n log → IsLeft log log n
left_from n log lawful = record { lawful = lawful; same = λ k le. refl; names = λ k le names. names; names_back = λ k names. names }

-- before step s no visit is seen, and all else is seen alike
pub early_next : (design : Design) (s t n : ℕ) (state : State) (c : Option Choice) (step : Transition) (seen : Seen) → n < s → n < t →
    seen_next design s n state c step seen ≡ seen_next design t n state c step seen
early_next design s t n state None step seen one other = refl
early_next design s t n state (Some c) step seen one other =
    let is : nat_lt n s ≡ true = grind (arith, nat_tests, one) in
    let also : nat_lt n t ≡ true = grind (arith, nat_tests, other) in
    λ i. record {
      posted = seen.posted ++ posted_by state.queue.time (acting_place state c) step.effect.posted;
      updates = updates_after c seen.updates;
      visits = if (is ∙ sym also) i then seen.visits else
          with_visit design n c (place_by state seen c) (news_of state step) (acting_place step.state c) step.effect seen.waits seen.visits;
      waits = if (is ∙ sym also) i then seen.waits else
          with_waits design c (place_by state seen c) (news_of state step) (acting_place step.state c) step.effect seen.visits seen.waits;
    }

early_visits : (design : Design) (s n : ℕ) (state : State) (c : Option Choice) (step : Transition) (seen : Seen) → n < s →
    (seen_next design s n state c step seen).visits ≡ seen.visits
early_visits design s n state None step seen lt = refl
early_visits design s n state (Some c) step seen lt =
    let is : nat_lt n s ≡ true = grind (arith, nat_tests, lt) in
    ap (λ (test : Bool). if test then seen.visits else
    with_visit design n c (place_by state seen c) (news_of state step) (acting_place step.state c) step.effect seen.waits seen.visits) is

early_waits : (design : Design) (s n : ℕ) (state : State) (c : Option Choice) (step : Transition) (seen : Seen) → n < s →
    (seen_next design s n state c step seen).waits ≡ seen.waits
early_waits design s n state None step seen lt = refl
early_waits design s n state (Some c) step seen lt =
    let is : nat_lt n s ≡ true = grind (arith, nat_tests, lt) in
    ap (λ (test : Bool). if test then seen.waits else
    with_waits design c (place_by state seen c) (news_of state step) (acting_place step.state c) step.effect seen.visits seen.waits) is

pub no_visits : (setting : Setting) (log : List (ℕ × ℕ)) (s n : ℕ) → n ≤ s → (seen_after setting log s n).visits ≡ []
no_visits setting log s zero le = refl
no_visits setting log s (suc n) le =
    early_visits setting.design s n (state_after setting log n) (choice_of setting log n)
    (next setting.design (state_after setting log n) (choice_at log n)) (seen_after setting log s n) (omega (arith, le))
    ∙ no_visits setting log s n (omega (arith, le))

no_waits : (setting : Setting) (log : List (ℕ × ℕ)) (s n : ℕ) → n ≤ s → (seen_after setting log s n).waits ≡ []
no_waits setting log s zero le = refl
no_waits setting log s (suc n) le =
    early_waits setting.design s n (state_after setting log n) (choice_of setting log n)
    (next setting.design (state_after setting log n) (choice_at log n)) (seen_after setting log s n) (omega (arith, le))
    ∙ no_waits setting log s n (omega (arith, le))

-- what else is seen is the same from whatever step on visits are
rest_next : (design : Design) (s t n : ℕ) (state : State) (c : Option Choice) (step : Transition) (one other : Seen) → one.posted ≡ other.posted →
    one.updates ≡ other.updates → ((seen_next design s n state c step one).posted ≡ (seen_next design t n state c step other).posted)
    × ((seen_next design s n state c step one).updates ≡ (seen_next design t n state c step other).updates)
rest_next design s t n state None step one other posts counts = (posts, counts)
rest_next design s t n state (Some c) step one other posts counts =
    (ap (λ (posted : List Posted). posted ++ posted_by state.queue.time (acting_place state c) step.effect.posted) posts, ap (updates_after c) counts)

rest_same : (setting : Setting) (log : List (ℕ × ℕ)) (s t n : ℕ) → ((seen_after setting log s n).posted ≡ (seen_after setting log t n).posted)
    × ((seen_after setting log s n).updates ≡ (seen_after setting log t n).updates)
rest_same setting log s t zero = (refl, refl)
rest_same setting log s t (suc n) =
    let before = rest_same setting log s t n in
    rest_next setting.design s t n (state_after setting log n) (choice_of setting log n) (next setting.design (state_after setting log n) (choice_at log n))
    (seen_after setting log s n) (seen_after setting log t n) before.0 before.1

-- up to a step it is the same from whatever later step on visits are seen
pub seen_early : (setting : Setting) (log : List (ℕ × ℕ)) (s t n : ℕ) → n ≤ s → n ≤ t → seen_after setting log s n ≡ seen_after setting log t n
seen_early setting log s t zero one other = refl
seen_early setting log s t (suc n) one other =
    ap (seen_next setting.design s n (state_after setting log n) (choice_of setting log n)
    (next setting.design (state_after setting log n) (choice_at log n))) (seen_early setting log s t n (omega (arith, one)) (omega (arith, other)))
    ∙ early_next setting.design s t n (state_after setting log n) (choice_of setting log n)
    (next setting.design (state_after setting log n) (choice_at log n)) (seen_after setting log t n) (omega (arith, one)) (omega (arith, other))

-- without its visits it is what is seen where they are looked for later
pub keeps_none : (setting : Setting) (log : List (ℕ × ℕ)) (s t n time : ℕ) (kept : Seen) → Keeps time kept (seen_after setting log s n) → n ≤ t →
    Keeps time (record kept { visits = []; waits = [] }) (seen_after setting log t n)
keeps_none setting log s t n time kept keeps le = record {
  due = λ u later. keeps.due u later ∙ ap (due_at u) (rest_same setting log s t n).0;
  updates = keeps.updates ∙ (rest_same setting log s t n).1;
  visits = sym (no_visits setting log t n le);
  waits = sym (no_waits setting log t n le);
}

-- what is seen after a step, by where it is taken
abbrev pub seen_at : Setting → ℕ → ℕ → State → ℕ → Seen → Seen
seen_at setting s n state index seen = seen_next setting.design s n state (slice_get (choices state) index) (next setting.design state index) seen

-- ---- checkpoints

pub opened_is : (setting : Setting) (state : State) (seen : Seen) → state ≡ opening_of setting → seen ≡ nothing_seen →
    IsCheckpoint setting (record { step = 0; state = state; seen = seen })
opened_is setting state seen at none = record {
  run = λ k lt. absurd (omega (arith, lt));
  state = at ∙ sym (opening_is setting);
  seen = keeps_all state.queue.time seen nothing_seen none;
  few = subst (λ (s : Seen). s.updates ≤ 0) (sym none) (le_refl 0);
  begins = λ k e. absurd (omega (arith, e));
}

pub copied_is : (setting : Setting) (log : List (ℕ × ℕ)) (checkpoint : Checkpoint) (state : State) (seen : Seen) → IsCheckpointOf setting log checkpoint →
    state ≡ checkpoint.state → seen ≡ record checkpoint.seen { visits = []; waits = [] } →
    IsCheckpointOf setting log (record { step = checkpoint.step; state = state; seen = seen })
copied_is setting log checkpoint state seen is same copied =
    let P : State → Seen → Type 0 = λ t u. IsCheckpointOf setting log (record { step = checkpoint.step; state = t; seen = u }) in
    let n : ℕ = checkpoint.step in
    let old : P checkpoint.state (record checkpoint.seen { visits = []; waits = [] }) = record {
      run = is.run;
      state = is.state;
      seen = record { due = is.seen.due; updates = is.seen.updates; visits = sym (no_visits setting log n n (omega arith)); waits = sym (no_waits setting log n n (omega arith)) };
      few = is.few;
      begins = is.begins;
    } in
    subst (λ (t : State). P t seen) (sym same) (subst (P checkpoint.state) (sym copied) old)

-- time never falls
pub rises : (setting : Setting) (log : List (ℕ × ℕ)) (n : ℕ) (state after : State) → IsRun (rules_of setting) log (n + 1) → state ≡ state_after setting log n →
    after ≡ state_after setting log (n + 1) → state.queue.time ≤ after.queue.time
rises setting log n state after run here there =
    let base : (state_after setting log n).queue.time ≤ (state_after setting log (suc n)).queue.time =
    time_never_falls setting log n (subst (IsRun (rules_of setting) log) (add-one n) run) in
    subst (λ (s : State). s.queue.time ≤ after.queue.time) (sym here)
    (subst (λ (s : State). (state_after setting log n).queue.time ≤ s.queue.time) (ap (state_after setting log) (sym (add-one n)) ∙ sym there) base)

-- ---- lists of checkpoints

pub are_put : (setting : Setting) (list : List Checkpoint) (newest : Checkpoint) → AreCheckpoints setting list → IsCheckpoint setting newest →
    AreCheckpoints setting (list ++ newest ∷ [])
are_put setting [] newest are is = (is, tt)
are_put setting (c ∷ list) newest are is = (are.0, are_put setting list newest are.1 is)

pub are_front : (setting : Setting) (k : ℕ) (list : List Checkpoint) → AreCheckpoints setting list → AreCheckpoints setting (take k list)
are_front setting zero [] are = tt
are_front setting zero (c ∷ list) are = tt
are_front setting (suc k) [] are = tt
are_front setting (suc k) (c ∷ list) are = (are.0, are_front setting k list are.1)

are_rest : (setting : Setting) (k : ℕ) (list : List Checkpoint) → AreCheckpoints setting list → AreCheckpoints setting (drop k list)
are_rest setting zero [] are = tt
are_rest setting zero (c ∷ list) are = are
are_rest setting (suc k) [] are = tt
are_rest setting (suc k) (c ∷ list) are = are_rest setting k list are.1

are_joined : (setting : Setting) (list more : List Checkpoint) → AreCheckpoints setting list → AreCheckpoints setting more → AreCheckpoints setting (list ++ more)
are_joined setting [] more are also = also
are_joined setting (c ∷ list) more are also = (are.0, are_joined setting list more are.1 also)

pub are_without : (setting : Setting) (k : ℕ) (list : List Checkpoint) → AreCheckpoints setting list → AreCheckpoints setting (remove list k)
are_without setting k list are =
    are_joined setting (take k list) (drop (suc k) list) (are_front setting k list are) (are_rest setting (suc k) list are)

pub is_there : (setting : Setting) (list : List Checkpoint) (k : ℕ) (c : Checkpoint) → AreCheckpoints setting list → slice_get list k ≡ Some c → IsCheckpoint setting c
is_there setting [] k c are e = absurd cc
is_there setting (d ∷ list) zero c are e = subst (IsCheckpoint setting) (same_Some d c e) are.0
is_there setting (d ∷ list) (suc k) c are e = is_there setting list k c are.1 e

pub step_there : (list : List Checkpoint) (k step : ℕ) (one other : Checkpoint) → slice_get list k ≡ Some one → slice_get list k ≡ Some other → one.step ≤ step →
    other.step ≤ step
step_there list k step one other first second le = subst (λ (c : Checkpoint). c.step ≤ step) (same_Some one other (sym first ∙ second)) le
