-- Two logs that name the same before a step: a checkpoint up to there is one of both. So are a log, its fronts, and the parents of those.
use Rattle.std.proofs.Common.{◌≡◌, ℕ, zero, suc, ◌+◌, ◌-◌, ◌==◌, ◌<◌, ◌≤◌, if◌then◌else◌, List, [], ◌∷◌, length, take, Some, slice_get, refl, sym, ap, subst, ◌∙◌, arith}
use Rattle.std.proofs.lemmas.Option.{same_Some}
use Rattle.sched_core.specs.Logs.{IsLogFrom}
use Rattle.sched_core.specs.Rules.{IsRun, choice_at}
use Rattle.sched_core.proofs.RunLemmas.{choice_below}
use Rattle.vmodel.specs.State.{State}
use Rattle.vmodel.specs.Choices.{choices}
use Rattle.vmodel.specs.Run.{Setting, rules_of, state_after}
use Rattle.cause.specs.Causes.{parent_of, step_named, last_step}
use Rattle.cause.specs.Checkpoints.{IsCheckpoint, IsCheckpointOf}
use Rattle.footprints.specs.Keeping.{Keeps}
use Rattle.footprints.specs.Visits.{seen_after, choice_of, is_in_slot}
use Rattle.cause.specs.declared.checkpoint.Checkpoint.{Checkpoint}
use Rattle.cause.proofs.CheckpointLemmas.{seen_at}
use Rattle.cause.proofs.ParentLemmas.{named, same_choice, some_length}

module _ (setting : Setting) (one other : List (ℕ × ℕ)) (low : ℕ) (agree : (k : ℕ) → k < low → choice_at one k ≡ choice_at other k) where
  same_state : (n : ℕ) → n ≤ low → state_after setting one n ≡ state_after setting other n
  same_state zero le = refl
  same_state (suc n) le =
      ap (λ (s : State). (rules_of setting).after s (choice_at one n)) (same_state n (omega (arith, le)))
      ∙ ap ((rules_of setting).after (state_after setting other n)) (agree n (omega (arith, le)))

  same_run : (n : ℕ) → n ≤ low → IsRun (rules_of setting) one n → IsRun (rules_of setting) other n
  same_run n le run k lt =
      subst (λ (i : ℕ). i < (rules_of setting).width (state_after setting other k)) (agree k (omega (arith, lt, le)))
      (subst (λ (s : State). choice_at one k < (rules_of setting).width s) (same_state k (omega (arith, lt, le))) (run k lt))

  same_of : (k : ℕ) → k < low → choice_of setting one k ≡ choice_of setting other k
  same_of k lt =
      ap (λ (s : State). slice_get (choices s) (choice_at one k)) (same_state k (omega (arith, lt)))
      ∙ ap (slice_get (choices (state_after setting other k))) (agree k lt)

  same_seen : (from n : ℕ) → n ≤ low → seen_after setting one from n ≡ seen_after setting other from n
  same_seen from zero le = refl
  same_seen from (suc n) le =
      ap (λ (s : State). seen_at setting from n s (choice_at one n) (seen_after setting one from n)) (same_state n (omega (arith, le)))
      ∙ ap (λ (i : ℕ). seen_at setting from n (state_after setting other n) i (seen_after setting one from n)) (agree n (omega (arith, le)))
      ∙ ap (seen_at setting from n (state_after setting other n) (choice_at other n)) (same_seen from n (omega (arith, le)))

  pub checkpoint_of_both : (checkpoint : Checkpoint) → checkpoint.step ≤ low → IsCheckpointOf setting one checkpoint → IsCheckpointOf setting other checkpoint
  checkpoint_of_both checkpoint le is = record {
    run = same_run checkpoint.step le is.run;
    state = is.state ∙ same_state checkpoint.step le;
    seen = subst (Keeps checkpoint.state.queue.time checkpoint.seen) (same_seen checkpoint.step checkpoint.step le) is.seen;
    few = is.few;
    begins = λ k e. ap is_in_slot (sym (same_of k (omega (arith, e, le)))) ∙ is.begins k e;
  }

-- a checkpoint of the default run is one of each log whose first member isn't before it
pub of_log : (setting : Setting) (log : List (ℕ × ℕ)) (checkpoint : Checkpoint) → IsLogFrom checkpoint.step log → IsCheckpoint setting checkpoint →
    IsCheckpointOf setting log checkpoint
of_log setting log checkpoint lawful is =
    checkpoint_of_both setting [] log checkpoint.step (λ k lt. sym (choice_below checkpoint.step k log lt lawful)) checkpoint (omega arith) is

-- ---- the front of a log, up to a member

none_named : (log : List (ℕ × ℕ)) (j : ℕ) → choice_at (take zero log) j ≡ 0
none_named [] j = refl
none_named (m ∷ log) j = refl

front_choice : (low k : ℕ) (log : List (ℕ × ℕ)) (m : ℕ × ℕ) (j : ℕ) → IsLogFrom low log → slice_get log k ≡ Some m → j < m.0 →
    choice_at log j ≡ choice_at (take (suc k) log) j
front_choice low k [] m j lawful e lt = absurd cc
front_choice low zero (h ∷ log) m j lawful e lt =
    let below : j < h.0 + 1 = omega (arith, lt, ap (λ (member : ℕ × ℕ). member.0) (same_Some h m e)) in
    ap (λ (choice : ℕ). if h.0 == j then h.1 else choice) (choice_below (h.0 + 1) j log below lawful.4 ∙ sym (none_named log j))
front_choice low (suc k) (h ∷ log) m j lawful e lt =
    ap (λ (choice : ℕ). if h.0 == j then h.1 else choice) (front_choice (h.0 + 1) k log m j lawful.4 e lt)

pub of_front : (setting : Setting) (log front : List (ℕ × ℕ)) (k : ℕ) (m : ℕ × ℕ) (checkpoint : Checkpoint) → IsLogFrom 0 log → slice_get log k ≡ Some m →
    front ≡ take (suc k) log → checkpoint.step ≤ m.0 → IsCheckpointOf setting log checkpoint → IsCheckpointOf setting front checkpoint
of_front setting log front k m checkpoint lawful e is le at =
    subst (λ (l : List (ℕ × ℕ)). IsCheckpointOf setting l checkpoint) (sym is)
    (checkpoint_of_both setting log (take (suc k) log) m.0 (λ j lt. front_choice 0 k log m j lawful e lt) checkpoint le at)

front_length : (k : ℕ) (log : List (ℕ × ℕ)) (m : ℕ × ℕ) → slice_get log k ≡ Some m → length (take (suc k) log) ≡ suc k
front_length k [] m e = absurd cc
front_length zero (h ∷ []) m e = refl
front_length zero (h ∷ i ∷ log) m e = refl
front_length (suc k) (h ∷ log) m e = ap suc (front_length k log m e)

front_last : (k : ℕ) (log : List (ℕ × ℕ)) (m : ℕ × ℕ) → slice_get log k ≡ Some m → slice_get (take (suc k) log) k ≡ Some m
front_last k [] m e = absurd cc
front_last zero (h ∷ log) m e = e
front_last (suc k) (h ∷ log) m e = front_last k log m e

pub last_of_front : (k : ℕ) (log front : List (ℕ × ℕ)) (m : ℕ × ℕ) → slice_get log k ≡ Some m → front ≡ take (suc k) log → last_step front ≡ Some m.0
last_of_front k log front m e is =
    let at : length (take (suc k) log) - 1 ≡ k = omega (arith, front_length k log m e) in
    ap last_step is
    ∙ ap (λ (n : ℕ). step_named (slice_get (take (suc k) log) n)) at
    ∙ ap step_named (front_last k log m e)

-- ---- the parent of a log

pub of_parent : (setting : Setting) (log parent : List (ℕ × ℕ)) (step : ℕ) (checkpoint : Checkpoint) → last_step log ≡ Some step → parent ≡ parent_of log →
    checkpoint.step ≤ step → IsCheckpointOf setting log checkpoint → IsCheckpointOf setting parent checkpoint
of_parent setting log parent step checkpoint e is le at =
    let (last, found, same) = named (slice_get log (length log - 1)) step e in
    subst (λ (l : List (ℕ × ℕ)). IsCheckpointOf setting l checkpoint) (sym is)
    (checkpoint_of_both setting log (parent_of log) step
    (λ j lt. same_choice log (length log - 1) last j (some_length log last found) found (omega (arith, lt, same))) checkpoint le at)
