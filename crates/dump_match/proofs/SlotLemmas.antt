-- The slots of a machine's runs are those of its setting's.
use Rattle.std.proofs.Common.{◌≡◌, ℕ, suc, true, false, List, refl, sym, ◌∙◌, arith}
use Rattle.sched_core.specs.Rules.{stands}
use Rattle.vmodel.specs.State.{State}
use Rattle.vmodel.specs.Run.{Setting, rules_of, is_mark, state_after}
use Rattle.vmodel.specs.RunProgress.{width_is}
use Rattle.plain_steps.specs.RunLaws.{GoesOnOneWay, GoesOnLater, StaysInSlot}
use Rattle.vmachine.specs.declared.machine_state.MachineState.{MachineState}
use Rattle.vmachine.specs.Machines.{machine_rules, rank_of}
use Rattle.vmachine.specs.MachineLaws.{HasSameWidth, HasSameMarks, HasTimeAsRank, RunsAsSetting, StandsThroughout}
use Rattle.matching.specs.Explained.{EndsSlots}

mark_is : (setting : Setting) (t : State) → (rules_of setting).mark t ≡ is_mark t
unfolding rules_of
mark_is setting t = refl

pub ends_slots : GoesOnOneWay → GoesOnLater → StaysInSlot → HasSameWidth → HasSameMarks → HasTimeAsRank → StandsThroughout → RunsAsSetting →
    (setting : Setting) → EndsSlots (machine_rules setting) (rank_of setting)
ends_slots one later stays width mark rank there runs setting = record {
  one_way = λ log n run is.
      let few = one setting log n (marked log n is) in
      omega (arith, few, width setting (at log n) (state_after setting log n) (there setting log n), width_is setting (state_after setting log n));
  later = λ log n run is.
      let rises = later setting log n (runs setting log (suc n) run) (marked log n is) in
      omega (arith, rises, timed log n, timed log (suc n));
  stays = λ log n run is.
      timed log (suc n) ∙ stays setting log n (runs setting log (suc n) run) (unmarked log n is) ∙ sym (timed log n);
}
  where
    at : List (ℕ × ℕ) → ℕ → MachineState
    at log n = stands (machine_rules setting) log n

    marked : (log : List (ℕ × ℕ)) (n : ℕ) → (machine_rules setting).mark (at log n) ≡ true → is_mark (state_after setting log n) ≡ true
    marked log n is = sym (mark_is setting (state_after setting log n)) ∙ sym (mark setting (at log n) (state_after setting log n) (there setting log n)) ∙ is

    unmarked : (log : List (ℕ × ℕ)) (n : ℕ) → (machine_rules setting).mark (at log n) ≡ false → is_mark (state_after setting log n) ≡ false
    unmarked log n is = sym (mark_is setting (state_after setting log n)) ∙ sym (mark setting (at log n) (state_after setting log n) (there setting log n)) ∙ is

    timed : (log : List (ℕ × ℕ)) (n : ℕ) → rank_of setting (at log n) ≡ (state_after setting log n).queue.time
    timed log n = rank setting (at log n) (state_after setting log n) (there setting log n)
