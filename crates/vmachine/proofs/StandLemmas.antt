-- States of a machine and of a run, step by step.
use Rattle.std.proofs.Common.{◌≡◌, ℕ, true, List, length, refl, sym, ap, subst, ◌∙◌}
use Rattle.sched_core.specs.Rules.{IsRun, stands}
use Rattle.vmodel.specs.State.{State, without_processes}
use Rattle.vmodel.specs.Choices.{choices}
use Rattle.vmodel.specs.Effects.{Effect}
use Rattle.vmodel.specs.InnerStep.{transition_to}
use Rattle.vmodel.specs.Step.{next, items_of, slot_end_of}
use Rattle.vmodel.specs.RunProgress.{opening_is}
use Rattle.vmodel.specs.Run.{Setting, rules_of, opening_of, end_of, is_mark, state_after}
use Rattle.vcompile.specs.CodeOf.{code_of}
use Rattle.vmachine.specs.declared.machine_state.MachineState.{MachineState}
use Rattle.vmachine.specs.Machines.{Stands, machine_rules, rank_of, state_in, linked, heard}
use Rattle.vflat.specs.Representations.{Represents, rest_in, representation_after, representation_next, representation_to, representation_first, representations_tell}
use Rattle.vflat.proofs.RepresentationLemmas.{GivesAs, next_stands_so, slot_ends_stand, read_so, first_stands_so, widths_stand, marks_stand, times_stand, after_stands_so, same_stands_so, one_stands_so, only_stands_so, all_stand_so, runs_there_so, runs_here_so}

pub first_stands : (setting : Setting) → Stands setting (machine_rules setting).first (opening_of setting)
unfolding Stands machine_rules
first_stands setting = first_stands_so linked heard setting

pub width_stands : (setting : Setting) (s : MachineState) (t : State) → Stands setting s t → (machine_rules setting).width s ≡ (rules_of setting).width t
unfolding Stands machine_rules rules_of
width_stands setting s t h = widths_stand setting s t h

pub mark_stands : (setting : Setting) (s : MachineState) (t : State) → Stands setting s t → (machine_rules setting).mark s ≡ (rules_of setting).mark t
unfolding Stands machine_rules rules_of
mark_stands setting s t h = marks_stand setting s t h

pub after_stands : (setting : Setting) (s : MachineState) (t : State) (i : ℕ) → Stands setting s t →
    Stands setting ((machine_rules setting).after s i) ((rules_of setting).after t i)
unfolding Stands machine_rules rules_of
after_stands setting s t i h = after_stands_so linked heard setting s t i h

pub rank_stands : (setting : Setting) (s : MachineState) (t : State) → Stands setting s t → rank_of setting s ≡ t.queue.time
unfolding Stands rank_of
rank_stands setting s t h = times_stand setting s t h

pub rank_own : (setting : Setting) (s : MachineState) → rank_of setting s ≡ (state_in setting s).queue.time
unfolding rank_of state_in
rank_own setting s = refl

-- the rank by the words of a run
pub ranks : (setting : Setting) (s : MachineState) → rank_of setting s ≡ (rest_in s).queue.time
unfolding rank_of
ranks setting s = refl

pub same_stands : (setting : Setting) (s r : MachineState) (t : State) → Stands setting s t → (machine_rules setting).same r s ≡ true → Stands setting r t
unfolding Stands machine_rules
same_stands setting s r t h e = same_stands_so setting s r t h e

pub one_stands : (setting : Setting) (s r : MachineState) (t : State) → Stands setting s t → Stands setting r t → (machine_rules setting).same s r ≡ true
unfolding Stands machine_rules
one_stands setting s r t h k = one_stands_so linked heard setting s r t h k

pub only_stands : (setting : Setting) (s : MachineState) (t u : State) → Stands setting s t → Stands setting s u → t ≡ u
unfolding Stands
only_stands setting s t u h k = only_stands_so linked heard setting s t u h k

pub own_stands : (setting : Setting) (s : MachineState) (t : State) → Stands setting s t → without_processes (state_in setting s) ≡ without_processes t
unfolding Stands state_in
own_stands setting s t h = read_so setting s t h

pub all_stand : (setting : Setting) (log : List (ℕ × ℕ)) (n : ℕ) → Stands setting (stands (machine_rules setting) log n) (state_after setting log n)
unfolding Stands machine_rules
all_stand setting log n = all_stand_so linked heard setting log n

pub runs_there : (setting : Setting) (log : List (ℕ × ℕ)) (n : ℕ) → IsRun (machine_rules setting) log n → IsRun (rules_of setting) log n
unfolding machine_rules
runs_there setting log n run = runs_there_so linked heard setting log n run

pub runs_here : (setting : Setting) (log : List (ℕ × ℕ)) (n : ℕ) → IsRun (rules_of setting) log n → IsRun (machine_rules setting) log n
unfolding machine_rules
runs_here setting log n run = runs_here_so linked heard setting log n run

-- ---- the rules by the words of a run

pub opens : (setting : Setting) (s : MachineState) → s ≡ representation_first setting → (machine_rules setting).same s (machine_rules setting).first ≡ true
unfolding machine_rules
opens setting s h = (representations_tell s (representation_first setting)).1 h

pub copies : (setting : Setting) (s t : MachineState) → t ≡ s → (machine_rules setting).same t s ≡ true
unfolding machine_rules
copies setting s t h = (representations_tell t s).1 h

pub widths : (setting : Setting) (s : MachineState) → (machine_rules setting).width s ≡ length (choices (rest_in s))
unfolding machine_rules
widths setting s = refl

pub marks : (setting : Setting) (s : MachineState) → (machine_rules setting).mark s ≡ is_mark (rest_in s)
unfolding machine_rules
marks setting s = refl

pub steps : (setting : Setting) (s t : MachineState) (i : ℕ) → t ≡ representation_after setting s i →
    (machine_rules setting).same t ((machine_rules setting).after s i) ≡ true
unfolding machine_rules
steps setting s t i h = (representations_tell t (representation_after setting s i)).1 h

pub seen : (setting : Setting) (s : MachineState) (t : State) → Stands setting s t → without_processes (rest_in s) ≡ without_processes t
unfolding Stands
seen setting s t h = read_so setting s t h

pub widths_read : (setting : Setting) (s : MachineState) (t : State) → Stands setting s t → length (choices (rest_in s)) ≡ length (choices t)
widths_read setting s t h = ap (λ (u : State). length (choices u)) (seen setting s t h)

-- and so has what was read of it
pub as_many : (setting : Setting) (s : MachineState) (r t : State) → r ≡ rest_in s → Stands setting s t → length (choices r) ≡ length (choices t)
as_many setting s r t is h = ap (λ (u : State). length (choices u)) is ∙ widths_read setting s t h

pub marks_read : (setting : Setting) (s : MachineState) (t : State) → Stands setting s t → is_mark (rest_in s) ≡ is_mark t
marks_read setting s t h = ap is_mark (seen setting s t h)

pub ends_read : (setting : Setting) (s : MachineState) (t : State) → Stands setting s t → end_of (rest_in s) ≡ end_of t
ends_read setting s t h = ap end_of (seen setting s t h)

pub slot_ends_read : (setting : Setting) (s : MachineState) (t : State) → Stands setting s t → slot_end_of (rest_in s) ≡ slot_end_of t
unfolding Stands
slot_ends_read setting s t h = slot_ends_stand setting s t h

-- the opening state, by the machine's own equality
pub opening_read : (setting : Setting) (s : MachineState) (log : List (ℕ × ℕ)) → (machine_rules setting).same s (machine_rules setting).first ≡ true →
    Stands setting s (state_after setting log 0)
opening_read setting s log h =
    subst (Stands setting s) (sym (opening_is setting)) (same_stands setting (machine_rules setting).first s (opening_of setting) (first_stands setting) h)

-- a step without its items
pub step_read : (setting : Setting) (s r : MachineState) (t : State) (i : ℕ) → Stands setting s t → r ≡ representation_after setting s i →
    Stands setting r (next setting.design t i).state
unfolding Stands
step_read setting s r t i h is = subst (λ x. Represents setting x (next setting.design t i).state) (sym is) (after_stands_so linked heard setting s t i h)

-- a step, and the items that it gives
pub next_read : (setting : Setting) (s r : MachineState) (t : State) (i : ℕ) (effect : Effect) (monitors : List ℕ) → Stands setting s t →
    representation_next setting.design (code_of setting.design) s i ≡ representation_to r effect monitors →
    Stands setting r (next setting.design t i).state × (items_of setting.design (transition_to (rest_in r) effect monitors) ≡ items_of setting.design (next setting.design t i))
unfolding Stands
next_read setting s r t i effect monitors h is =
    let gives = subst (λ x. GivesAs setting x (next setting.design t i)) is (next_stands_so linked heard setting s t i h) in
    (gives.represents, gives.items)

pub tells : (setting : Setting) (s : MachineState) → state_in setting s ≡ rest_in s
unfolding state_in
tells setting s = refl
