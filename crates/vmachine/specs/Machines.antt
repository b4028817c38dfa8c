-- *internal*: The rules of a machine, and when a state of it stands for a state of a run (docs/SCHEDULING.md). Who reads a machine's
-- states rests on `machine_law` alone, as these words unfold nowhere else.
use Rattle.std.specs.Prelude.{◌≡◌, ℕ, refl}
use Rattle.sched_core.specs.Ranks.{IsRanked}
use Rattle.sched_core.specs.Rules.{Rules, IsLawful}
use Rattle.vmodel.specs.State.{State}
use Rattle.vmodel.specs.Run.{Setting}
use Rattle.vcompile.specs.Laws.{IsLinked, IsHeardByAll}
use Rattle.vcompile.proofs.StepLemmas.{begins_along, steps_along, passes_along, resumes_along, stays_along}
use Rattle.vcompile.proofs.HeardLemmas.{hears_all, hears_only}
use Rattle.vmachine.specs.declared.machine_state.MachineState.{MachineState}
use Rattle.vflat.specs.Representations.{rest_in, representation_same, representation_rules, Represents}
use Rattle.vflat.proofs.RepresentationLemmas.{representations_lawful, representations_ranked}

-- the machine's state is this state of a run
unfoldable pub Stands : Setting → MachineState → State → Type 0
Stands setting s t = Represents setting s t

unfoldable pub machine_rules : Setting → Rules MachineState
machine_rules setting = representation_rules setting

-- a state's rank is its time (11.3)
unfoldable pub rank_of : Setting → MachineState → ℕ
rank_of setting s = (rest_in s).queue.time

-- what a machine's state tells: of the state of a run that it stands for all but its processes
unfoldable pub state_in : Setting → MachineState → State
state_in setting s = rest_in s

-- ---- laws with their proofs

pub linked : IsLinked
linked = record { begins = begins_along; steps = steps_along; passes = passes_along; resumes = resumes_along; stays = stays_along }

pub heard : IsHeardByAll
heard = record { all = hears_all; only = hears_only }

pub machine_is_lawful : (setting : Setting) → IsLawful (machine_rules setting)
unfolding machine_rules
machine_is_lawful setting = representations_lawful setting

pub same_by_test : (setting : Setting) (s t : MachineState) → (machine_rules setting).same s t ≡ representation_same s t
unfolding machine_rules
same_by_test setting s t = refl

pub machine_is_ranked : (setting : Setting) → IsRanked (machine_rules setting) (rank_of setting)
unfolding machine_rules rank_of
machine_is_ranked setting = representations_ranked linked heard setting
