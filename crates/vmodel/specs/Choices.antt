-- *product rule*: `Choices`: what may be taken next, choice 0 by default. It is a part of what IEEE 1364-2005 allows (11.4.1, 11.4.2): a
-- process may be interrupted between two statements in grain statement, in grain process where it suspends, and never within one.
use Rattle.std.specs.Prelude.{ℕ, ◌<◌, if◌then◌else◌, is_some, List, [], ◌∷◌, ◌++◌, Option, Some, None, map, drop}
use Rattle.vmodel.specs.declared.part.Part.{Part}
use Rattle.vmodel.specs.declared.choice.Choice.{Choice}
use Rattle.vmodel.specs.declared.choice.Choice.TheVariants.{Run, Update, Advance}
use Rattle.vmodel.specs.Queue.{Later, Queue, without_process}
use Rattle.vmodel.specs.State.{State}
use Rattle.sched_core.specs.declared.setting.Grain.{Grain}
use Rattle.sched_core.specs.declared.setting.Grain.TheVariants.{Process, Statement}

-- the process that made the last step first, then the others by number
abbrev pub in_order : Option ℕ → List ℕ → List ℕ
in_order None active = active
in_order (Some p) active = p ∷ without_process p active

abbrev pub first_update : List (List Part) → List Choice
first_update [] = []
first_update (u ∷ us) = Update ∷ []

abbrev pub advance_choice : List (ℕ × Later) → List Choice
advance_choice [] = []
advance_choice (e ∷ es) = Advance ∷ []

-- at a slot end, where nothing is active, the advance if there is a future time within the limit
abbrev pub or_advance : List Choice → List (ℕ × Later) → List Choice
or_advance [] future = advance_choice future
or_advance (c ∷ cs) future = c ∷ cs

abbrev pub active_choices : Queue → List Choice
active_choices q = map Run (in_order q.last q.active) ++ first_update q.activated

-- grain process: the process that made the last step goes on alone
abbrev pub offered_choices : Queue → Grain → Option ℕ → List Choice
offered_choices q Process (Some p) = Run p ∷ []
offered_choices q Process None = active_choices q
offered_choices q Statement last = active_choices q

abbrev pub queue_choices : Queue → List Choice
queue_choices q = or_advance (offered_choices q q.grain q.last) q.future

-- ---- where departures may hold back

-- the active processes that aren't held back
abbrev pub free_among : List ℕ → List ℕ → List ℕ
free_among [] active = active
free_among (p ∷ held) active = free_among held (without_process p active)

-- what is active, in order: as ever, but for the processes that are held back, which come last, by number
abbrev pub active_order : List ℕ → Queue → List Choice
active_order held q = active_choices (record q { active = free_among held q.active }) ++ map Run held

-- grain process: the process that made the last step goes on alone
abbrev pub order_by : List ℕ → Queue → Grain → Option ℕ → List Choice
order_by held q Process (Some p) = Run p ∷ []
order_by held q Process None = active_order held q
order_by held q Statement last = active_order held q

abbrev pub order_of : List ℕ → Queue → List Choice
order_of held q = order_by held q q.grain q.last

-- each of the order may be taken; and each but the first may be taken while all processes that stand before it are held back
abbrev pub taking_or_holding : List Choice → List Choice
taking_or_holding order = order ++ drop 1 order

-- the choices, by what is held back
abbrev pub choices_by : Option (List ℕ) → Queue → List Choice
choices_by None q = queue_choices q
choices_by (Some held) q = or_advance (taking_or_holding (order_of held q)) q.future

-- once `$finish` or `$stop` was taken there is no choice at all
abbrev pub choices : State → List Choice
choices s = if is_some s.cause then [] else choices_by s.held_back s.queue

-- a process goes by a number below 256
abbrev pub IsWithin : Choice → Type 0
IsWithin (Run p) = p < 256
IsWithin Update = Unit {0}
IsWithin Advance = Unit {0}
