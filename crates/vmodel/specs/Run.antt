-- *trusted*: Runs under logs, and their histories (IEEE 1364-2005, 4.2.1, 4.2.2, 9.9.1, 17.4; docs/SCHEDULING.md).
use Rattle.std.specs.Prelude.{ℕ, zero, suc, ◌==◌, ◌&&◌, ◌||◌, is_some, Bool, true, false, List, [], ◌∷◌, ◌++◌, Option, Some, None, map, length}
use Rattle.vbits.specs.Vectors.{Vector, resize, with_sign}
use Rattle.sched_core.specs.Rules.{Rules, stands, choice_at}
use Rattle.vdesign.specs.Design.{Variable, Design}
use Rattle.sched_core.specs.declared.end.Cause.{Cause}
use Rattle.sched_core.specs.declared.end.Cause.TheVariants.{Quiet, Limit}
use Rattle.sched_core.specs.declared.end.End.{End}
use Rattle.sched_core.specs.declared.setting.Grain.{Grain}
use Rattle.vmodel.specs.declared.history.Item.{Item}
use Rattle.sched_core.specs.declared.setting.Departures.{Departures}
use Rattle.sched_core.specs.declared.setting.Departures.TheVariants.{Taking, Holding}
use Rattle.sched_core.specs.declared.setting.Looked.{Looked}
use Rattle.sched_core.specs.declared.setting.Looked.TheVariants.{Values, Lines}
use Rattle.vmodel.specs.Queue.{Queue}
use Rattle.vmodel.specs.State.{Process, State}
use Rattle.vmodel.specs.Choices.{choices}
use Rattle.vmodel.specs.History.{History}
use Rattle.vmodel.specs.Same.{state_same}
use Rattle.vmodel.specs.Step.{frames, next, items_of, slot_end_of}

-- a variable starts at x (4.2.2), a net that nothing drives at z (4.2.1), one that is driven at x (own)
abbrev pub opening_value : Variable → Vector
opening_value variable = with_sign (resize variable.start variable.length) variable.signed

-- a process begins at its first places
abbrev pub opening_process : List ℕ → Process
opening_process places = record { continuation = frames places []; held = None; waits = None }

-- 9.9.1, 9.9.2, 6.1: the numbers of the processes that have something to do, from n on
abbrev pub busy_from : ℕ → List (List ℕ) → List ℕ
busy_from n [] = []
busy_from n ([] ∷ rest) = busy_from (suc n) rest
busy_from n ((place ∷ places) ∷ rest) = n ∷ busy_from (suc n) rest

-- 9.9.1, 9.9.2, 6.1: at time 0 these processes are active, and nothing else is there
abbrev pub opening_queue : List ℕ → ℕ → Grain → Queue
opening_queue active until grain = record {
  grain = grain;
  until = until;
  time = 0;
  last = None;
  active = active;
  inactive = [];
  activated = [];
  posted = [];
  strobes = [];
  future = [];
  beyond = false;
}

-- those that have something to do
abbrev pub opening : Design → ℕ → Grain → State
opening design until grain = record {
  values = map opening_value design.variables;
  processes = map opening_process design.processes;
  queue = opening_queue (busy_from 0 design.processes) until grain;
  cause = None;
  held_back = None;
  printed = None;
}

-- what is run, and how: a design, a time limit, a grain, which departures there are and what is looked at
pub record Setting : Type 0 where
  pub design : Design
  pub until : ℕ
  pub grain : Grain
  pub departures : Departures
  pub looked : Looked

-- where departures may hold back, nothing is held back at first
abbrev pub held_at_first : Departures → Option (List ℕ)
held_at_first Taking = None
held_at_first Holding = Some []

-- where lines are looked at, none is printed at first
abbrev pub printed_at_first : Looked → Option (List (List ℕ))
printed_at_first Values = None
printed_at_first Lines = Some []

abbrev pub opening_of : Setting → State
opening_of setting = record (opening setting.design setting.until setting.grain) {
  held_back = held_at_first setting.departures;
  printed = printed_at_first setting.looked;
}

-- a slot has ended, or the run has
abbrev pub is_mark : State → Bool
is_mark s = is_some s.cause || (length s.queue.active == 0 && length s.queue.activated == 0)

-- the runs of a setting: `stands`, `IsRun` and how a run under a log ends are those of any rules
unfoldable pub rules_of : Setting → Rules State
rules_of setting = record {
  same = state_same;
  first = opening_of setting;
  width = λ s. length (choices s);
  mark = is_mark;
  after = λ s i. (next setting.design s i).state;
}

-- the state that the run under the log stands in after n steps
abbrev pub state_after : Setting → List (ℕ × ℕ) → ℕ → State
state_after setting log n = stands (rules_of setting) log n

-- what the run under the log has given to its history after n steps; where no process has anything to do, the opening
-- state is a slot end
abbrev pub items_after : Setting → List (ℕ × ℕ) → ℕ → List Item
items_after setting log zero = slot_end_of (opening_of setting)
items_after setting log (suc n) =
    items_after setting log n ++ items_of setting.design (next setting.design (state_after setting log n) (choice_at log n))

-- why a run ends where it has no choice: `$finish` or `$stop` (17.4), else something past the limit, else nothing is left
-- (docs/SCHEDULING.md)
abbrev pub cause_of : Option Cause → Bool → Cause
cause_of (Some cause) beyond = cause
cause_of None true = Limit
cause_of None false = Quiet

abbrev pub end_of : State → End
end_of s = record { time = s.queue.time; cause = cause_of s.cause s.queue.beyond }

-- the history of the run after n steps
abbrev pub history_after : Setting → List (ℕ × ℕ) → ℕ → History
history_after setting log n = record {
  items = items_after setting log n;
  end = end_of (state_after setting log n);
  values = (state_after setting log n).values;
}
