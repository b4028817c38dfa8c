-- *product rule*: What is asked of a call: the top module's name, the time limit, the steps of one run, the grain, which departures there
-- are, and what is looked at.
use Rattle.std.specs.Prelude.{ℕ, ◌≤◌, List, Option}
use Rattle.vmodules.specs.Inner.{named_text}
use Rattle.sched_core.specs.declared.setting.Departures.{Departures}
use Rattle.sched_core.specs.declared.setting.Grain.{Grain}
use Rattle.sched_core.specs.declared.setting.Looked.{Looked}
use Rattle.statebook.specs.Limits.{AreLimits}
use Rattle.vrace.specs.declared.options.Options.{Options}

pub record Request : Type 0 where
  pub top : Option (List ℕ)
  pub until : ℕ
  pub steps : ℕ
  pub grain : Grain
  pub departures : Departures
  pub looked : Looked

abbrev pub request_of : Options → Request
request_of options = record {
  top = named_text options.top;
  until = options.until;
  steps = options.limits.steps;
  grain = options.grain;
  departures = options.departures;
  looked = options.looked;
}

-- each number is within its limit
pub record IsWithin (until depart steps entries : ℕ) : Type 0 where
  pub not_too_late : until ≤ 4611686018427387903
  pub limits : AreLimits depart steps entries
