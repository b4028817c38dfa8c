-- *internal*: What the code of the walk keeps and answers.
use Rattle.std.specs.Prelude.{◌≡◌, ℕ, Result, Ok}
use Rattle.vsrc.specs.declared.walk.Walk.{Walk}
use Rattle.vsrc.specs.declared.refusal.Refusal.{Refusal}
use Rattle.vsrc.specs.Walk.{State, Done}
use Rattle.vsrc.specs.Pieces.{by_name}

-- what the code's walk knows
abbrev pub state_of : Walk → State
state_of walk = record {
  at = walk.at;
  fresh = walk.fresh;
  macros = by_name walk.macros;
  opens = walk.opens;
  keywords = walk.keywords;
  timescale = walk.timescale;
  made = walk.made;
}

-- this was done, with this state and so many bytes behind the word
abbrev pub StepResult : Result Done Refusal → State → ℕ → Type 0
StepResult outcome state len = outcome ≡ Ok (record { state = state; len = len })
