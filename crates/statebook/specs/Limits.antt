-- *product rule*: How far an explorer may be asked to go (docs/LANGUAGE.md, "Limits").
use Rattle.std.specs.Prelude.{ℕ, ◌≤◌}

-- departures and steps of one run, each within its limit, and one entry at least
pub record AreBounds (depart steps entries : ℕ) : Type 0 where
  pub few_departures : depart ≤ 4
  pub some_steps : 1 ≤ steps
  pub few_steps : steps ≤ 1000000
  pub some_entries : 1 ≤ entries

-- departures, steps of one run, and entries, each within its limit
pub record AreLimits (depart steps entries : ℕ) : Type 0 where
  pub few_departures : depart ≤ 4
  pub some_steps : 1 ≤ steps
  pub few_steps : steps ≤ 1000000
  pub some_entries : 1 ≤ entries
  pub few_entries : entries ≤ 1000000
