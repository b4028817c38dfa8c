-- *product rule*: The exit statuses of `races` and of `match` (docs/CI.md, docs/LANGUAGE.md): what was found, in one number.
use Rattle.std.specs.Prelude.{ℕ, ◌||◌, Bool, if◌then◌else◌, List, Option, is_some, is_none}
use Rattle.std.specs.List.{list_any}
use Rattle.race_findings.specs.declared.reach.Reach.{Reach}
use Rattle.race_findings.specs.declared.status.TopFound.{TopFound}
use Rattle.race_findings.specs.declared.status.DumpFound.{DumpFound}
use Rattle.race_findings.specs.declared.status.DumpFound.TheVariants.{Lawful, Refuted, Open}

-- something was left unseen: the time limit cut a run, the search was cut, or no run ends
abbrev pub left_unseen : Reach → Bool
left_unseen reach = (reach.cut_runs || is_some reach.cut) || is_some reach.endless

-- of races, each with the waiver that it is waived by, if there is one: one isn't waived
abbrev pub is_raced : List (Option ℕ) → Bool
is_raced waived_by = list_any is_none waived_by

-- 1 where some race of a top module isn't waived; else 3 where something was left unseen; else 0
abbrev pub status_of_races : List TopFound → ℕ
status_of_races tops =
    if list_any (λ top. top.raced) tops then 1
    else if list_any (λ top. top.unseen) tops then 3
    else 0

-- 0 where some run has the values of the dump, 1 where none has, 3 where that isn't known
abbrev pub status_of_dump : DumpFound → ℕ
status_of_dump Lawful = 0
status_of_dump Refuted = 1
status_of_dump Open = 3
