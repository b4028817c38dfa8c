-- *product rule*: Which processes a departure holds back, and until when (IEEE 1364-2005, 11.4.1, 11.4.2;
-- docs/SCHEDULING.md, "Departures that hold back").
use Rattle.std.specs.Prelude.{ℕ, ◌+◌, ◌-◌, ◌==◌, ◌&&◌, nat_lt, if◌then◌else◌, take, List, [], ◌∷◌, length, Option, Some, None}
use Rattle.vmodel.specs.declared.choice.Choice.{Choice}
use Rattle.vmodel.specs.declared.choice.Choice.TheVariants.{Run, Update, Advance}
use Rattle.vmodel.specs.Queue.{Queue, with_process, without_process}
use Rattle.vmodel.specs.Choices.{free_among, order_of}

-- how many of an order of n choice i holds back: none where it only takes, else those before the member that it takes
abbrev pub count_before : ℕ → ℕ → ℕ
count_before n i = if nat_lt i n then 0 else i - n + 1

-- held back with this choice, where it is of a process; an update is no process, and can't be
abbrev pub with_one_held : Choice → List ℕ → List ℕ
with_one_held (Run p) held = with_process p held
with_one_held Update held = held
with_one_held Advance held = held

-- held back with the processes among these choices
abbrev pub with_held : List Choice → List ℕ → List ℕ
with_held [] held = held
with_held (c ∷ before) held = with_held before (with_one_held c held)

-- what choice i finds before what it takes, where it holds back
abbrev pub before_choice : List Choice → ℕ → List Choice
before_choice order i = take (count_before (length order) i) order

-- the processes that choice i holds back; none, where departures only take
abbrev pub held_by_choice : Option (List ℕ) → Queue → ℕ → List ℕ
held_by_choice None q i = []
held_by_choice (Some held) q i = with_held (before_choice (order_of held q) i) []

-- what is taken is held back no more
abbrev pub without_taken : Choice → List ℕ → List ℕ
without_taken (Run p) held = without_process p held
without_taken Update held = held
without_taken Advance held = held

-- what is held back as choice i is taken, which is c
abbrev pub held_with : List ℕ → Queue → ℕ → Choice → List ℕ
held_with held q i c = without_taken c (with_held (before_choice (order_of held q) i) held)

-- where nothing else is active, no process and no update, nothing is held back any more
abbrev pub release : Queue → List ℕ → List ℕ
release q held = if length (free_among held q.active) == 0 && length q.activated == 0 then [] else held

-- what is held back after the step, whose region moves leave the queue `after`
abbrev pub held_after : Option (List ℕ) → Queue → ℕ → Choice → Queue → Option (List ℕ)
held_after None q i c after = None
held_after (Some held) q i c after = Some (release after (held_with held q i c))
