-- How long a dump may be.
use Rattle.std.proofs.Common.{◌≡◌, ◌≤◌, ◌<◌, ℕ, suc, ◌+◌, ◌*◌, ◌^◌, Bool, true, false, if◌then◌else◌, List, [], ◌∷◌, All, length, ap, arith, length-append}
use Rattle.std.specs.Prelude.{◌==◌}
use Rattle.std.proofs.lemmas.List.Elements.{All-head, All-tail}
use Rattle.vbits.specs.Vectors.{Vector}
use Rattle.vdesign.specs.Design.{Design}
use Rattle.vdesign.specs.declared.dump.DumpCommand.{DumpCommand}
use Rattle.vmodel.specs.History.{History}
use Rattle.vmodel.specs.declared.history.Item.{Item}
use Rattle.vmodel.specs.declared.history.Item.TheVariants.{SlotEnd, Dump, Line, Monitor}
use Rattle.vcd_text.specs.declared.progress.Progress.{Progress}
use Rattle.vcd_text.specs.declared.progress.Progress.TheVariants.{Waiting, Started, Failed}
use Rattle.vcd_text.specs.DumpText.{has_start, header, on_after, scope_marks, time_line, variable_marks, vcd}
use Rattle.vcd_text.specs.DumpLaws.{whole_text}
use Rattle.vcd_text.specs.Sinks.{start_text, item_text, progress_after, items_text, progress_over, end_text}
use Rattle.dump_law.specs.Small.{IsSmall}
use Rattle.dump_law.specs.Short.{IsNarrow, IsShort, told_in}
use Rattle.dump_law.proofs.LineLemmas.{one_of, time_long}
use Rattle.dump_law.proofs.SlotLemmas.{slot_long, start_long}
use Rattle.dump_law.proofs.HeaderLemmas.{header_long}

-- ---- items

-- the commands of the slot that runs
abbrev pending : Progress → ℕ
pending (Waiting commands) = length commands
pending (Started last on marks old commands) = length commands
pending Failed = 0

-- a header is still to come
abbrev ahead : Progress → ℕ
ahead (Waiting commands) = 4000000
ahead (Started last on marks old commands) = 0
ahead Failed = 0

-- what may still come
abbrev room_for : Progress → ℕ
room_for p = ahead p + 1118300 * pending p

told_first : (item : Item) (items : List Item) → told_in (item ∷ items) ≡ told_in (item ∷ []) + told_in items
told_first (SlotEnd time values) items = omega arith
told_first (Dump command) items = omega arith
told_first (Line text) items = omega arith
told_first (Monitor place) items = omega arith

module _ (design : Design) (small : IsSmall design) where
  started_long : (commands : List DumpCommand) (t : ℕ) (values : List Vector) → t < 2 ^ 64 → length values ≤ 1024 → All IsNarrow values →
      length (start_text design commands t values) ≤ 4000000 + 1118300 * suc (length commands)
  started_long commands t values early few all =
      let head = header_long design (scope_marks design commands) small in
      let whole = start_long (variable_marks design commands) (header design (scope_marks design commands)) commands t values early few all in
      omega (arith, head, whole)

  waiting_long : (b : Bool) (commands : List DumpCommand) (t : ℕ) (values : List Vector) → t < 2 ^ 64 → length values ≤ 1024 → All IsNarrow values →
      length (if b then start_text design commands t values else [])
      + room_for (if b then Started t (on_after true commands) (variable_marks design commands) values [] else Waiting [])
      ≤ 4000000 + 1118300 * suc (length commands)
  waiting_long true commands t values early few all = let whole = started_long commands t values early few all in omega (arith, whole)
  waiting_long false commands t values early few all = omega arith

  item_long : (p : Progress) (item : Item) → IsShort item → length (item_text design p item) + room_for (progress_after design p item) ≤ room_for p + 1118300 * told_in (item ∷ [])
  item_long (Waiting commands) (SlotEnd t values) short =
      let whole = waiting_long (has_start commands) commands t values short.0 short.1 short.2 in omega (arith, whole)
  item_long (Started last on marks old commands) (SlotEnd t values) short =
      let whole = slot_long marks t on old commands values short.0 short.1 short.2 in omega (arith, whole)
  item_long Failed (SlotEnd t values) short = omega arith
  item_long (Waiting commands) (Dump command) short = let more = length-append commands (command ∷ []) in omega (arith, more)
  item_long (Started last on marks old commands) (Dump command) short = let more = length-append commands (command ∷ []) in omega (arith, more)
  item_long Failed (Dump command) short = omega arith
  item_long p (Line text) short = omega arith
  item_long p (Monitor place) short = omega arith

  items_long : (p : Progress) (items : List Item) → All IsShort items → length (items_text design p items) ≤ room_for p + 1118300 * told_in items
  items_long p [] all = omega arith
  items_long p (item ∷ items) all =
      let here = item_long p item (All-head IsShort item items all) in
      let rest = items_long (progress_after design p item) items (All-tail IsShort item items all) in
      let both = length-append (item_text design p item) (items_text design (progress_after design p item) items) in
      let told = told_first item items in
      omega (arith, here, rest, both, told)

  end_long : (p : Progress) (t : ℕ) → t < 2 ^ 64 → length (end_text p t) ≤ 22
  end_long (Waiting commands) t early = omega arith
  end_long (Started last on marks old commands) t early =
      one_of length (last == t) [] (time_line t) 22 (omega arith) (time_long t early)
  end_long Failed t early = omega arith

  pub dump_long : (history : History) → All IsShort history.items → history.end.time < 2 ^ 64 → length (vcd design history) ≤ 4000022 + 1118300 * told_in history.items
  dump_long history all early =
      let whole = ap length (whole_text design history) in
      let items = items_long (Waiting []) history.items all in
      let last = end_long (progress_over design (Waiting []) history.items) history.end.time early in
      let both = length-append (items_text design (Waiting []) history.items) (end_text (progress_over design (Waiting []) history.items) history.end.time) in
      omega (arith, whole, items, last, both)
