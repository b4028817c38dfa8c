-- How long what a slot's end adds may be.
use Rattle.std.proofs.Common.{◌≡◌, ◌≤◌, ◌<◌, ℕ, suc, ◌+◌, ◌*◌, ◌^◌, Bool, true, false, List, [], ◌∷◌, ◌++◌, All, length, map, refl, arith, length-append}
use Rattle.std.specs.Prelude.{codes}
use Rattle.std.specs.List.{slice_index_or}
use Rattle.std.proofs.lemmas.List.{length-map, length-replicate}
use Rattle.std.proofs.lemmas.List.Elements.{All-map}
use Rattle.vbits.specs.declared.bit4.Bit4.TheVariants.{X}
use Rattle.vbits.specs.Vectors.{Vector, filled}
use Rattle.vdesign.specs.declared.dump.DumpCommand.{DumpCommand}
use Rattle.vdesign.specs.declared.dump.DumpCommand.TheVariants.{Vars, Off, On, All as AllValues}
use Rattle.vcd_text.specs.DumpText.{line, value_lines, selected_values, changes, time_line, Part, all_at, unknown_of, on_by, command_part, command_parts, changed_part, text_in_frame, part_text, parts_text}
use Rattle.vcd_text.specs.Sinks.{text_at_time, slot_lines, slot_text, started_text}
use Rattle.dump_law.specs.Short.{IsNarrow}
use Rattle.dump_law.proofs.LineLemmas.{line_long, listed_long, changed_long, time_long}

-- ---- parts

frame_long : (word text : List ℕ) → length (text_in_frame word text) ≤ length word + (7 + length text)
frame_long [] text = omega arith
frame_long (c ∷ cs) text =
    let head = line_long (c ∷ cs) in
    let first = length-append (line (c ∷ cs)) text in
    let both = length-append (line (c ∷ cs) ++ text) (line (codes "$end")) in
    let last : length (line (codes "$end")) ≡ 5 = refl in
    omega (arith, head, first, both, last)

pub parts_joined : (xs ys : List Part) → length (parts_text (xs ++ ys)) ≡ length (parts_text xs) + length (parts_text ys)
parts_joined [] ys = omega arith
parts_joined (x ∷ xs) ys =
    let rest = parts_joined xs ys in
    let left = length-append (part_text x) (parts_text xs) in
    let right = length-append (part_text x) (parts_text (xs ++ ys)) in
    omega (arith, rest, left, right)

one_part : (part : Part) → length (parts_text (part ∷ [])) ≡ length (part_text part)
one_part part = let both = length-append (part_text part) [] in omega (arith, both)

-- ---- what commands list

unknown_narrow : (v : Vector) → IsNarrow v → IsNarrow (unknown_of v)
unfolding filled
unknown_narrow v narrow = let same = length-replicate (length v.letters) X in omega (arith, same, narrow)

unknown_all : (values : List Vector) → All IsNarrow values → All IsNarrow (map unknown_of values)
unknown_all values all = All-map IsNarrow unknown_of values (λ k d lt. unknown_narrow (slice_index_or values k d) (all k d lt))

module _ (marks : List Bool) where
  -- all values, behind a command's word
  listed_at : (word : List ℕ) (values : List Vector) → length word ≤ 9 → length values ≤ 1024 → All IsNarrow values → length (parts_text (all_at word marks values ∷ [])) ≤ 1118224
  listed_at word values short few all =
      let whole = one_part (all_at word marks values) in
      let framed = frame_long word (value_lines (selected_values 0 marks values)) in
      let listed = listed_long 0 marks values (omega (arith, few)) all in
      omega (arith, whole, framed, listed, short, few)

  command_long : (on : Bool) (command : DumpCommand) (values : List Vector) → length values ≤ 1024 → All IsNarrow values → length (parts_text (command_part marks on command values)) ≤ 1118224
  command_long on (Vars place) values few all = omega arith
  command_long true Off values few all =
      let same = length-map values unknown_of in
      listed_at (codes "$dumpoff") (map unknown_of values) (omega arith) (omega (arith, same, few)) (unknown_all values all)
  command_long false Off values few all = omega arith
  command_long true On values few all = omega arith
  command_long false On values few all = listed_at (codes "$dumpon") values (omega arith) few all
  command_long true AllValues values few all = listed_at (codes "$dumpall") values (omega arith) few all
  command_long false AllValues values few all = omega arith

  commands_long : (on : Bool) (commands : List DumpCommand) (values : List Vector) → length values ≤ 1024 → All IsNarrow values →
      length (parts_text (command_parts marks on commands values)) ≤ 1118224 * length commands
  commands_long on [] values few all = omega arith
  commands_long on (command ∷ commands) values few all =
      let here = command_long on command values few all in
      let rest = commands_long (on_by on command) commands values few all in
      let both = parts_joined (command_part marks on command values) (command_parts marks (on_by on command) commands values) in
      omega (arith, here, rest, both)

  -- what changed, where the dump is on
  changes_long : (on : Bool) (old new : List Vector) → length new ≤ 1024 → All IsNarrow new → length (parts_text (changed_part marks on old new)) ≤ 1118224
  changes_long false old new few all = omega arith
  changes_long true old new few all =
      let part : Part = record { word = []; told = changes 0 marks old new } in
      let whole = one_part part in
      let framed = frame_long [] (value_lines (changes 0 marks old new)) in
      let told = changed_long 0 marks old new (omega (arith, few)) all in
      omega (arith, whole, framed, told, few)

  -- ---- slots

  behind_time : (t : ℕ) (text : List ℕ) → t < 2 ^ 64 → length (text_at_time t text) ≤ 22 + length text
  behind_time t [] small = omega arith
  behind_time t (c ∷ cs) small =
      let time = time_long t small in
      let both = length-append (time_line t) (c ∷ cs) in
      omega (arith, time, both)

  pub slot_long : (t : ℕ) (on : Bool) (old : List Vector) (commands : List DumpCommand) (new : List Vector) → t < 2 ^ 64 → length new ≤ 1024 → All IsNarrow new →
      length (slot_text t on marks old commands new) ≤ 1118300 * suc (length commands)
  slot_long t on old commands new small few all =
      let time = behind_time t (slot_lines on marks old commands new) small in
      let both = parts_joined (changed_part marks on old new) (command_parts marks on commands new) in
      let changed = changes_long on old new few all in
      let listed = commands_long on commands new few all in
      omega (arith, time, both, changed, listed)

  pub start_long : (head : List ℕ) (commands : List DumpCommand) (t : ℕ) (values : List Vector) → t < 2 ^ 64 → length values ≤ 1024 → All IsNarrow values →
      length (started_text head marks commands t values) ≤ length head + 1118300 * suc (length commands)
  start_long head commands t values small few all =
      let first : Part = all_at (codes "$dumpvars") marks values in
      let later : List Part = command_parts marks true commands values in
      let time = time_long t small in
      let front = length-append head (time_line t) in
      let both = length-append (head ++ time_line t) (parts_text (first ∷ later)) in
      let parts = parts_joined (first ∷ []) later in
      let listed = listed_at (codes "$dumpvars") values (omega arith) few all in
      let asked = commands_long true commands values few all in
      omega (arith, time, front, both, parts, listed, asked)
