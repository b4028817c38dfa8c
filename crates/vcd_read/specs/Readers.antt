-- *internal*: What is to come of a dump.
use Rattle.std.specs.Prelude.{ℕ, List, Option}
use Rattle.vcd_read.specs.Bytes.{left, IsReady}
use Rattle.vcd_read.specs.declared.reader.VcdReader.{VcdReader}

abbrev pub to_come : {R : Type 0} → (R → Option (List ℕ)) → VcdReader R → Option (List ℕ)
to_come remaining dump = left remaining dump.commands.words.bytes

abbrev pub IsOpen : {R : Type 0} → VcdReader R → Type 0
IsOpen dump = IsReady dump.commands.words.bytes

-- so many more bytes are taken at most: each item takes some
abbrev pub bytes_left : {R : Type 0} → VcdReader R → ℕ
bytes_left dump = dump.commands.words.bytes.budget
