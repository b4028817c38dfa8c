-- *product rule*: The beginning of a dump: which variables it declares, which of them are compared, and what is shown at first.
use Rattle.std.specs.Prelude.{◌≡◌, ℕ, Bool, false, if◌then◌else◌, length, replicate, List, [], None, Option}
use Rattle.basis.specs.declared.timescale.Span.{Span}
use Rattle.vcd_read.specs.Words.{Text}
use Rattle.vcd_read.specs.Bytes.{Come}
use Rattle.vcd_read.specs.Declarations.{Declares}
use Rattle.vcd_read.specs.Declaring.{all_seen}
use Rattle.vcd_read.specs.Readers.{to_come}
use Rattle.vcd_read.specs.declared.reader.VcdReader.{VcdReader}
use Rattle.vcd_slots.specs.Standing.{Reads as ReadsUpTo}
use Rattle.vcd_slots.specs.Units.{units_of}
use Rattle.vcd_slots.specs.declared.slots.DumpSlots.{DumpSlots}
use Rattle.dump_match.specs.Scopes.{is_wrapped}
use Rattle.dump_match.specs.Named.{AreAllCompared, AreNamedSo}
use Rattle.dump_match.specs.Pieces.{OpensFrom}
use Rattle.dump_match.specs.Known.{AreMarked, has_value_in}
use Rattle.dump_match.specs.declared.dump.DumpReference.{DumpReference}

-- The unit in which a dump counts, where it isn't the files'. In files without a timescale each simulator counts in a unit of its own, and
-- declares that (19.8).
abbrev pub told_unit : Bool → Option Span → Option Span
told_unit timed unit = if timed then unit else None

-- The words of the reader declare the unit of times and variables, of which those are compared that have the name of a variable of the machine
-- and as many bits, each of the machine's with one of them; then come the items up to the first time, and if that is 0, those of it, with times in
-- the unit of the machine's, where a timescale stands in its files. The pairs are marked that have a value then.
pub record OpensDump {R : Type 0} (remaining : R → Option (List ℕ)) (timed : Bool) (reader : R) (reference : DumpReference R) : Type 0 where
  pub dump : VcdReader R
  pub words : List Text
  pub come : Come words (remaining reader) (to_come remaining dump)
  pub declares : Declares None [] [] words dump.unit (all_seen dump.variables.items)
  pub outside : dump.commands.inside ≡ false
  pub begun : DumpSlots R
  pub read : ReadsUpTo remaining dump begun
  pub units : begun.units ≡ units_of (told_unit timed dump.unit) reference.machine.now.design.scale.precision
  pub opens : OpensFrom remaining begun reference.slots
  pub named : AreNamedSo (is_wrapped reference.machine.now.design.top dump.variables.items) reference.machine.now.design.variables dump.variables.items
      reference.slots.columns.watched.items reference.comparison.pairs.items
  pub all : AreAllCompared (is_wrapped reference.machine.now.design.top dump.variables.items) reference.machine.now.design.variables
      dump.variables.items reference.comparison.pairs.items
  pub len : length reference.known.items ≡ length reference.comparison.pairs.items
  pub marked : AreMarked (replicate (length reference.comparison.pairs.items) false) reference.known.items
      (has_value_in reference.comparison.pairs.items reference.slots)
