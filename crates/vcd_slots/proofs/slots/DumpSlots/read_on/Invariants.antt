use Rattle.std.proofs.Common.{◌≡◌, ◌≤◌, None}
use Rattle.vcd_read.specs.Readers.{IsOpen, bytes_left}
use Rattle.vcd_slots.specs.Following.{IsSound}
use Rattle.vcd_slots.proofs.SlotLemmas.{Came}
use Rattle.vcd_slots.proofs.slots.DumpSlots.read_on.Given as goal

abbrev pub invariant-items : goal.invariant-items
invariant-items g l = record {
  is_open : IsOpen l.self.dump;
  sound : IsSound l.self.columns;
  none : l.self.ahead ≡ None;
  time : l.self.time ≡ l.fn.self.time;
  units : l.self.units ≡ l.fn.self.units;
  watched : l.self.columns.watched ≡ l.fn.self.columns.watched;
  budget : bytes_left l.self.dump ≤ bytes_left l.fn.self.dump;
  came : Came g.R.Read.remaining l.self.units l.fn.self.time l.fn.self.dump l.fn.self.columns l.self.dump l.self.columns;
}

abbrev pub decreases-items : goal.decreases-items
decreases-items g l = bytes_left l.self.dump
