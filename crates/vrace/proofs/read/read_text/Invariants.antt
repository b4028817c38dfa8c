use Rattle.std.proofs.Common.{◌≡◌, ◌≤◌, ◌-◌, length}
use Rattle.std.specs.Io.KnownBytes.{Consumes}
use Rattle.vrace.specs.Replays.{limit}
use Rattle.vrace.specs.Reads.{ReadsLead}
use Rattle.vrace.proofs.read.read_text.Given as goal

abbrev pub invariant-reads : goal.invariant-reads
invariant-reads g l = record {
  piece : length l.piece ≡ 65536;
  short : length l.text.items ≤ limit;
  taken : Consumes (g.R.Read.remaining l.initial.reader.inner) (g.R.Read.remaining l.reader.inner) l.text.items;
  reads : ReadsLead (length l.text.items) l.initial.reader.reads l.reader.reads;
  kept : l.reader.failures ≡ l.initial.reader.failures;
}

abbrev pub decreases-reads : goal.decreases-reads
decreases-reads g l = limit - length l.text.items
