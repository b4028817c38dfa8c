use Rattle.std.specs.Prelude.{◌≤◌, ◌<◌, length}
use Rattle.vcd_read.specs.Bytes.{left, HaveCome, IsReady}
use Rattle.vcd_read.proofs.words.WordReader.next.Given as goal

abbrev pub invariant-bytes : goal.invariant-bytes
invariant-bytes g l = record {
  ready : IsReady l.self.bytes;
  budget : l.self.bytes.budget ≤ l.fn.self.bytes.budget;
  less : 0 < length l.self.word.items → l.self.bytes.budget < l.fn.self.bytes.budget;
  come : HaveCome l.self.word.items (left g.R.Read.remaining l.fn.self.bytes) (left g.R.Read.remaining l.self.bytes);
}

abbrev pub decreases-bytes : goal.decreases-bytes
decreases-bytes g l = l.self.bytes.budget
