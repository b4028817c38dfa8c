use Rattle.std.specs.Prelude.{◌≤◌, List}
use Rattle.vcd_read.specs.Words.{Text}
use Rattle.vcd_read.specs.Bytes.{left, Come, IsReady}
use Rattle.vcd_read.specs.Declarations.{HaveNoEnd}
use Rattle.vcd_read.proofs.words.WordReader.pass.Given as goal

abbrev pub invariant-words : goal.invariant-words
invariant-words g l = record {
  ready : IsReady l.self.bytes;
  budget : l.self.bytes.budget ≤ l.fn.self.bytes.budget;
  come : (words : List Text) × HaveNoEnd words × Come words (left g.R.Read.remaining l.fn.self.bytes) (left g.R.Read.remaining l.self.bytes);
}

abbrev pub decreases-words : goal.decreases-words
decreases-words g l = l.self.bytes.budget
