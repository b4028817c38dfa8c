use Rattle.std.specs.Prelude.{◌≤◌, List, []}
use Rattle.vcd_read.specs.Words.{Text}
use Rattle.vcd_read.specs.Bytes.{left, Come, IsReady}
use Rattle.vcd_read.specs.Telling.{Tell}
use Rattle.vcd_read.proofs.commands.Commands.next.Given as goal

abbrev pub invariant-commands : goal.invariant-commands
invariant-commands g l = record {
  ready : IsReady l.self.words.bytes;
  budget : l.self.words.bytes.budget ≤ l.fn.self.words.bytes.budget;
  come : (list : List Text) × Come list (left g.R.Read.remaining l.fn.self.words.bytes) (left g.R.Read.remaining l.self.words.bytes)
      × Tell list l.fn.self.inside l.self.inside [];
}

abbrev pub decreases-commands : goal.decreases-commands
decreases-commands g l = l.self.words.bytes.budget
