use Rattle.std.specs.Prelude.{◌≡◌, ◌≤◌, List, [], None}
use Rattle.vcd_read.specs.Words.{Text}
use Rattle.vcd_read.specs.Bytes.{left, Come, IsReady}
use Rattle.vcd_read.specs.Declaring.{Lead}
use Rattle.vcd_read.proofs.header.Header.read.Given as goal

abbrev pub invariant-declarations : goal.invariant-declarations
invariant-declarations g l = record {
  ready : IsReady l.words.bytes;
  budget : l.words.bytes.budget ≤ l.fn.words.bytes.budget;
  prefix : l.initial.header.prefix.items ≡ [];
  outer : l.initial.header.outer.items ≡ [];
  unit : l.initial.header.unit ≡ None;
  variables : l.initial.header.variables.items ≡ [];
  come : (list : List Text) × Come list (left g.R.Read.remaining l.fn.words.bytes) (left g.R.Read.remaining l.words.bytes) × Lead list l.initial.header l.header;
}

abbrev pub decreases-declarations : goal.decreases-declarations
decreases-declarations g l = l.words.bytes.budget
