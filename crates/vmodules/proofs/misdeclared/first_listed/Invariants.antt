use Rattle.std.proofs.Common.{◌≡◌, List, None, drop}
use Rattle.vwords.specs.Words.{Text}
use Rattle.vmodules.specs.Inner.{listed_valued}
use Rattle.vmodules.proofs.misdeclared.first_listed.Given as goal

abbrev pub invariant-loop-port : goal.invariant-loop-port
invariant-loop-port l = (words : List Text) → listed_valued words l.direction (drop l.port-index l.list) ≡ listed_valued words None l.list
