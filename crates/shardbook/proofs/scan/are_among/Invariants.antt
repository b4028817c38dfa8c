use Rattle.shardbook.specs.Inner.Scans.{IsAmong}
use Rattle.shardbook.proofs.ScanLemmas.{EachBelow}
use Rattle.shardbook.proofs.scan.are_among.Given as goal

abbrev pub invariant-loop-one : goal.invariant-loop-one
invariant-loop-one g l = EachBelow (IsAmong l.all) l.these l.one-index
