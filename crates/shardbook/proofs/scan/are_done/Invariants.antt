use Rattle.shardbook.specs.Inner.Scans.{IsDone}
use Rattle.shardbook.proofs.ScanLemmas.{EachBelow}
use Rattle.shardbook.proofs.scan.are_done.Given as goal

abbrev pub invariant-loop-one : goal.invariant-loop-one
invariant-loop-one g l = EachBelow (IsDone g.Q.SearchParameters.rules g.Q.SearchParameters.depart g.Q.SearchParameters.steps l.all) l.all l.one-index
