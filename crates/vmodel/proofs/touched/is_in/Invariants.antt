use Rattle.std.proofs.Common.{◌≡◌, drop}
use Rattle.vmodel.specs.Touched.{is_in}
use Rattle.vmodel.proofs.touched.is_in.Given as goal

abbrev pub invariant-loop-other : goal.invariant-loop-other
invariant-loop-other l = is_in l.number l.list ≡ is_in l.number (drop l.other-index l.list)
