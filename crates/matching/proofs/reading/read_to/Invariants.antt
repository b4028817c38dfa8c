use Rattle.std.proofs.Common.{◌+◌, ◌-◌}
use Rattle.matching.specs.Inner.Reading.{HasRead}
use Rattle.matching.proofs.reading.read_to.Given as goal

abbrev pub invariant-loop-next : goal.invariant-loop-next
invariant-loop-next g l = HasRead g.R.Reference.piece g.R.Reference.reads l.fn.reference l.time l.time l.reference

abbrev pub decreases-loop-next : goal.decreases-loop-next
decreases-loop-next g l = l.time + 1 - (g.R.Reference.piece l.reference).from
