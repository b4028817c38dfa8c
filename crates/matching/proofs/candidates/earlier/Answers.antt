use Rattle.matching.proofs.Kept.{earlier_of}
use Rattle.matching.proofs.candidates.earlier.Goals as goal

pub returns-in-Some : goal.returns-in-Some
returns-in-Some g c = earlier_of c.args.time c.args.way.now c.in-Some.next c.min.result c.in-Some.is c.min.ensures
