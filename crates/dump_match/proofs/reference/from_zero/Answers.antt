use Rattle.dump_match.specs.Pieces.{OpensFrom}
use Rattle.dump_match.proofs.reference.from_zero.Goals as goal

pub returns-then-ne-clause-goes : goal.returns-then-ne-clause-goes
returns-then-ne-clause-goes g c = OpensFrom.before

pub returns-clause-goes : goal.returns-clause-goes
returns-clause-goes g c = OpensFrom.at c.advance.new.self c.in_ok-advance.ensures.advances.0 c.in_ok-advance.ensures.advances.1
