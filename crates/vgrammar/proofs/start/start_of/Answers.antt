use Rattle.vgrammar.specs.Starts.{start_of}
use Rattle.vgrammar.proofs.start.start_of.Goals as goal

pub returns : goal.returns
unfolding start_of
returns c = c.start_among.ensures
