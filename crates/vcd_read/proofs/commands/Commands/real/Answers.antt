use Rattle.std.proofs.Common.{[], ◌∷◌}
use Rattle.vcd_read.proofs.TellLemmas.{tell_real}
use Rattle.vcd_read.proofs.commands.Commands.real.Goals as goal

pub returns-clause-tell : goal.returns-clause-tell
returns-clause-tell g c = (
  c.must.new.self.word.items ∷ [],
  c.in_ok-must.ensures.word,
  λ letter number is. tell_real c.args.self.now.inside letter number c.must.new.self.word.items is,
)
