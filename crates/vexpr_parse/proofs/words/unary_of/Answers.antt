use Rattle.vexpr_parse.specs.Words.{unary_of}
use Rattle.vexpr_parse.proofs.words.unary_of.Goals as goal

pub returns : goal.returns
unfolding unary_of
returns c = c.unary_among.ensures
