use Rattle.std.proofs.Common.{◌∙◌}
use Rattle.memchr.specs.Find.{is_byte}
use Rattle.vsrc.proofs.Stretches.{position_of_first}
use Rattle.vsrc.proofs.outside.line_len.Goals as goal

pub returns-clause-value : goal.returns-clause-value
returns-clause-value c = c.unwrap_or.ensures ∙ position_of_first (is_byte 10) c.args.text.now c.memchr.result c.memchr.ensures
