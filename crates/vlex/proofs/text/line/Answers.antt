use Rattle.std.proofs.Common.{ap, ◌+◌}
use Rattle.vlex.proofs.Comments.{line_comment}
use Rattle.vlex.proofs.text.line.Goals as goal

pub returns : goal.returns
returns c = line_comment c.args.first c.args.behind.now (2 + c.run_len.result) c.requires (ap (λ n. 2 + n) c.run_len.ensures.value)
