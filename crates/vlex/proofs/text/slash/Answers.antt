use Rattle.std.proofs.Common.{◌∙◌}
use Rattle.vlex.proofs.Comments.{slash_alone}
use Rattle.vlex.proofs.text.slash.Goals as goal

pub returns : goal.returns
returns c = slash_alone c.args.first c.args.rest.now c.requires (λ is. c.if-second-eq47.false (c.byte_at-second.ensures ∙ is)) (λ is. c.if-second-eq42.false (c.byte_at-second.ensures ∙ is))
