use Rattle.std.proofs.Common.{◌+◌, refl, sym}
use Rattle.vlex.proofs.Comments.{block_comment, open_block}
use Rattle.vlex.proofs.text.block.Goals as goal

pub returns-in-Some : goal.returns-in-Some
returns-in-Some c = block_comment c.args.first c.args.behind.now c.in-Some.len (2 + c.in-Some.len) c.requires refl (sym c.in-Some.ensures.value) c.in-Some.ensures.within

pub returns-in-None : goal.returns-in-None
returns-in-None c = open_block c.args.first c.args.behind.now c.requires (sym c.in-None.ensures.value)
