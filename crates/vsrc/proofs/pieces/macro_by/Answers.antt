use Rattle.std.proofs.Common.{sym, ◌∙◌}
use Rattle.vsrc.proofs.Cutting.{name_absent, name_at}
use Rattle.vsrc.proofs.pieces.macro_by.Goals as goal

pub returns-in-None-clause-text : goal.returns-in-None-clause-text
returns-in-None-clause-text c = sym (name_absent c.args.name.now c.args.texts.now.entries c.in-None.ensures.found)

pub returns-in-Some-clause-text : goal.returns-in-Some-clause-text
returns-in-Some-clause-text c =
    c.macro_at.ensures.text c.args.name.now (name_at c.args.name.now c.args.texts.now.entries c.in-Some.index (sym c.get_index_of.ensures.index ∙ c.in-Some.is))
