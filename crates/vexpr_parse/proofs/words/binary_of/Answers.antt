use Rattle.std.proofs.Common.{codes, refl, sym, ◌∙◌}
use Rattle.vast.specs.Expressions.{binary_word}
use Rattle.vexpr_parse.specs.Words.{binary_of, binary_operators}
use Rattle.vexpr_parse.proofs.FirstBytes.{written_none}
use Rattle.vexpr_parse.proofs.words.binary_of.Goals as goal

pub returns-then-begins_among : goal.returns-then-begins_among
unfolding binary_of
returns-then-begins_among c = c.binary_among.ensures

pub returns-else-begins_among : goal.returns-else-begins_among
unfolding binary_of
returns-else-begins_among c =
    sym (written_none binary_word binary_operators (codes "*/%+-<>=!&^~|") c.args.word.now refl
    (sym c.begins_among.ensures ∙ c.if-begins_among.false))
