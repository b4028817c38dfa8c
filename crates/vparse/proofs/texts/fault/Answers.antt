use Rattle.std.proofs.Common.{true, false, ap, ◌∙◌}
use Rattle.vexpr_parse.specs.Answers.{ahead}
use Rattle.vexpr_parse.specs.Readers.{stop}
use Rattle.vparse.proofs.RefusalLaws.{refused_at, deep_at}
use Rattle.vparse.proofs.texts.fault.Goals as goal

pub returns-in-TooDeep : goal.returns-in-TooDeep
returns-in-TooDeep c =
    let left = ahead c.args.tokens.now c.args.cursor.now in
    deep_at c.args.tokens.now left c.len.result c.left.result c.saturating_sub-at.result c.len.ensures.value c.left.ensures
    c.saturating_sub-at.ensures c.place-place.result c.place-place.ensures (c.requires ∙ ap (λ why. stop why left) c.in-TooDeep.is)

pub returns-then-stands_outside : goal.returns-then-stands_outside
returns-then-stands_outside c =
    let left = ahead c.args.tokens.now c.args.cursor.now in
    refused_at c.args.tokens.now left c.len.result c.left.result c.saturating_sub-at.result c.len.ensures.value c.left.ensures
    c.saturating_sub-at.ensures c.place-place.result c.place-place.ensures (c.requires ∙ ap (λ why. stop why left) c.in-NoTree.is)
    c.stands_outside.result true c.stands_outside.ensures c.if-stands_outside.true

pub returns-else-stands_outside : goal.returns-else-stands_outside
returns-else-stands_outside c =
    let left = ahead c.args.tokens.now c.args.cursor.now in
    refused_at c.args.tokens.now left c.len.result c.left.result c.saturating_sub-at.result c.len.ensures.value c.left.ensures
    c.saturating_sub-at.ensures c.place-place.result c.place-place.ensures (c.requires ∙ ap (λ why. stop why left) c.in-NoTree.is)
    c.stands_outside.result false c.stands_outside.ensures c.if-stands_outside.false
