use Rattle.std.proofs.Common.{◌≤◌, refl, subst}
use Rattle.vexpr_parse.proofs.Cursors.{ahead_at, ahead_past}
use Rattle.vexpr_parse.proofs.cursor.Cursor.at.Goals as goal

pub returns-then-number-len : goal.returns-then-number-len
returns-then-number-len c = ahead_at c.args.tokens.now _ c.args.number refl

pub returns-else-number-len : goal.returns-else-number-len
returns-else-number-len c =
    ahead_past c.args.tokens.now _ c.args.number c.len-len.ensures.value (subst (λ n. n ≤ c.args.number) c.len-len.ensures.value c.if-number-len.false)
