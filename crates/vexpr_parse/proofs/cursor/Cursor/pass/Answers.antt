use Rattle.std.proofs.Common.{◌≤◌, refl, subst}
use Rattle.vexpr_parse.proofs.Cursors.{ahead_passed, ahead_ended, leaves_passed, leaves_ended}
use Rattle.vexpr_parse.proofs.cursor.Cursor.pass.Goals as goal

pub returns-then-self-len-clause-left : goal.returns-then-self-len-clause-left
returns-then-self-len-clause-left c = ahead_passed c.args.tokens.now c.args.self.now _ refl

pub returns-else-self-len-clause-left : goal.returns-else-self-len-clause-left
returns-else-self-len-clause-left c =
    ahead_ended c.args.tokens.now c.args.self.now
    (subst (λ n. n ≤ c.args.self.now.at) c.len.ensures.value c.if-self-len.false)

pub returns-then-self-len-clause-kept : goal.returns-then-self-len-clause-kept
returns-then-self-len-clause-kept c = leaves_passed c.args.tokens.now c.args.self.now _ refl

pub returns-else-self-len-clause-kept : goal.returns-else-self-len-clause-kept
returns-else-self-len-clause-kept c =
    leaves_ended c.args.tokens.now c.args.self.now
    (subst (λ n. n ≤ c.args.self.now.at) c.len.ensures.value c.if-self-len.false)
