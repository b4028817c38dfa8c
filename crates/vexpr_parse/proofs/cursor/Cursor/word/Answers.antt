use Rattle.std.proofs.Common.{◌≤◌, subst}
use Rattle.vexpr_parse.proofs.Cursors.{ahead_text, token_letters, ahead_none, leaf_text, leaf_none}
use Rattle.vexpr_parse.proofs.cursor.Cursor.word.Goals as goal

pub returns-then-self-len-clause-word : goal.returns-then-self-len-clause-word
returns-then-self-len-clause-word c = (
  ahead_text c.args.tokens.now c.args.self.now c.text.result.now c.text.ensures,
  token_letters c.args.tokens.now c.args.self.now.at c.text.result.now c.text.ensures,
)

pub returns-else-self-len-clause-word : goal.returns-else-self-len-clause-word
returns-else-self-len-clause-word c =
    ahead_none c.args.tokens.now c.args.self.now
    (subst (λ n. n ≤ c.args.self.now.at) c.len.ensures.value c.if-self-len.false)

pub returns-then-self-len-clause-leaf : goal.returns-then-self-len-clause-leaf
returns-then-self-len-clause-leaf c = leaf_text c.args.tokens.now c.args.self.now c.text.result.now c.text.ensures

pub returns-else-self-len-clause-leaf : goal.returns-else-self-len-clause-leaf
returns-else-self-len-clause-leaf c =
    leaf_none c.args.tokens.now c.args.self.now
    (subst (λ n. n ≤ c.args.self.now.at) c.len.ensures.value c.if-self-len.false)
