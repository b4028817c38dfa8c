use Rattle.std.proofs.Common.{◌-◌, sym, ap, ◌∙◌}
use Rattle.vexpr_parse.proofs.Cursors.{ahead_length}
use Rattle.vexpr_parse.proofs.cursor.Cursor.left.Goals as goal

pub returns : goal.returns
returns c =
    c.saturating_sub.ensures ∙ ap (λ n. n - c.args.self.now.at) c.len.ensures.value
    ∙ sym (ahead_length c.args.tokens.now c.args.self.now)
