use Rattle.std.proofs.Common.{sym}
use Rattle.plain_steps.proofs.RanLemmas.{written_nothing}
use Rattle.plain_steps.proofs.state.State.write_listed.Goals as goal

pub returns-else-is_some : goal.returns-else-is_some
returns-else-is_some c =
    written_nothing c.args.design.now c.args.parts.now c.args.triggered c.args.self.now (sym c.if-not-is_empty.ensures) (sym c.if-is_some.ensures)
