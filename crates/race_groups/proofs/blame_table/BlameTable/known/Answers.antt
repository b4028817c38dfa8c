use Rattle.std.proofs.Common.{IfSome, subst, sym, ◌∙◌}
use Rattle.race_groups.specs.Tracing.{IsBlamed, Tracing}
use Rattle.race_groups.proofs.BlameLemmas.{blamed_there}
use Rattle.race_groups.proofs.blame_table.BlameTable.known.Goals as goal

pub returns : goal.returns
returns c =
    let table = c.self.inside in
    subst (λ (t : Tracing). IfSome c.copied.result (IsBlamed t c.args.log.now)) c.self.view_is
    (blamed_there (record { setting = table.checkpoints; steps = table.steps }) table.pairs c.in_ok-key.key c.args.log.now c.copied.result
    c.self.invariant (c.in_ok-key.ensures.items ∙ c.members.ensures.list) (sym c.get.ensures.value ∙ sym c.copied.ensures))
