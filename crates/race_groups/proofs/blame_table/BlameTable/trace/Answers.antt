use Rattle.std.proofs.Common.{subst, sym, ◌∙◌}
use Rattle.vmodel.specs.Run.{Setting}
use Rattle.race_groups.specs.Tracing.{AreBlamed, IsTraced, Tracing}
use Rattle.race_groups.proofs.BlameLemmas.{blamed_more, traced_blamed}
use Rattle.race_groups.proofs.blame_table.BlameTable.trace.Goals as goal

pub invariant_of-self-2 : goal.invariant_of-self-2
invariant_of-self-2 c =
    let table = c.self.inside in
    let log = c.args.log.now in
    let pair = c.blamed_by.result in
    let tracing : Tracing = record { setting = table.checkpoints; steps = table.steps } in
    let told = c.in_ok-cause.ensures in
    subst (λ (s : Setting). AreBlamed (record { setting = s; steps = table.steps }) c.insert.new.self) (sym c.cause_of.ensures.same)
    (blamed_more tracing table.pairs c.insert.new.self c.in_ok-key.key log pair c.self.invariant
    (traced_blamed tracing log c.in_ok-cause.cause pair (told.cause, told.none) c.blamed_by.ensures)
    (c.in_ok-key.ensures.items ∙ c.members.ensures.list) c.in_ok-insert.ensures.updates.0)

pub returns-clause-traced : goal.returns-clause-traced
returns-clause-traced c =
    let told = c.in_ok-cause.ensures in
    subst (λ (t : Tracing). IsTraced t c.args.log.now c.in_ok-cause.cause) c.self.view_is (told.cause, told.none)
