use Rattle.std.proofs.Common.{sym, ap, ◌∙◌, arith}
use Rattle.vmodel.specs.ProcessSets.{members}
use Rattle.vmodel.specs.Queue.{with_process}
use Rattle.vmodel.proofs.ProcessLemmas.{length-rises}
use Rattle.vmodel.proofs.BitLemmas.{members_with, members_longer, members_had, members_rise, set_low, set_high}
use Rattle.vmodel.proofs.process_set.ProcessSet.insert.Goals as goal

pub returns-then-has : goal.returns-then-has
returns-then-has c =
    sym (ap (with_process c.args.process) (sym c.self.view_is)
    ∙ members_had c.self.inside.low c.self.inside.high c.args.process c.requires (sym (c.if-has.ensures))
    ∙ c.self.view_is)

pub overflow_add-self : goal.overflow_add-self
overflow_add-self c =
    omega (arith, c.self.invariant, length-rises 0 (members c.self.inside.low c.self.inside.high) (members_rise c.self.inside.low c.self.inside.high) (omega arith))

pub invariant_of-self : goal.invariant_of-self
invariant_of-self c =
    omega (
      arith,
      c.self.invariant,
      members_longer c.self.inside.low c.self.inside.high _ _ c.args.process c.requires (sym c.if-has.ensures)
          (set_low c.self.inside.low c.self.inside.high c.args.process c.if-process-lt128.true),
    )

pub invariant_of-self-else-process-lt128 : goal.invariant_of-self-else-process-lt128
invariant_of-self-else-process-lt128 c =
    omega (
      arith,
      c.self.invariant,
      members_longer c.self.inside.low c.self.inside.high _ _ c.args.process c.requires (sym c.if-has.ensures)
          (set_high c.self.inside.low c.self.inside.high c.args.process (omega (arith, c.if-process-lt128.false)) c.requires),
    )

pub returns-then-process-lt128 : goal.returns-then-process-lt128
returns-then-process-lt128 c =
    members_with c.self.inside.low c.self.inside.high _ _ c.args.process c.requires
    (set_low c.self.inside.low c.self.inside.high c.args.process c.if-process-lt128.true)
    ∙ ap (with_process c.args.process) c.self.view_is

pub returns-else-process-lt128 : goal.returns-else-process-lt128
returns-else-process-lt128 c =
    members_with c.self.inside.low c.self.inside.high _ _ c.args.process c.requires
    (set_high c.self.inside.low c.self.inside.high c.args.process (omega (arith, c.if-process-lt128.false)) c.requires)
    ∙ ap (with_process c.args.process) c.self.view_is
