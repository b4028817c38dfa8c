use Rattle.std.proofs.Common.{sym, ap, ◌∙◌, arith}
use Rattle.vmodel.specs.ProcessSets.{members}
use Rattle.vmodel.specs.Queue.{without_process}
use Rattle.vmodel.proofs.ProcessLemmas.{without_far}
use Rattle.vmodel.proofs.BitLemmas.{members_without, members_shorter, members_hadnt, members_rise, clear_low, clear_high, members_some}
use Rattle.vmodel.proofs.process_set.ProcessSet.remove.Goals as goal

pub returns-then-process-ge-MOST : goal.returns-then-process-ge-MOST
returns-then-process-ge-MOST c =
    sym (ap (without_process c.args.process) (sym c.self.view_is)
    ∙ without_far c.args.process 0 (members c.self.inside.low c.self.inside.high) (members_rise c.self.inside.low c.self.inside.high) c.if-process-ge-MOST.true
    ∙ c.self.view_is)

pub returns-then-not-has : goal.returns-then-not-has
returns-then-not-has c =
    sym (ap (without_process c.args.process) (sym c.self.view_is)
    ∙ members_hadnt c.self.inside.low c.self.inside.high c.args.process (omega (arith, c.if-process-ge-MOST.false)) (sym c.if-not-has.ensures)
    ∙ c.self.view_is)

pub overflow_sub-self : goal.overflow_sub-self
overflow_sub-self c =
    omega (arith, c.self.invariant, members_some c.self.inside.low c.self.inside.high c.args.process (omega (arith, c.if-process-ge-MOST.false)) (sym c.if-not-has.ensures))

pub invariant_of-self : goal.invariant_of-self
invariant_of-self c =
    omega (
      arith,
      c.self.invariant,
      members_shorter c.self.inside.low c.self.inside.high _ _ c.args.process (omega (arith, c.if-process-ge-MOST.false)) (sym c.if-not-has.ensures)
          (clear_low c.self.inside.low c.self.inside.high c.args.process c.if-process-lt128.true),
    )

pub invariant_of-self-else-process-lt128 : goal.invariant_of-self-else-process-lt128
invariant_of-self-else-process-lt128 c =
    omega (
      arith,
      c.self.invariant,
      members_shorter c.self.inside.low c.self.inside.high _ _ c.args.process (omega (arith, c.if-process-ge-MOST.false)) (sym c.if-not-has.ensures)
          (clear_high c.self.inside.low c.self.inside.high c.args.process (omega (arith, c.if-process-lt128.false)) (omega (arith, c.if-process-ge-MOST.false))),
    )

pub returns-then-process-lt128 : goal.returns-then-process-lt128
returns-then-process-lt128 c =
    members_without c.self.inside.low c.self.inside.high _ _ c.args.process (omega (arith, c.if-process-ge-MOST.false))
    (clear_low c.self.inside.low c.self.inside.high c.args.process c.if-process-lt128.true)
    ∙ ap (without_process c.args.process) c.self.view_is

pub returns-else-process-lt128 : goal.returns-else-process-lt128
returns-else-process-lt128 c =
    members_without c.self.inside.low c.self.inside.high _ _ c.args.process (omega (arith, c.if-process-ge-MOST.false))
    (clear_high c.self.inside.low c.self.inside.high c.args.process (omega (arith, c.if-process-lt128.false)) (omega (arith, c.if-process-ge-MOST.false)))
    ∙ ap (without_process c.args.process) c.self.view_is
