use Rattle.std.proofs.Common.{length, sym, ap, ◌∙◌, arith}
use Rattle.vmodel.specs.ProcessSets.{members}
use Rattle.vmodel.specs.Queue.{without_process}
use Rattle.vmodel.proofs.ProcessLemmas.{length-rises, without_far}
use Rattle.vmodel.proofs.BitLemmas.{members_some, members_hadnt, members_rise, length_without}
use Rattle.vmodel.proofs.process_set.ProcessSet.len_without.Goals as goal
use Rattle.vmodel.proofs.process_set.ProcessSet.len_without.Goals.{else-process-lt-MOST-via-then-process-lt-MOST+else-has, else-process-lt-MOST-via-else-process-lt-MOST}

pub overflow_sub-result : goal.overflow_sub-result
overflow_sub-result c =
    omega (arith, c.self.invariant, members_some c.self.inside.low c.self.inside.high c.args.process c.if-process-lt-MOST.true (sym c.if-has.ensures))

pub returns-then-has-clause-exact : goal.returns-then-has-clause-exact
returns-then-has-clause-exact c =
    omega (arith, c.self.invariant, length_without c.self.inside.low c.self.inside.high c.args.process c.if-process-lt-MOST.true (sym c.if-has.ensures))
    ∙ ap (λ ps. length (without_process c.args.process ps)) c.self.view_is

pub returns-then-has-clause-few : goal.returns-then-has-clause-few
returns-then-has-clause-few c =
    omega (arith, c.self.invariant, length-rises 0 (members c.self.inside.low c.self.inside.high) (members_rise c.self.inside.low c.self.inside.high) (omega arith))

pub returns-else-process-lt-MOST-clause-exact : goal.returns-else-process-lt-MOST-clause-exact
returns-else-process-lt-MOST-clause-exact c =
    let low = c.self.inside.low in
    let high = c.self.inside.high in
    c.self.invariant
    ∙ sym (ap length (elim c.else-process-lt-MOST.branch [
      | else-process-lt-MOST-via-then-process-lt-MOST+else-has w ↦ members_hadnt low high c.args.process w.if-process-lt-MOST.true (sym w.if-has.ensures)
      | else-process-lt-MOST-via-else-process-lt-MOST w ↦ without_far c.args.process 0 (members low high) (members_rise low high) (omega (arith, w.if-process-lt-MOST.false))
    ]))
    ∙ ap (λ ps. length (without_process c.args.process ps)) c.self.view_is

pub returns-else-process-lt-MOST-clause-few : goal.returns-else-process-lt-MOST-clause-few
returns-else-process-lt-MOST-clause-few c =
    omega (arith, c.self.invariant, length-rises 0 (members c.self.inside.low c.self.inside.high) (members_rise c.self.inside.low c.self.inside.high) (omega arith))
