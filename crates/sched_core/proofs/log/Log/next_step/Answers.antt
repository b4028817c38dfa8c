use Rattle.std.proofs.Common.{◌+◌, ◌≤◌, ap, sym, ◌∙◌, arith, rules}
use Rattle.sched_core.specs.Inner.Reading.{next_from}
use Rattle.sched_core.proofs.LogLemmas.{next_from-last, next_from-le}
use Rattle.sched_core.proofs.log.Log.next_step.Goals as goal

pub overflow_add-result : goal.overflow_add-result
overflow_add-result c =
    let last = next_from-last 0 c.deref.result.now c.in-Some.last.now c.in-Some.ensures.item.3.0 c.in-Some.ensures.item.1 in
    let bound = next_from-le 0 c.self.inside.members.items (omega arith) c.self.invariant in
    let same = ap (next_from 0) c.deref.ensures.value in
    let small : c.in-Some.last.now.0 + 1 ≤ 1000000 = omega arith in
    search rules

pub returns-in-Some-clause-value : goal.returns-in-Some-clause-value
returns-in-Some-clause-value c =
    sym (ap (next_from 0) (sym (c.deref.ensures.value ∙ c.self.view_is))
    ∙ next_from-last 0 c.deref.result.now c.in-Some.last.now c.in-Some.ensures.item.3.0 c.in-Some.ensures.item.1)
