use Rattle.std.proofs.Common.{◌∙◌}
use Rattle.sched_core.specs.Bags.{lines_of, with_line, with_each}
use Rattle.sched_core.proofs.CutLemmas.{line_put, byte_put}
use Rattle.sched_core.proofs.bag.Bag.insert_lines.Goals.{then-byte-eq10+in_ok-insert, else-byte-eq10}
use Rattle.sched_core.proofs.bag.Bag.insert_lines.Goals as goal

pub loop-byte-preserved : goal.loop-byte-preserved
loop-byte-preserved c = elim c.if-byte-eq10.branch [
  | then-byte-eq10+in_ok-insert w ↦
      line_put c.loop-byte.line.items c.push.new.self.items c.if-byte-eq10.line.items c.args.text.now c.loop-byte.byte-index c.loop-byte.self c.if-byte-eq10.self
      (with_each (lines_of c.args.text.now) c.args.self.now) c.loop-byte.invariant.0 c.loop-byte-test.true c.in_ok-push.ensures.items w.if-byte-eq10.true
      ((λ k. (w.line-is k).items) ∙ w.clear.ensures.items)
      (w.self-is ∙ w.in_ok-insert.ensures ∙ (λ k. with_line (w.deref.ensures.value k) c.loop-byte.self)) c.loop-byte.invariant.1
  | else-byte-eq10 w ↦
      byte_put c.loop-byte.line.items c.push.new.self.items c.if-byte-eq10.line.items c.args.text.now c.loop-byte.byte-index c.loop-byte.self c.if-byte-eq10.self
      (with_each (lines_of c.args.text.now) c.args.self.now) c.loop-byte.invariant.0 c.loop-byte-test.true c.in_ok-push.ensures.items w.if-byte-eq10.false
      (λ k. (w.line-is k).items) w.self-is c.loop-byte.invariant.1
]
