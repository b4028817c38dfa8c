use Rattle.trace_text.proofs.StepLemmas.{IsToldSo}
use Rattle.trace_text.proofs.write.write_steps.Given as goal

abbrev pub invariant-loop-number : goal.invariant-loop-number
invariant-loop-number g l =
    IsToldSo g.W.Write.contents l.fn.machine l.fn.origins l.fn.log l.fn.steps l.fn.writer l.rest l.number l.state l.writer
