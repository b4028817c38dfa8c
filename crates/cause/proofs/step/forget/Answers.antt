use Rattle.std.proofs.lemmas.Result.{on_ok_weaker}
use Rattle.cause.proofs.CheckpointLemmas.{keeps_due}
use Rattle.cause.proofs.step.forget.Goals as goal

pub returns-in-Advance : goal.returns-in-Advance
returns-in-Advance c =
    on_ok_weaker c.forget_before.result (λ is. keeps_due c.args.time c.forget_before.new.self c.args.seen.now is) c.forget_before.ensures
