use Rattle.std.proofs.Common.{◌++◌, ◌∷◌, [], sym, subst, arith, List, ℕ}
use Rattle.sched_core.specs.Logs.{IsLog}
use Rattle.statebook.proofs.NextLemmas.{push_is_log}
use Rattle.statebook.proofs.next.log_after.Goals as goal

pub push-requires : goal.push-requires
push-requires c =
    let P : List (ℕ × ℕ) → Type 0 = λ l. IsLog (l ++ (c.args.step, c.args.choice) ∷ []) in
    subst P (sym c.in_ok-after.ensures.equal)
    (push_is_log c.args.log.now c.args.step c.args.choice c.in_ok-after.ensures.lawful c.requires.names c.requires.step (omega arith) (omega arith))
