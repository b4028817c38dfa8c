use Rattle.std.proofs.Common.{◌-◌, ◌≤◌, ℕ, length, arith, refl, sym, subst}
use Rattle.std.proofs.lemmas.Option.{slice_get_read}
use Rattle.cause.specs.declared.checkpoint.Checkpoint.{Checkpoint}
use Rattle.cause.proofs.CheckpointLemmas.{is_there, step_there}
use Rattle.cause.proofs.checkpoints.last_to.Goals as goal

pub returns-then-list-k : goal.returns-then-list-k
returns-then-list-k c =
    let list = c.args.list.now in
    let k : ℕ = c.loop-k.k - 1 in
    let one = c.index-list-k.result in
    let other = c.index-list-k-then-list-k.result in
    let first = slice_get_read list (length list) k one refl (omega (arith, c.loop-k.invariant, c.loop-k-test.true)) c.index-list-k.is in
    let second = slice_get_read list (length list) k other refl (omega (arith, c.loop-k.invariant, c.loop-k-test.true)) c.index-list-k-then-list-k.is in
    let le : one.step ≤ c.args.step = subst (λ (x : Checkpoint). x.step ≤ c.args.step) (sym c.index-list-k.is) c.if-list-k.true in
    (step_there list k c.args.step one other first second le, λ setting are. is_there setting list k other are second)
