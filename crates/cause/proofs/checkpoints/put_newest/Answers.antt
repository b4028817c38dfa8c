use Rattle.std.proofs.Common.{sym, subst}
use Rattle.cause.specs.Checkpoints.{AreCheckpoints}
use Rattle.cause.proofs.CheckpointLemmas.{are_put}
use Rattle.cause.proofs.checkpoints.put_newest.Goals as goal

pub returns : goal.returns
returns c = λ setting are is.
    c.let_go.ensures setting (subst (AreCheckpoints setting) (sym c.in_ok-push.ensures.items)
    (are_put setting c.let_last_go.new.list.items c.args.newest (c.let_last_go.ensures setting are) is))

pub returns-in_err-push : goal.returns-in_err-push
returns-in_err-push c = λ setting are is. subst (AreCheckpoints setting) (sym c.in_err-push.ensures.items) (c.let_last_go.ensures setting are)

pub returns-then-len-lt-MOST : goal.returns-then-len-lt-MOST
returns-then-len-lt-MOST c = λ setting are is.
    subst (AreCheckpoints setting) (sym c.in_ok-push.ensures.items) (are_put setting c.let_last_go.new.list.items c.args.newest (c.let_last_go.ensures setting are) is)
