use Rattle.std.proofs.Common.{Some, ap}
use Rattle.vmodel.specs.declared.choice.Choice.{Choice}
use Rattle.footprints.specs.Visits.{is_in_slot}
use Rattle.cause.proofs.CheckpointLemmas.{copied_is}
use Rattle.cause.proofs.along.newer.Goals as goal

pub returns-in_ok-copy-in-Advance-2-clause-is : goal.returns-in_ok-copy-in-Advance-2-clause-is
returns-in_ok-copy-in-Advance-2-clause-is c = λ setting log is begun.
    copied_is setting log (record { step = c.args.step; state = c.args.state.now; seen = c.args.seen.now }) c.in_ok-copy-in-Advance.field-0
    c.in_ok-copy-in-Advance-2.field-0 (begun (ap (λ (choice : Choice). is_in_slot (Some choice)) c.in-Advance.is)) c.in_ok-copy-in-Advance.ensures
    c.in_ok-copy-in-Advance-2.ensures
