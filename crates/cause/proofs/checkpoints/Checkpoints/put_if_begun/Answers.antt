use Rattle.std.proofs.Common.{Some, [], ap}
use Rattle.vmodel.specs.declared.choice.Choice.{Choice}
use Rattle.footprints.specs.Visits.{is_in_slot}
use Rattle.cause.proofs.CheckpointLemmas.{copied_is}
use Rattle.cause.proofs.checkpoints.Checkpoints.put_if_begun.Goals as goal

pub put-requires : goal.put-requires
put-requires c =
    copied_is c.args.self.now [] (record { step = c.args.step; state = c.args.state.now; seen = c.args.seen.now }) c.in_ok-copy-in-Advance.field-0
    c.in_ok-copy-in-Advance-2.field-0 (c.requires (ap (λ (choice : Choice). is_in_slot (Some choice)) c.in-Advance.is)) c.in_ok-copy-in-Advance.ensures c.in_ok-copy-in-Advance-2.ensures
