use Rattle.std.proofs.Common.{arith}
use Rattle.vhierarchy.proofs.RoomLemmas.{name_taken, names_over}
use Rattle.vhierarchy.proofs.room.take_names.Goals as goal

pub loop-place-preserved : goal.loop-place-preserved
loop-place-preserved c =
    name_taken c.args.path.now c.args.names.now c.loop-place.place c.name.result.now c.name.ensures c.loop-place.left c.take_dotted-left.result _ c.take_dotted-left.ensures c.loop-place.invariant

pub returns : goal.returns
returns c =
    names_over c.args.path.now c.args.names.now c.loop-place.place (omega (arith, c.len-place-end.ensures.count, c.loop-place-test.false)) c.loop-place.left _ c.loop-place.invariant
