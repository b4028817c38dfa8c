use Rattle.std.proofs.Common.{refl, take}
use Rattle.std.specs.Arc.{arc_slice_items}
use Rattle.plain_steps.specs.InnerContinuation.{continuation_frames}
use Rattle.plain_steps.proofs.ContinuationLemmas.{placed}
use Rattle.plain_steps.proofs.continuation.Continuation.put_places.Goals as goal

pub returns-clause-value : goal.returns-clause-value
returns-clause-value c =
    placed (take c.args.self.now.kept (arc_slice_items c.args.self.now.base)) c.args.self.now.own.items c.put_frames.new.continuation.items
    c.args.places.now (continuation_frames c.args.self.now) c.put_frames.ensures refl
