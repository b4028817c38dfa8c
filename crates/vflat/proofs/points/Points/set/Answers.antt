use Rattle.std.proofs.Common.{arith}
use Rattle.vflat.proofs.ShareLemmas.{points_kept}
use Rattle.vflat.proofs.points.Points.set.Goals as goal

pub invariant_of-self : goal.invariant_of-self
invariant_of-self c =
    let old = c.index-old.result.now in
    points_kept c.self.inside.points.items c.args.process old c.args.point old c.self.inside.sum c.point_share.result c.point_share-2.result
    c.with_share-self-inside.result (omega (arith, c.if-process-len.false, c.len.ensures)) c.index-old.ensures c.self.invariant c.point_share.ensures
    c.point_share-2.ensures c.with_share-self-inside.ensures
