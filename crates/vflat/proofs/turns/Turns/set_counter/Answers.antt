use Rattle.std.proofs.Common.{arith}
use Rattle.vflat.proofs.ShareLemmas.{turns_kept}
use Rattle.vflat.proofs.turns.Turns.set_counter.Goals as goal

pub invariant_of-self : goal.invariant_of-self
invariant_of-self c =
    let old = c.index-old.result.now in
    turns_kept c.self.inside.turns.items c.args.counter old c.args.left old c.self.inside.sum c.turns_share.result c.turns_share-2.result
    c.with_share-self-inside.result (omega (arith, c.if-counter-len.false, c.len.ensures)) c.index-old.ensures c.self.invariant c.turns_share.ensures
    c.turns_share-2.ensures c.with_share-self-inside.ensures
