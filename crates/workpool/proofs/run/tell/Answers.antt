use Rattle.std.proofs.Common.{arith, refl}
use Rattle.workpool.proofs.TotalsLemmas.{sums_told}
use Rattle.workpool.proofs.run.tell.Goals as goal

pub returns-clause-sums : goal.returns-clause-sums
returns-clause-sums g c = λ start h.
    sums_told (g.P.Space.rules c.args.space.now) c.args.limits.now c.args.tally start c.args.ring.items c.args.sum c.settle_all.result c.either.result _ h c.settle_all.ensures.back c.settle_all.ensures.settled (omega (arith, c.count.ensures)) c.totals-opens.ensures.opens refl refl c.totals-opens.ensures.shuts refl
    (λ none. (c.either.ensures none).1) c.cut_of.ensures.memory
