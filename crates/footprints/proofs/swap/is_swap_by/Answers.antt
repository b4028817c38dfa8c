use Rattle.std.proofs.Common.{arith}
use Rattle.footprints.proofs.LatestLemmas.{not_swapped}
use Rattle.footprints.proofs.swap.is_swap_by.Goals as goal

pub returns-else-i-place_of : goal.returns-else-i-place_of
returns-else-i-place_of c =
    not_swapped c.args.run.now c.args.parent.now c.args.i c.args.j c.place_of.result c.in-Some.visit.now c.in-Some.ensures.some
    c.place_of.ensures.there c.place_of.ensures.within (omega (arith, c.if-i-place_of.false))
