use Rattle.std.proofs.Common.{refl, arith}
use Rattle.std.proofs.lemmas.List.{nil_from_length}
use Rattle.explore.proofs.RankedLemmas.{goes_on, none_above}
use Rattle.explore.proofs.ranked.go_on.Goals as goal

pub returns-in-Some : goal.returns-in-Some
returns-in-Some g c =
    goes_on (g.P.Space.rules c.args.space.now) (g.met.P.Space.lawful c.args.space.now) c.args.limits.now (g.P.Ranked.ranks c.args.space.now) (g.met.P.Ranked.ranked c.args.space.now) c.args.search.now _ c.in-Some.next
    c.requires.searching c.requires.all c.in-Some.ensures.items refl refl (omega arith)

pub returns-in-None : goal.returns-in-None
returns-in-None g c =
    none_above (g.P.Space.rules c.args.space.now) (g.met.P.Space.lawful c.args.space.now) c.args.limits.now (g.P.Ranked.ranks c.args.space.now) (g.met.P.Ranked.ranked c.args.space.now) c.args.search.now c.requires.searching c.requires.all
    (nil_from_length c.args.search.now.later.items (omega (arith, c.args.search.now.later.ok.0, c.in-None.ensures.cases.0)))
