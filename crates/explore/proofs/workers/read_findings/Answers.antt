use Rattle.std.proofs.Common.{Some, ap}
use Rattle.explore.proofs.ListingLemmas.{closed_covers, covered_fewest}
use Rattle.explore.proofs.workers.read_findings.Goals as goal

pub returns-clause-exhausted : goal.returns-clause-exhausted
returns-clause-exhausted g c = λ t.
    closed_covers g.Q.SearchParameters.rules g.Q.SearchParameters.depart g.Q.SearchParameters.steps (g.P.Space.rules c.args.space.now) c.args.limits.now (g.met.P.Space.lawful c.args.space.now) c.requires.parameters c.args.root.now c.args.all.now c.in_ok-marks.marks.entries
    (c.in-Some.ensures.closed (ap Some t)) c.in_ok-marks.ensures.each

pub returns-clause-fewest : goal.returns-clause-fewest
returns-clause-fewest g c = λ t.
    covered_fewest (g.P.Space.rules c.args.space.now) (g.met.P.Space.lawful c.args.space.now) g.P.State.PartialEq.eq (g.met.P.Space.same_is_eq c.args.space.now) c.args.limits.now c.in_ok-marks.marks.entries c.in_ok-marks.ensures.found c.in_ok-marks.ensures.distinct
    (closed_covers g.Q.SearchParameters.rules g.Q.SearchParameters.depart g.Q.SearchParameters.steps (g.P.Space.rules c.args.space.now) c.args.limits.now (g.met.P.Space.lawful c.args.space.now) c.requires.parameters c.args.root.now c.args.all.now c.in_ok-marks.marks.entries
    (c.in-Some.ensures.closed (ap Some t)) c.in_ok-marks.ensures.each)
