use Rattle.std.proofs.Common.{arith}
use Rattle.explore.specs.Inner.Ways.{LeadsTo}
use Rattle.explore.proofs.WayLemmas.{leads_past, leads_there}
use Rattle.explore.proofs.WaysLemmas.{known_leads, leads_to_entry, leads_to_place}
use Rattle.explore.proofs.way.look_ahead.Given.{Over}
use Rattle.explore.proofs.way.look_ahead.Goals as goal
use Rattle.explore.proofs.way.look_ahead.Goals.{In-Some}

-- what is known of the state leads on from it
leads : (g : Over) (c : In-Some g) → LeadsTo (g.P.Space.rules c.args.space.now) c.args.search.now.book.entries c.args.state.now c.in-Some.onward.steps c.in-Some.onward.station
leads g c = known_leads (g.P.Space.rules c.args.space.now) (g.met.P.Space.lawful c.args.space.now) g.P.State.PartialEq.eq (g.met.P.Space.same_is_eq c.args.space.now) c.args.search.now.book.entries c.args.search.now.ways.entries c.args.state.now c.in-Some.onward c.requires.searching.lead c.in-Some.ensures.known

pub returns-then-onward-limits : goal.returns-then-onward-limits
returns-then-onward-limits g c = record {
  ahead = leads_past (g.P.Space.rules c.args.space.now) c.args.search.now.book.entries c.args.state.now c.in-Some.onward.steps c.args.n c.args.limits.now.steps c.in-Some.onward.station
      (leads g (goal.at.returns-then-onward-limits g c).In-Some) c.if-onward-limits.true;
}

pub read-requires : goal.read-requires
read-requires g c =
    leads_to_place (g.P.Space.rules c.args.space.now) c.args.search.now.book.entries c.args.state.now c.in-Some.onward.steps c.in-Some.onward.station c.in-Some-station.place
    (leads g (goal.at.read-requires g c).In-Some) c.in-Some-station.is

pub returns-in_ok-state-in-Some-station : goal.returns-in_ok-state-in-Some-station
returns-in_ok-state-in-Some-station g c =
    let r = g.P.Space.rules c.args.space.now in
    let way = leads_to_entry r c.args.search.now.book.entries c.args.state.now c.in-Some.onward.steps c.in-Some.onward.station c.in-Some-station.place c.read.result.now
    (leads g (goal.at.returns-in_ok-state-in-Some-station g c).In-Some) c.in-Some-station.is c.read.ensures in
    record {
      ahead = (leads_there r (g.met.P.Space.lawful c.args.space.now) c.args.state.now c.read.result.now.state c.in_ok-state-in-Some-station.field-0 c.args.n c.in-Some.onward.steps way c.in_ok-state-in-Some-station.ensures, omega (arith, c.if-onward-limits.false, c.requires.within));
    }
