use Rattle.std.proofs.Common.{arith, ◌≡◌, ◌-◌, ◌≤◌, ℕ, subst, sym}
use Rattle.statebook.specs.Ways.{GoesPast}
use Rattle.statebook.specs.Inner.Forced.{ComesTo, Passes}
use Rattle.explore.specs.Inner.Ways.{IsAhead}
use Rattle.explore.specs.declared.way.Ahead.TheVariants.{Station}
use Rattle.explore.proofs.VisitLemmas.{root_state}
use Rattle.explore.proofs.WayLemmas.{OnWay, way_opens, way_goes_on, way_marked, way_comes, marks_come, way_past, marks_past}
use Rattle.explore.proofs.way.to_station.Given.{Over}
use Rattle.explore.proofs.way.to_station.Goals as goal
use Rattle.explore.proofs.way.to_station.Goals.{Then-n-limits, In_ok-reached-2, In-Station, In-Past}

pub loop-reached-init : goal.loop-reached-init
loop-reached-init g c = record {
  high = c.requires.within;
  way = way_opens (g.P.Space.rules c.args.space.now) (g.met.P.Space.lawful c.args.space.now) c.args.state.now c.args.taken c.args.checkpoints.now.items c.requires.none_yet;
}

pub walk-requires-clause-root : goal.walk-requires-clause-root
walk-requires-clause-root g c = λ κs h. root_state (g.P.Space.rules c.args.space.now) c.args.limits.now c.args.search.now.book c.read.result.now c.requires.searching.under_way c.read.ensures

pub walk-requires-clause-within : goal.walk-requires-clause-within
walk-requires-clause-within g c = λ κs h. omega (arith, c.loop-reached.invariant.high, c.min-until.ensures)

pub returns-in-Some-clause-there : goal.returns-in-Some-clause-there
returns-in-Some-clause-there g c =
    way_comes (g.P.Space.rules c.args.space.now) (g.met.P.Space.lawful c.args.space.now) c.args.state.now c.loop-reached.state c.walk.new.state c.args.taken c.loop-reached.n c.in-Some.reached c.loop-reached.checkpoints.items
    c.loop-reached.invariant.way (rw c.in-Some.is at c.in_ok-reached.ensures.there)

pub returns-in-Some-clause-come : goal.returns-in-Some-clause-come
returns-in-Some-clause-come g c =
    marks_come (g.P.Space.rules c.args.space.now) (g.met.P.Space.lawful c.args.space.now) c.args.state.now c.loop-reached.state c.walk.new.state c.args.taken c.loop-reached.n c.in-Some.reached c.loop-reached.checkpoints.items
    c.loop-reached.invariant.way (rw c.in-Some.is at c.in_ok-reached.ensures.there)

-- nothing up to the limit
none_left : (g : Over) (c : Then-n-limits g) → GoesPast (g.P.Space.rules c.args.space.now) c.loop-reached.state c.loop-reached.n c.args.limits.now.steps
none_left g c =
    let P : ℕ → Type 0 = λ limit. GoesPast (g.P.Space.rules c.args.space.now) c.loop-reached.state c.loop-reached.n limit in
    subst P c.if-n-limits.true (rw c.in_default.is at c.in_ok-reached.ensures.past)

pub returns-then-n-limits-clause-past : goal.returns-then-n-limits-clause-past
returns-then-n-limits-clause-past g c =
    way_past (g.P.Space.rules c.args.space.now) (g.met.P.Space.lawful c.args.space.now) c.args.state.now c.loop-reached.state c.args.taken c.loop-reached.n c.args.limits.now.steps c.loop-reached.checkpoints.items
    c.loop-reached.invariant.way c.loop-reached.invariant.high (none_left g c)

pub returns-then-n-limits-clause-go_past : goal.returns-then-n-limits-clause-go_past
returns-then-n-limits-clause-go_past g c =
    marks_past (g.P.Space.rules c.args.space.now) (g.met.P.Space.lawful c.args.space.now) c.args.state.now c.loop-reached.state c.args.taken c.loop-reached.n c.args.limits.now c.loop-reached.checkpoints.items
    c.loop-reached.invariant.way c.loop-reached.invariant.high (none_left g c)

open_way : (g : Over) (c : In_ok-reached-2 g) → Passes (g.P.Space.rules c.args.space.now) c.loop-reached.state c.walk.new.state (c.min-until.result - c.loop-reached.n)
open_way g c =
    let past : GoesPast (g.P.Space.rules c.args.space.now) c.loop-reached.state c.loop-reached.n c.min-until.result = rw c.in_default.is at c.in_ok-reached.ensures.past in
    record { same = rw c.in_default.is at c.in_ok-reached.ensures.on; passes = λ j lt. past j (omega (arith, lt)) }

-- the way goes on to the next checkpoint
walked : (g : Over) (c : In_ok-reached-2 g) → OnWay (g.P.Space.rules c.args.space.now) c.args.state.now c.walk.new.state c.args.taken c.min-until.result c.loop-reached.checkpoints.items
walked g c =
    way_goes_on (g.P.Space.rules c.args.space.now) (g.met.P.Space.lawful c.args.space.now) c.args.state.now c.loop-reached.state c.walk.new.state c.args.taken c.loop-reached.n (c.min-until.result - c.loop-reached.n) c.min-until.result c.loop-reached.checkpoints.items
    c.loop-reached.invariant.way (open_way g c) (omega (arith, c.loop-reached.invariant.high, c.min-until.ensures))

within : (g : Over) (c : In_ok-reached-2 g) → c.min-until.result ≤ c.args.limits.now.steps
within g c = omega (arith, c.min-until.ensures)

ahead_comes : (g : Over) (c : In-Station g) → ComesTo (g.P.Space.rules c.args.space.now) c.walk.new.state c.min-until.result c.look_ahead.new.state c.in-Station.reached
ahead_comes g c =
    let ahead : IsAhead (g.P.Space.rules c.args.space.now) c.walk.new.state c.min-until.result c.args.limits.now c.look_ahead.new.state (Station c.in-Station.reached) = rw c.in-Station.is at c.in_ok-reached-2.ensures.ahead in
    ahead.0

ahead_past : (g : Over) (c : In-Past g) → GoesPast (g.P.Space.rules c.args.space.now) c.walk.new.state c.min-until.result c.args.limits.now.steps
ahead_past g c = rw c.in-Past.is at c.in_ok-reached-2.ensures.ahead

pub returns-in-Station-clause-there : goal.returns-in-Station-clause-there
returns-in-Station-clause-there g c =
    way_comes (g.P.Space.rules c.args.space.now) (g.met.P.Space.lawful c.args.space.now) c.args.state.now c.walk.new.state c.look_ahead.new.state c.args.taken c.min-until.result c.in-Station.reached c.loop-reached.checkpoints.items
    (walked g (goal.at.returns-in-Station-clause-there g c).In_ok-reached-2) (ahead_comes g c)

pub returns-in-Station-clause-come : goal.returns-in-Station-clause-come
returns-in-Station-clause-come g c =
    marks_come (g.P.Space.rules c.args.space.now) (g.met.P.Space.lawful c.args.space.now) c.args.state.now c.walk.new.state c.look_ahead.new.state c.args.taken c.min-until.result c.in-Station.reached c.loop-reached.checkpoints.items
    (walked g (goal.at.returns-in-Station-clause-come g c).In_ok-reached-2) (ahead_comes g c)

pub returns-in-Past-clause-past : goal.returns-in-Past-clause-past
returns-in-Past-clause-past g c =
    way_past (g.P.Space.rules c.args.space.now) (g.met.P.Space.lawful c.args.space.now) c.args.state.now c.walk.new.state c.args.taken c.min-until.result c.args.limits.now.steps c.loop-reached.checkpoints.items
    (walked g (goal.at.returns-in-Past-clause-past g c).In_ok-reached-2) (within g (goal.at.returns-in-Past-clause-past g c).In_ok-reached-2) (ahead_past g c)

pub returns-in-Past-clause-go_past : goal.returns-in-Past-clause-go_past
returns-in-Past-clause-go_past g c =
    marks_past (g.P.Space.rules c.args.space.now) (g.met.P.Space.lawful c.args.space.now) c.args.state.now c.walk.new.state c.args.taken c.min-until.result c.args.limits.now c.loop-reached.checkpoints.items
    (walked g (goal.at.returns-in-Past-clause-go_past g c).In_ok-reached-2) (within g (goal.at.returns-in-Past-clause-go_past g c).In_ok-reached-2) (ahead_past g c)

pub loop-reached-preserved : goal.loop-reached-preserved
loop-reached-preserved g c =
    let r = g.P.Space.rules c.args.space.now in
    let back = goal.at.loop-reached-preserved g c in
    let stays : c.look_ahead.new.state ≡ c.walk.new.state = rw c.in-Unknown.is at c.in_ok-reached-2.ensures.ahead in
    let P : g.row.P-State.Denot → Type 0 = λ s. OnWay r c.args.state.now s c.args.taken c.min-until.result c.loop-reached.checkpoints.items in
    record {
      high = within g back.In_ok-reached-2;
      way = way_marked r (g.met.P.Space.lawful c.args.space.now) c.args.state.now c.look_ahead.new.state c.in_ok-copy-in-Unknown.field-0 c.args.taken c.min-until.result c.loop-reached.checkpoints.items c.push.new.self.items
          (subst P (sym stays) (walked g back.In_ok-reached-2)) c.in_ok-copy-in-Unknown.ensures c.in_ok-push-in-Unknown.ensures.items;
    }
