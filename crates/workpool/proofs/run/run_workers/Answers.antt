use Rattle.std.proofs.Common.{◌≡◌, ◌∙◌, length, arith, ap, sym}
use Rattle.workpool.specs.Tallies.{Seated}
use Rattle.workpool.specs.Inner.Rooms.{IsRoomFor}
use Rattle.workpool.specs.Inner.Totals.{TellsSums}
use Rattle.workpool.proofs.JoinLemmas.{as_many, parts_stay, ring_back, stay_of}
use Rattle.workpool.proofs.run.run_workers.Given.{Over}
use Rattle.workpool.proofs.run.run_workers.Goals as goal
use Rattle.workpool.proofs.run.run_workers.Goals.{After-search-met, After-tell}

-- there are as many workers as were asked for
counted : (g : Over) (c : After-search-met g) → length c.search-met.new.works.items ≡ c.args.count
counted g c =
    let room : IsRoomFor c.args.count c.in-Ok.room = c.in-Ok.ensures in
    c.search-met.ensures.len ∙ as_many c.seat_workers.new.works.items c.in-Ok.room.ring.items c.seat_workers.ensures.seats ∙ room.seats

pub join_workers-sum-requires-clause-room : goal.join_workers-sum-requires-clause-room
join_workers-sum-requires-clause-room g c = λ κs h.
    let room : IsRoomFor c.args.count c.in-Ok.room = c.in-Ok.ensures in
    omega (arith, counted g (goal.at.join_workers-sum-requires-clause-room g c).After-search-met, c.search-met.new.works.ok.0, room.back, c.seat_workers.ensures.capacity)

pub tell-requires-clause-parts : goal.tell-requires-clause-parts
tell-requires-clause-parts g c = λ κs h.
    let room : IsRoomFor c.args.count c.in-Ok.room = c.in-Ok.ensures in
    let left = ap (λ (s : Seated). s.parts) c.seat_workers.ensures.left in
    let count = counted g (goal.at.tell-requires-clause-parts g c).After-search-met in
    omega (arith, c.join_workers-sum.ensures.seat, left, count, room.parts, room.seats, c.requires.count.1)

pub tell-requires-clause-ring : goal.tell-requires-clause-ring
tell-requires-clause-ring g c = λ κs h.
    let room : IsRoomFor c.args.count c.in-Ok.room = c.in-Ok.ensures in
    ring_back c.seat_workers.new.works.items c.search-met.new.works.items c.in-Ok.room.ring.items c.join_workers-sum.new.ring.items c.seat_workers.ensures.seats room.ring
    c.search-met.ensures.len c.search-met.ensures.same c.join_workers-sum.ensures.seats

pub returns-clause-parts : goal.returns-clause-parts
returns-clause-parts g c =
    let stay = parts_stay c.seat_workers.new.works.items c.search-met.new.works.items (stay_of c.seat_workers.new.works.items c.search-met.new.works.items c.search-met.ensures.len c.search-met.ensures.same) in
    omega (arith, c.tell.ensures.parts, c.join_workers-sum.ensures.parts, stay, c.seat_workers.ensures.parts)

-- what the sums tell
told : (g : Over) (c : After-tell g) → TellsSums c.seat_workers.new.pass.count c.tell.result
told g c = c.tell.ensures.sums c.seat_workers.new.pass.count c.join_workers-sum.ensures.summed

pub returns-clause-opens : goal.returns-clause-opens
returns-clause-opens g c =
    let sums = told g (goal.at.returns-clause-opens g c).After-tell in
    omega (arith, sums.opens, c.seat_workers.ensures.count)

pub returns-clause-given : goal.returns-clause-given
returns-clause-given g c = (told g (goal.at.returns-clause-given g c).After-tell).given

pub returns-clause-taken : goal.returns-clause-taken
returns-clause-taken g c = (told g (goal.at.returns-clause-taken g c).After-tell).taken

pub returns-clause-jobs : goal.returns-clause-jobs
returns-clause-jobs g c = (told g (goal.at.returns-clause-jobs g c).After-tell).jobs

pub returns-clause-shuts : goal.returns-clause-shuts
returns-clause-shuts g c = (told g (goal.at.returns-clause-shuts g c).After-tell).shuts

pub tell-requires-clause-room : goal.tell-requires-clause-room
tell-requires-clause-room g c = λ κs h.
    let room : IsRoomFor c.args.count c.in-Ok.room = c.in-Ok.ensures in
    let len = as_many c.search-met.new.works.items c.join_workers-sum.new.ring.items (sym c.join_workers-sum.ensures.seats) in
    omega (arith, counted g (goal.at.tell-requires-clause-room g c).After-search-met, len, room.ends, c.join_workers-sum.new.ring.ok.0)
