use Rattle.std.proofs.Common.{refl}
use Rattle.statebook.specs.declared.entry.Entry.{Entry}
use Rattle.explore.proofs.RankedLemmas.{copy_allowed, copy_reached}
use Rattle.explore.proofs.ranked_visit.remember_way.Goals as goal

pub insert_reached-requires-clause-allowed : goal.insert_reached-requires-clause-allowed
insert_reached-requires-clause-allowed g c κs within =
    let copy : Entry g.row.P-State.Denot = record { state = c.in_ok-copy.field-0; budget = c.args.entry.now.budget; log = c.in_ok-copy-2.field-0; steps = c.args.entry.now.steps } in
    copy_allowed (g.P.Space.rules c.args.space.now) (g.met.P.Space.lawful c.args.space.now) c.args.limits.now c.args.entry.now copy c.requires.allowed c.in_ok-copy.ensures refl c.in_ok-copy-2.ensures.equal refl

pub insert_reached-requires-clause-come : goal.insert_reached-requires-clause-come
insert_reached-requires-clause-come g c κs within =
    let copy : Entry g.row.P-State.Denot = record { state = c.in_ok-copy.field-0; budget = c.args.entry.now.budget; log = c.in_ok-copy-2.field-0; steps = c.args.entry.now.steps } in
    copy_reached (g.P.Space.rules c.args.space.now) (g.met.P.Space.lawful c.args.space.now) c.args.checkpoints.items c.args.entry.now copy c.requires.come c.in_ok-copy.ensures refl
