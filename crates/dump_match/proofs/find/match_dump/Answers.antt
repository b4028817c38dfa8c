use Rattle.dump_match.proofs.SlotLemmas.{ends_slots}
use Rattle.dump_match.proofs.find.match_dump.Goals as goal

pub match_runs-requires-after_bounds : goal.match_runs-requires-after_bounds
match_runs-requires-after_bounds g c κs within =
    let run = c.run_law.ensures in
    let machine = c.machine_law.ensures in
    ends_slots run.one_way run.later run.stays machine.width machine.mark machine.rank machine.stands machine.runs c.args.reference.now.machine.now
