use Rattle.dump_match.proofs.SlotLemmas.{ends_slots}
use Rattle.dump_match.proofs.parting.match_dumps.Goals as goal

pub match_both-requires-after_bounds : goal.match_both-requires-after_bounds
match_both-requires-after_bounds g c κs within =
    let run = c.run_law.ensures in
    let machine = c.machine_law.ensures in
    ends_slots run.one_way run.later run.stays machine.width machine.mark machine.rank machine.stands machine.runs c.args.pair.now.first.machine.now
