use Rattle.std.proofs.Common.{◌∙◌}
use Rattle.vmodel.specs.Queue.{slot_with_sleeper}
use Rattle.vstrata.proofs.PlaceLemmas.{set_by, insert_by}
use Rattle.vstrata.proofs.placed.wake_at_place.Goals as goal

pub returns-then-stands_at-clause-ok : goal.returns-then-stands_at-clause-ok
returns-then-stands_at-clause-ok c =
    set_by c.args.time (slot_with_sleeper c.args.sleeper) c.args.entries.now.items c.args.place c.index_mut.result.now c.wake.new.self
    c.requires.at (c.stands_at.ensures.yes c.if-stands_at.true) c.index_mut.ensures.value c.wake.ensures

pub returns-clause-ok : goal.returns-clause-ok
returns-clause-ok c =
    c.in_ok-insert.ensures.items
    ∙ insert_by c.args.time (slot_with_sleeper c.args.sleeper) c.args.entries.now.items c.args.place c.of_process-entry.result
    c.requires.at (c.stands_at.ensures.no c.if-stands_at.false) c.of_process-entry.ensures
