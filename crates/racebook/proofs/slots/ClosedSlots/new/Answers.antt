use Rattle.racebook.proofs.ClosedLemmas.{none_kept}
use Rattle.racebook.proofs.slots.ClosedSlots.new.Goals as goal

pub returns-clause-none : goal.returns-clause-none
returns-clause-none c = none_kept c.args.machine.now c.new.result.items c.new-2.result.items c.new-3.result.items c.new.ensures.items c.new-2.ensures.items c.new-3.ensures.items
