use Rattle.vcd_slots.proofs.SlotLemmas.{advances_by, reads_by}
use Rattle.vcd_slots.proofs.slots.DumpSlots.advance.Goals as goal

pub returns-clause-advances : goal.returns-clause-advances
returns-clause-advances g c =
    advances_by g.R.Read.remaining c.args.self.now c.read_on.new.self c.read_on.result c.requires.ready c.requires.some c.read_on.ensures.time c.read_on.ensures.watched
    c.read_on.ensures.units c.read_on.ensures.takes

pub returns-clause-reads : goal.returns-clause-reads
returns-clause-reads g c = reads_by g.R.Read.remaining c.args.self.now c.read_on.new.self c.read_on.result c.requires.some (returns-clause-advances g c)
