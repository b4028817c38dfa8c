use Rattle.std.proofs.Common.{◌∙◌, sym, ap}
use Rattle.vmachine.specs.Reads.{slot_in}
use Rattle.vmachine.proofs.StandLemmas.{seen, tells}
use Rattle.vmachine.proofs.machine.Machine.slot_of.Goals as goal

pub returns-clause-stands : goal.returns-clause-stands
returns-clause-stands c =
    λ t h. c.slot_at.ensures ∙ ap slot_in c.rest.ensures ∙ ap slot_in (seen c.args.self.now c.args.s.now t h)

pub returns-clause-own : goal.returns-clause-own
returns-clause-own c = c.slot_at.ensures ∙ ap slot_in c.rest.ensures ∙ ap slot_in (sym (tells c.args.self.now c.args.s.now))
