use Rattle.std.proofs.Common.{ℕ, Option, [], sym, subst}
use Rattle.vcd_slots.specs.Standing.{Behind}
use Rattle.vcd_slots.proofs.OrderLemmas.{behind_none}
use Rattle.vcd_slots.proofs.slots.DumpSlots.begin.Goals as goal

pub returns-clause-reads : goal.returns-clause-reads
returns-clause-reads g c =
    let (items, takes, leads) = c.in_ok-read_on.ensures.takes in (
      items,
      takes,
      subst (λ (time : Option ℕ). Behind c.read_on.new.self.columns time items) (sym c.read_on.ensures.time) (leads [] (behind_none c.args.columns c.requires.fresh)),
    )
