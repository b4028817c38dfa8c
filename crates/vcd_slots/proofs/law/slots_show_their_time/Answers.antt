use Rattle.std.proofs.Common.{List, ap, sym, ◌∙◌}
use Rattle.vcd_read.specs.Commands.{Item}
use Rattle.vcd_slots.specs.Slots.{value_shown}
use Rattle.vcd_slots.proofs.UntilLemmas.{until_now_is}
use Rattle.vcd_slots.proofs.law.slots_show_their_time.Goals as goal

pub returns-clause-until : goal.returns-clause-until
returns-clause-until c = until_now_is

pub returns-clause-shown : goal.returns-clause-shown
returns-clause-shown c columns now items rest behind next place column is =
    behind.show.values place column is
    ∙ ap (λ (list : List Item). value_shown list column.code.items column.width) (sym (until_now_is now items rest behind.order behind.last next))
