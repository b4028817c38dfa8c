use Rattle.std.proofs.Common.{List, ◌∷◌, ◌++◌, true}
use Rattle.vcd_read.specs.Commands.{Item, at}
use Rattle.vcd_text.specs.DumpText.{on_after}
use Rattle.vcd_law.proofs.BodyBack.{body_told, later_items, start_items}
use Rattle.vcd_law.proofs.HeaderBack.{header_told}
use Rattle.vcd_law.proofs.SlotsBack.{all_shown}
use Rattle.vcd_law.proofs.WholeBack.{whole_told}
use Rattle.vcd_law.proofs.law.dumps_are_read_back.Goals as goal

pub returns-clause-body : goal.returns-clause-body
returns-clause-body c marks first later end rise small have =
    let items : List Item = at first.time ∷ (start_items marks first ++ later_items marks end (on_after true first.commands) first later first.time) in
    let shown = all_shown marks end first later rise have in
    (items, body_told marks end small first later rise have, shown.2, (shown.0, shown.1))

pub returns-clause-header : goal.returns-clause-header
returns-clause-header c = header_told

pub returns-clause-dump : goal.returns-clause-dump
returns-clause-dump c = whole_told (returns-clause-body c)
