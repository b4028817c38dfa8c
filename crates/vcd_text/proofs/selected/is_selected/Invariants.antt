use Rattle.std.proofs.Common.{◌≡◌, drop}
use Rattle.vcd_text.specs.DumpText.{is_selected}
use Rattle.vcd_text.proofs.selected.is_selected.Given as goal

abbrev pub invariant-loop-command : goal.invariant-loop-command
invariant-loop-command l =
    is_selected l.actions (drop l.command-index l.commands) l.path ≡ is_selected l.actions l.commands l.path
