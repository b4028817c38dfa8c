use Rattle.std.proofs.Common.{◌≡◌, ◌++◌, drop}
use Rattle.vcd_text.specs.DumpText.{command_parts, parts_text}
use Rattle.vcd_text.proofs.progress.put_commands.Given as goal

abbrev pub invariant-loop-command : goal.invariant-loop-command
invariant-loop-command l =
    l.text.items ++ parts_text (command_parts l.marks l.is_on (drop l.command-index l.commands) l.values)
    ≡ l.initial.text.items ++ parts_text (command_parts l.marks l.initial.is_on l.commands l.values)
