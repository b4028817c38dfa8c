use Rattle.std.proofs.Common.{◌≡◌, drop}
use Rattle.vcd_text.specs.DumpText.{on_after}
use Rattle.vcd_text.proofs.commands.on_after.Given as goal

abbrev pub invariant-loop-command : goal.invariant-loop-command
invariant-loop-command l = on_after l.is_on (drop l.command-index l.commands) ≡ on_after l.initial.is_on l.commands
