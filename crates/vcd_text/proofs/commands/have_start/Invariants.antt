use Rattle.std.proofs.Common.{◌≡◌, drop}
use Rattle.vcd_text.specs.DumpText.{has_start}
use Rattle.vcd_text.proofs.commands.have_start.Given as goal

abbrev pub invariant-loop-command : goal.invariant-loop-command
invariant-loop-command l = has_start (drop l.command-index l.commands) ≡ has_start l.commands
