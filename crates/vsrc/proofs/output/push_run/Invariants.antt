use Rattle.std.proofs.Common.{◌≡◌, ◌+◌, ◌-◌, ◌++◌}
use Rattle.std.specs.List.{range_with_len}
use Rattle.vsrc.proofs.output.push_run.Given as goal

abbrev pub invariant-loop-place : goal.invariant-loop-place
invariant-loop-place l = l.origins.items ++ range_with_len l.place (l.at + l.len - l.place) ≡ l.fn.origins.items ++ range_with_len l.at l.len
