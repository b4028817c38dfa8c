use Rattle.std.proofs.Common.{◌≡◌, nat_lt, drop}
use Rattle.vsrc.specs.Source.{file_bytes}
use Rattle.vrace.specs.Replays.{total, limit}
use Rattle.vrace.proofs.design.is_too_long.Given as goal

abbrev pub invariant-loop-file : goal.invariant-loop-file
invariant-loop-file l = nat_lt l.room (total (file_bytes (drop l.file-index l.files))) ≡ nat_lt limit (total (file_bytes l.files))
