use Rattle.std.proofs.Common.{arith}
use Rattle.vsrc.specs.Outside.{string_end}
use Rattle.vsrc.proofs.Stretches.{further_zero}
use Rattle.vsrc.proofs.outside.string_end.Goals as goal

pub loop-at-init : goal.loop-at-init
loop-at-init c = record { within = omega arith; whole = further_zero (string_end c.args.text.now) }
