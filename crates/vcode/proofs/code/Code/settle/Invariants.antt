use Rattle.std.proofs.Common.{◌≡◌}
use Rattle.vcode.specs.Code.{settle, pass_spent}
use Rattle.vcode.proofs.code.Code.settle.Given as goal

abbrev pub invariant-loop-most : goal.invariant-loop-most
invariant-loop-most l = pass_spent l.self l.turns l.most l.settled ≡ settle l.self l.turns l.initial.settled

abbrev pub decreases-loop-most : goal.decreases-loop-most
decreases-loop-most l = l.most
