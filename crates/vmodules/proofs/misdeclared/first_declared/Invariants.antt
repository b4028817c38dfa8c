use Rattle.std.proofs.Common.{◌≡◌, List, drop}
use Rattle.vwords.specs.Words.{Text}
use Rattle.vmodules.specs.Inner.{declared_valued}
use Rattle.vmodules.proofs.misdeclared.first_declared.Given as goal

abbrev pub invariant-loop-one : goal.invariant-loop-one
invariant-loop-one l = (words : List Text) → declared_valued words l.direction (drop l.one-index l.list) ≡ declared_valued words l.direction l.list
