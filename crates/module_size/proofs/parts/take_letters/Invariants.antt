use Rattle.std.proofs.Common.{◌≡◌, ◌-◌, drop}
use Rattle.module_size.specs.Sizes.{letter_size, size_of}
use Rattle.module_size.proofs.parts.take_letters.Given as goal

abbrev pub invariant-loop-one : goal.invariant-loop-one
invariant-loop-one l =
    l.left - size_of (letter_size l.path) (drop l.one-index l.string) ≡ l.initial.left - size_of (letter_size l.path) l.string
