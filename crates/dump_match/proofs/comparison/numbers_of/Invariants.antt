use Rattle.std.specs.BTreeMap.{get_by}
use Rattle.std.specs.Cmp.Lexicographic.{slice_cmp}
use Rattle.std.specs.Ordering.{nat_cmp}
use Rattle.dump_match.specs.Named.{FindsBelow}
use Rattle.dump_match.proofs.comparison.numbers_of.Given as goal

abbrev pub invariant-loop-number : goal.invariant-loop-number
invariant-loop-number l = FindsBelow l.variables l.number (λ name. get_by (λ k. slice_cmp nat_cmp name k.now) l.numbers)
