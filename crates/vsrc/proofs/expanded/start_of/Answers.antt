use Rattle.std.proofs.Common.{◌≤◌, ℕ, List, arith}
use Rattle.vsrc.specs.Source.{file_start}
use Rattle.vsrc.proofs.Counting.{file_start-le, file_start-last}
use Rattle.vsrc.proofs.expanded.start_of.Goals as goal

pub overflow_add-result : goal.overflow_add-result
overflow_add-result c =
    let places : List ℕ = c.args.places.now in
    let before : file_start 0 places c.args.at ≤ c.args.at = file_start-le 0 places c.args.at (omega arith) in
    omega (arith, before, file_start-last places c.args.at c.below-count.result c.requires c.below-count.ensures c.if-count-eq0.false)

pub returns-else-count-eq0 : goal.returns-else-count-eq0
returns-else-count-eq0 c = file_start-last c.args.places.now c.args.at c.below-count.result c.requires c.below-count.ensures c.if-count-eq0.false
