use Rattle.race_groups.proofs.SumLemmas.{some_tells}
use Rattle.race_groups.proofs.ends.is_same_print.Goals as goal

pub returns-in-Some-Some : goal.returns-in-Some-Some
returns-in-Some-Some c =
    some_tells _ c.is_same_bag.result c.args.one c.args.other c.in-Some-Some.one c.in-Some-Some.other c.in-Some-Some.is-0
    c.in-Some-Some.is-1 c.is_same_bag.ensures
