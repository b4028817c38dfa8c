use Rattle.std.proofs.Common.{ℕ, IfSome, Option, subst}
use Rattle.race_groups.specs.Inner.{HasPairAt, tracing_of}
use Rattle.race_groups.proofs.BlameLemmas.{placed_with, traced_blamed}
use Rattle.race_groups.proofs.causes.Causes.place.Goals as goal

pub returns-in-Some-group_with-clause-placed : goal.returns-in-Some-group_with-clause-placed
returns-in-Some-group_with-clause-placed c =
    let tracing = tracing_of c.args.self.now in
    let log = c.args.log.now in
    let pair = c.blamed_by.result in
    placed_with tracing c.args.groups.now log pair c.in-Some-group_with.place
    (traced_blamed tracing log c.in_ok-cause.cause pair c.in_ok-cause.ensures.traced c.blamed_by.ensures)
    (subst (λ (found : Option ℕ). IfSome found (HasPairAt c.args.groups.now pair)) c.in-Some-group_with.is c.group_with.ensures)
