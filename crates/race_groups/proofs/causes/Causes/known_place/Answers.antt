use Rattle.std.proofs.Common.{ℕ, IfSome, Option, subst}
use Rattle.race_groups.specs.Inner.{tracing_of}
use Rattle.race_groups.specs.Tracing.{IsBlamed}
use Rattle.race_groups.proofs.BlameLemmas.{found_with}
use Rattle.race_groups.proofs.causes.Causes.known_place.Goals as goal

pub returns-in-Some : goal.returns-in-Some
returns-in-Some c =
    let tracing = tracing_of c.args.self.now in
    let log = c.args.log.now in
    found_with tracing c.args.groups.now log c.in-Some.pair c.group_with.result
    (subst (λ (known : Option (Option (ℕ × ℕ))). IfSome known (IsBlamed tracing log)) c.in-Some.is c.in_ok-known.ensures)
    c.group_with.ensures
