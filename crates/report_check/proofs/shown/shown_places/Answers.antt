use Rattle.std.proofs.lemmas.List.Sorted.{All-permutation}
use Rattle.report_check.specs.Claims.{IsTrueAt}
use Rattle.report_check.proofs.shown.shown_places.Goals as goal

pub returns : goal.returns
returns c =
    All-permutation (IsTrueAt c.args.machine.now c.args.report.now) c.groups.shown.items c.sort_unstable.new.self.items c.sort_unstable.ensures.permutation c.groups.invariant
