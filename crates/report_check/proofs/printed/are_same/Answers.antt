use Rattle.std.proofs.Common.{Bor, ap, option_map}
use Rattle.sched_core.specs.declared.bag.Bag.{Bag}
use Rattle.report_check.proofs.ClaimLemmas.{lines_alike}
use Rattle.report_check.proofs.printed.are_same.Goals as goal

pub returns-in-Some-told : goal.returns-in-Some-told
returns-in-Some-told c =
    lines_alike c.in-Some-told.told_lines.now c.in-Some.lines.now c.eq.result (ap (option_map (λ (bag : Bor Bag). bag.now)) c.in-Some-told.is)
    (ap (option_map (λ (bag : Bor Bag). bag.now)) c.in-Some.is) c.eq.ensures
