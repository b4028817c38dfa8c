use Rattle.std.proofs.Common.{arith}
use Rattle.race_groups.specs.Inner.{traced_by}
use Rattle.race_groups.proofs.KeptLemmas.{cuts_told, told_of_ends}
use Rattle.race_groups.proofs.find.told_of.Goals as goal

pub returns-then-len-le1-clause-cut_ends : goal.returns-then-len-le1-clause-cut_ends
returns-then-len-le1-clause-cut_ends c =
    let found = c.args.found in
    cuts_told found c.in_ok-cut_ends_told.field-0.items (omega (arith, c.if-len-le1.true, c.len.ensures, found.ends.ok.0))
    c.in_ok-cut_ends_told.ensures.none c.in_ok-cut_ends_told.ensures.two

pub returns-clause-groups : goal.returns-clause-groups
returns-clause-groups c =
    let found = c.args.found in
    told_of_ends (traced_by found) found c.push.new.self.items c.in_ok-group_of_ends.field-0
    (omega (arith, c.if-len-le1.false, c.len.ensures, found.ends.ok.0)) c.in_ok-push.ensures.items c.in_ok-group_of_ends.ensures
