use Rattle.std.proofs.Common.{◌≡◌, Bool, sym, subst}
use Rattle.std.specs.Prelude.{Decides}
use Rattle.sched_core.specs.BagLaws.{lines_tell}
use Rattle.race_groups.proofs.ends.is_same_bag.Goals as goal

pub returns : goal.returns
returns c = subst (λ (b : Bool). Decides b (c.args.one.now ≡ c.args.other.now)) (sym c.eq.ensures)
    (lines_tell c.args.one.now c.args.other.now)
