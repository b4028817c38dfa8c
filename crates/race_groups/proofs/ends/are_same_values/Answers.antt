use Rattle.std.proofs.Common.{◌≡◌, Bool, sym, subst}
use Rattle.std.specs.Prelude.{Decides}
use Rattle.vmodel.specs.SameLaws.{values_tell}
use Rattle.race_groups.proofs.ends.are_same_values.Goals as goal

pub returns : goal.returns
returns c = subst (λ (b : Bool). Decides b (c.args.one.now ≡ c.args.other.now)) (sym c.eq.ensures)
    (values_tell c.args.one.now c.args.other.now)
