use Rattle.std.proofs.Common.{◌≡◌, Some, inr, refl}
use Rattle.race_groups.specs.Found.{name_of}
use Rattle.race_groups.specs.Inner.{NoneFits}
use Rattle.race_groups.proofs.AddsLemmas.{adds_group}
use Rattle.race_groups.proofs.CountLemmas.{counts_still, open_counts, opened_by}
use Rattle.race_groups.proofs.groups.open.Goals as goal

pub returns-clause-still : goal.returns-clause-still
returns-clause-still g c names =
    let d = g.R.SlotRace.difference c.args.race.now in
    counts_still names (λ n. name_of d ≡ Some n) NoneFits c.args.groups.now.items c.push.new.self.items
    (open_counts names d NoneFits c.args.groups.now.items c.push.new.self.items _ (opened_by d c.args.groups.now.items c.push.new.self.items _
    c.name-name.result c.name-name.ensures c.in_ok-push.ensures.items c.in_ok-whole.ensures c.new.ensures.items refl refl))

pub returns-clause-counts : goal.returns-clause-counts
returns-clause-counts g c names =
    let d = g.R.SlotRace.difference c.args.race.now in
    open_counts names d NoneFits c.args.groups.now.items c.push.new.self.items _ (opened_by d c.args.groups.now.items c.push.new.self.items _
    c.name-name.result c.name-name.ensures c.in_ok-push.ensures.items c.in_ok-whole.ensures c.new.ensures.items refl refl)

pub returns-clause-widens : goal.returns-clause-widens
returns-clause-widens g c = inr (
  _,
  opened_by (g.R.SlotRace.difference c.args.race.now) c.args.groups.now.items c.push.new.self.items _
      c.name-name.result c.name-name.ensures c.in_ok-push.ensures.items c.in_ok-whole.ensures c.new.ensures.items refl refl,
)

pub returns-clause-adds : goal.returns-clause-adds
returns-clause-adds g c setting caused of =
    adds_group setting (g.R.SlotRace.difference c.args.race.now) c.args.groups.now.items c.push.new.self.items _ c.args.log.now
    c.in_ok-push.ensures.items c.in_ok-copy.ensures.equal caused of c.in_ok-whole.ensures
