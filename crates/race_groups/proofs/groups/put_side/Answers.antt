use Rattle.std.proofs.Common.{◌≡◌, List, Some, ap, inl, refl, subst, sym, ◌∙◌}
use Rattle.std.proofs.lemmas.Option.{same_Some}
use Rattle.std.proofs.lemmas.Result.{on_ok_weaker}
use Rattle.race_groups.specs.declared.group.Group.{Group}
use Rattle.race_groups.specs.Found.{name_of}
use Rattle.race_groups.specs.Inner.{ExplainsOne, HasCauseAt, IsPlaced, IsWith, NoneFits, tracing_of}
use Rattle.race_groups.proofs.CountLemmas.{counts_as, counts_fit, followed_explains}
use Rattle.race_groups.proofs.groups.put_side.Goals as goal

pub returns-else-counted-clause-counts : goal.returns-else-counted-clause-counts
returns-else-counted-clause-counts g c =
    let name = c.name.result in
    let d = g.R.SlotRace.difference c.args.race.now in
    let groups = c.args.groups.now.items in
    let tracing = tracing_of c.args.causes.now in
    let with : IsWith tracing groups c.args.log.now c.in-With.place = subst (IsPlaced tracing groups c.args.log.now) c.in-With.is
    (subst (λ (l : List Group). IsPlaced tracing l c.args.log.now c.in_ok-place.field-0) c.deref.ensures.value c.in_ok-place.ensures.placed) in
    on_ok_weaker c.follow.result (λ so e. counts_as c.args.names (λ n. name ≡ n) (λ n. name_of d ≡ Some n)
    (λ cause n. (name ≡ n) × HasCauseAt groups c.in-With.place cause) (ExplainsOne tracing (λ e. e ≡ d)) groups c.follow.new.groups.items
    (λ n is. same_Some name n (sym c.name.ensures ∙ is)) (λ n is. c.name.ensures ∙ ap Some is)
    (followed_explains tracing d groups c.args.log.now c.in-With.place name c.name.ensures c.requires.log with) so) c.follow.ensures.counts

pub returns-else-counted-clause-widens : goal.returns-else-counted-clause-widens
returns-else-counted-clause-widens g c = on_ok_weaker c.follow.result (λ so e. absurd (let f = c.if-counted.false in cc))
    c.follow.ensures.counts

pub returns-then-counted-clause-widens : goal.returns-then-counted-clause-widens
returns-then-counted-clause-widens g c = λ e. inl refl

pub returns-in-Apart-clause-counts : goal.returns-in-Apart-clause-counts
returns-in-Apart-clause-counts g c =
    let d = g.R.SlotRace.difference c.args.race.now in
    on_ok_weaker c.open.result (λ so e. counts_fit c.args.names (λ n. name_of d ≡ Some n) NoneFits
    (ExplainsOne (tracing_of c.args.causes.now) (λ e. e ≡ d)) c.args.groups.now.items c.open.new.groups.items
    (λ cause n none. absurd none) (so c.args.names)) c.open.ensures.counts

pub returns-in-Apart-clause-widens : goal.returns-in-Apart-clause-widens
returns-in-Apart-clause-widens g c = on_ok_weaker c.open.result (λ so e. so) c.open.ensures.widens

pub returns-in-Apart-clause-adds : goal.returns-in-Apart-clause-adds
returns-in-Apart-clause-adds g c =
    let tracing = tracing_of c.args.causes.now in
    c.open.ensures.adds tracing (subst (IsPlaced tracing c.deref.result.now c.args.log.now) c.in-Apart.is c.in_ok-place.ensures.placed) c.requires.log
