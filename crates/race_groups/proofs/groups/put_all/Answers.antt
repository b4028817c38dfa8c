use Rattle.std.proofs.Common.{◌≡◌, Some, length, map, refl, subst, sym, ◌∙◌, arith}
use Rattle.std.specs.List.{Contains}
use Rattle.std.proofs.lemmas.Option.{slice_get_read}
use Rattle.racebook.proofs.ListLemmas.{contains_at}
use Rattle.race_groups.specs.Found.{name_of}
use Rattle.race_groups.specs.Inner.{ExplainsOne, group_heads, tracing_of}
use Rattle.race_groups.proofs.AddsLemmas.{adds_none, adds_race}
use Rattle.race_groups.proofs.CountLemmas.{all_races, explained_by, no_race_yet, race_more, still_none, still_on}
use Rattle.race_groups.proofs.ListLemmas.{to_map}
use Rattle.race_groups.proofs.groups.put_all.Goals as goal

pub loop-race-init : goal.loop-race-init
loop-race-init g c =
    let groups = c.args.groups.now.items in (
      refl,
      adds_none (tracing_of c.args.causes.now) (Contains (map g.R.SlotRace.difference c.args.races.now)) (group_heads groups)
          (group_heads groups) refl,
      λ apart. no_race_yet c.args.names g.R.SlotRace.difference (ExplainsOne (tracing_of c.args.causes.now) (Contains (map g.R.SlotRace.difference c.args.races.now))) c.args.races.now 0 groups refl,
      still_none c.args.names groups groups refl,
    )

pub returns-in_err-put-clause-adds : goal.returns-in_err-put-clause-adds
returns-in_err-put-clause-adds g c =
    let races = c.args.races.now in
    let i = c.loop-race.race-index in
    let race = c.race-item.result in
    adds_race (tracing_of c.args.causes.now) (tracing_of c.loop-race.causes) g.R.SlotRace.difference races i race
    (group_heads c.args.groups.now.items) (group_heads c.loop-race.groups.items) (group_heads c.put.new.groups.items)
    c.loop-race.invariant.0 (slice_get_read races (length races) i race refl c.loop-race-test.true c.race-item.is)
    c.loop-race.invariant.1 c.put.ensures.adds

pub returns-in_err-put-clause-still : goal.returns-in_err-put-clause-still
returns-in_err-put-clause-still g c =
    still_on c.args.names c.args.groups.now.items c.loop-race.groups.items c.put.new.groups.items
    c.loop-race.invariant.3 c.put.ensures.still

pub loop-race-preserved : goal.loop-race-preserved
loop-race-preserved g c =
    let f = g.R.SlotRace.difference in
    let tracing = tracing_of c.args.causes.now in
    let mid = c.loop-race.groups.items in
    let new = c.put.new.groups.items in
    let Fits = ExplainsOne tracing (Contains (map f c.args.races.now)) in
    let races = c.args.races.now in
    let i = c.loop-race.race-index in
    let race = c.race-item.result in
    let at = slice_get_read races (length races) i race refl c.loop-race-test.true c.race-item.is in (
      c.put.ensures.traced ∙ c.loop-race.invariant.0,
      adds_race (tracing_of c.args.causes.now) (tracing_of c.loop-race.causes) g.R.SlotRace.difference races i race
          (group_heads c.args.groups.now.items) (group_heads c.loop-race.groups.items) (group_heads c.put.new.groups.items)
          c.loop-race.invariant.0 at c.loop-race.invariant.1 c.put.ensures.adds,
      λ apart. race_more c.args.names f Fits races i race c.args.groups.now.items mid new at apart (c.loop-race.invariant.2 apart)
          (explained_by c.args.names (λ n. name_of (f race) ≡ Some n) (tracing_of c.loop-race.causes) tracing (λ d. d ≡ f race)
          (Contains (map f races)) mid new c.loop-race.invariant.0
          (λ d same. subst (Contains (map f races)) (sym same) (to_map f races race (contains_at races i race at)))
          c.in_ok-put.ensures.counts),
      still_on c.args.names c.args.groups.now.items c.loop-race.groups.items c.put.new.groups.items
          c.loop-race.invariant.3 c.put.ensures.still,
    )

pub returns-clause-still : goal.returns-clause-still
returns-clause-still g c = c.loop-race.invariant.3

pub returns-clause-counts : goal.returns-clause-counts
returns-clause-counts g c = λ apart.
    all_races c.args.names g.R.SlotRace.difference
    (ExplainsOne (tracing_of c.args.causes.now) (Contains (map g.R.SlotRace.difference c.args.races.now))) c.args.races.now
    c.loop-race.race-index c.args.groups.now.items c.loop-race.groups.items
    (omega (arith, c.loop-race-test.false)) (c.loop-race.invariant.2 apart)
