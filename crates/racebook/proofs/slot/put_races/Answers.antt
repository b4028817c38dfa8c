use Rattle.std.proofs.Common.{ap, ◌∙◌}
use Rattle.racebook.proofs.RaceLemmas.{slot_more, slot_same, have_value}
use Rattle.racebook.proofs.slot.put_races.Goals as goal
use Rattle.racebook.proofs.slot.put_races.Goals.{in-Some+in_ok-push, in_default}

pub race_of-requires : goal.race_of-requires
race_of-requires c = have_value c.args.count c.loop-variable.variable c.args.slot.now c.requires.wide c.loop-variable-test.true

pub loop-variable-preserved : goal.loop-variable-preserved
loop-variable-preserved c = λ slot_states of wide up. elim c.match-branch-2.branch [
  | in-Some+in_ok-push w ↦ slot_more slot_states c.args.slot.now c.loop-variable.races.items c.match-branch-2.races.items c.args.time c.loop-variable.variable c.in_ok-race.field-0 w.in-Some.race
      (ap (λ v. v.items) w.races-is ∙ w.in_ok-push.ensures.items) w.in-Some.is of
      (have_value c.args.count c.loop-variable.variable c.args.slot.now c.requires.wide c.loop-variable-test.true)
      (c.loop-variable.invariant slot_states of wide up) c.in_ok-race.ensures
  | in_default w ↦ slot_same slot_states c.args.slot.now c.loop-variable.races.items c.match-branch-2.races.items c.args.time c.loop-variable.variable c.in_ok-race.field-0
      (ap (λ v. v.items) w.races-is) w.in_default.is of (c.loop-variable.invariant slot_states of wide up) c.in_ok-race.ensures
]
