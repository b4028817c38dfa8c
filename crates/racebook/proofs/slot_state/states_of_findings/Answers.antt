use Rattle.std.proofs.Common.{ap, sym, ◌∙◌, option_map}
use Rattle.std.specs.Map.Iter.{deref_pair}
use Rattle.racebook.proofs.FoundLemmas.{slot_states_on, slot_states_none, slot_states_wide}
use Rattle.racebook.proofs.slot_state.states_of_findings.Goals as goal
use Rattle.racebook.proofs.slot_state.states_of_findings.Goals.{in-Some+in_ok-put_slot_state, in_default}

pub loop-place-preserved : goal.loop-place-preserved
loop-place-preserved c =
    let setting = c.args.machine.now in
    let marks = c.args.findings.now.marks.entries in
    elim c.match-get_index.branch [
      | in-Some+in_ok-put_slot_state w ↦ slot_states_on setting marks c.loop-place.slot_states.items w.put_slot_state.new.slot_states.items c.match-get_index.slot_states.items c.loop-place.place
          (w.in-Some.machine_state.now, w.in-Some.log.now) (ap (λ v. v.items) w.slot_states-is)
          (sym c.get_index.ensures.entry ∙ ap (option_map deref_pair) w.in-Some.is) w.in_ok-put_slot_state.ensures c.loop-place.invariant
      | in_default w ↦ slot_states_none setting marks c.loop-place.slot_states.items c.match-get_index.slot_states.items c.loop-place.place
          (ap (λ v. v.items) w.slot_states-is) (sym c.get_index.ensures.entry ∙ ap (option_map deref_pair) w.in_default.is) c.loop-place.invariant
    ]

pub returns-clause-wide : goal.returns-clause-wide
returns-clause-wide c = slot_states_wide c.args.machine.now c.args.findings.now.marks.entries c.loop-place.place c.loop-place.slot_states.items c.loop-place.invariant
