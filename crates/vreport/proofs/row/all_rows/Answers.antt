use Rattle.std.proofs.Common.{ℕ, List, ap, sym, ◌∙◌, subst, option_map}
use Rattle.std.specs.Map.Iter.{deref_pair}
use Rattle.vmachine.specs.declared.machine_state.MachineState.{MachineState}
use Rattle.vreport.specs.Inner.{TellsRow}
use Rattle.vreport.proofs.RowLemmas.{rows_more, rows_none, rows_skip}
use Rattle.vreport.proofs.row.all_rows.Goals as goal
use Rattle.vreport.proofs.row.all_rows.Goals.{in-Some+in_ok-row+in-Some-2+in_ok-push, in-Some+in_ok-row+in_default-2, in_default}

pub loop-place-preserved : goal.loop-place-preserved
loop-place-preserved g c =
    let setting = c.args.machine.now in
    let marks = g.M.Marks.pairs c.args.marks.now in
    let rows = c.loop-place.rows.items in
    let new = c.match-mark_at.rows.items in
    elim c.match-mark_at.branch [
      | in-Some+in_ok-row+in-Some-2+in_ok-push w ↦
          let mark : MachineState × List (ℕ × ℕ) = (w.in-Some.machine_state.now, w.in-Some.log.now) in
          rows_more setting marks rows new c.loop-place.place mark w.in-Some-2.row (ap (λ v. v.items) w.rows-is ∙ w.in_ok-push.ensures.items)
          (sym c.mark_at.ensures ∙ ap (option_map deref_pair) w.in-Some.is)
          (subst (TellsRow setting mark c.loop-place.place) w.in-Some-2.is w.in_ok-row.ensures) c.loop-place.invariant
      | in-Some+in_ok-row+in_default-2 w ↦
          let mark : MachineState × List (ℕ × ℕ) = (w.in-Some.machine_state.now, w.in-Some.log.now) in
          rows_skip setting marks rows new c.loop-place.place mark (ap (λ v. v.items) w.rows-is)
          (sym c.mark_at.ensures ∙ ap (option_map deref_pair) w.in-Some.is)
          (subst (TellsRow setting mark c.loop-place.place) w.in_default-2.is w.in_ok-row.ensures) c.loop-place.invariant
      | in_default w ↦ rows_none setting marks rows new c.loop-place.place
          (ap (λ v. v.items) w.rows-is) (sym c.mark_at.ensures ∙ ap (option_map deref_pair) w.in_default.is) c.loop-place.invariant
    ]
