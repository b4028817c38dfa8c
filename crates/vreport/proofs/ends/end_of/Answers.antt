use Rattle.std.proofs.Common.{ℕ, List, sym, ap, ◌∙◌, option_map, subst}
use Rattle.std.specs.Map.Iter.{deref_pair}
use Rattle.std.proofs.lemmas.Result.{err_from_is_err_and}
use Rattle.sched_core.specs.Logs.{IsLog}
use Rattle.vmachine.specs.declared.machine_state.MachineState.{MachineState}
use Rattle.vreport.proofs.EndLemmas.{because, its_dump, its_end, its_long_dump}
use Rattle.vreport.proofs.HeldLemmas.{its_held}
use Rattle.vreport.proofs.ends.end_of.Goals as goal

pub measure_dump-requires : goal.measure_dump-requires
measure_dump-requires g c =
    let law = c.machine_law.ensures in
    let setting = c.args.machine.now in
    let mark : MachineState × List (ℕ × ℕ) = (c.in-Some.field-0-0.now, c.in-Some.log.now) in
    record {
      ends = its_dump setting (law.same setting) (law.stands setting) (law.runs setting) c.args.limits.now (g.M.Marks.pairs c.args.marks.now) c.requires.found c.args.row.now c.requires.of
          mark (sym c.mark_at.ensures ∙ ap (option_map deref_pair) c.in-Some.is);
    }

pub returns-in_err-dump-clause-long : goal.returns-in_err-dump-clause-long
returns-in_err-dump-clause-long g c =
    let p = err_from_is_err_and c.from_residual.result c.from_residual.ensures.1 in
    rw (p.1, p.2) (let law = c.machine_law.ensures in
    let setting = c.args.machine.now in
    let mark : MachineState × List (ℕ × ℕ) = (c.in-Some.field-0-0.now, c.in-Some.log.now) in
    because c.in_err-dump.field-0.0 (λ _ long. its_long_dump setting (law.same setting) (law.stands setting) (law.runs setting) c.args.limits.now (g.M.Marks.pairs c.args.marks.now) c.requires.found
    c.args.row.now c.requires.of mark (sym c.mark_at.ensures ∙ ap (option_map deref_pair) c.in-Some.is) long) c.in_err-dump.ensures.long)

pub returns-clause-ok : goal.returns-clause-ok
returns-clause-ok g c =
    let law = c.machine_law.ensures in
    let setting = c.args.machine.now in
    let mark : MachineState × List (ℕ × ℕ) = (c.in-Some.field-0-0.now, c.in-Some.log.now) in
    its_end setting (law.same setting) (law.stands setting) (law.runs setting) c.args.limits.now (g.M.Marks.pairs c.args.marks.now) c.requires.found c.args.row.now c.requires.of
    mark (sym c.mark_at.ensures ∙ ap (option_map deref_pair) c.in-Some.is) (c.run_law.ensures.printed setting) _ c.time_of.ensures.same c.cause_of.ensures
    (c.in_ok-from_slice.ensures.items ∙ c.deref.ensures.value) (c.in_ok-copy_printed.ensures ∙ c.as_ref.ensures.value) c.in_ok-copy.ensures.equal c.time_of.ensures.bits (subst IsLog (sym c.in_ok-copy.ensures.equal) c.copy.ensures.lawful) c.in_ok-dump.ensures.ok

pub returns-clause-held : goal.returns-clause-held
returns-clause-held g c = its_held c.args.machine.now c.args.limits.now.steps _ c.in-Some.log.now c.in_ok-dump.dump.held c.in_ok-copy.ensures.equal c.in_ok-dump.ensures.held
