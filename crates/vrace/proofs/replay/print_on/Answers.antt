use Rattle.std.proofs.Common.{inl, inr, refl, sym, subst}
use Rattle.vrace.specs.RunDumps.{IsRunFault}
use Rattle.vrace.proofs.DumpLemmas.{seeing_fault}
use Rattle.vrace.proofs.replay.print_on.Goals as goal

pub write_run_lines_from-requires : goal.write_run_lines_from-requires
write_run_lines_from-requires g c = record { front = c.requires.front; ends = (c.in-Ok.ensures.ends.0, c.in-Ok.end, c.in-Ok.ensures.ends.1) }

pub returns-in-Err-clause-err : goal.returns-in-Err-clause-err
returns-in-Err-clause-err g c =
    inl (
      subst (IsRunFault c.args.machine.now c.args.front.run.log.now c.args.steps) (sym c.of_seeing.ensures)
          (seeing_fault c.args.machine.now c.args.front.run.log.now c.args.steps c.in-Err.fault c.in-Err.ensures.reason),
      refl,
    )

pub returns-in-Err-write_run_lines_from-clause-err : goal.returns-in-Err-write_run_lines_from-clause-err
returns-in-Err-write_run_lines_from-clause-err g c = inr c.in-Err-write_run_lines_from.ensures.err
