use Rattle.std.proofs.Common.{inl, inr, refl, sym, subst}
use Rattle.vmodel.specs.Run.{history_after}
use Rattle.vcd_text.specs.DumpText.{vcd}
use Rattle.vrace.specs.RunDumps.{IsRunFault}
use Rattle.vrace.proofs.DumpLemmas.{seeing_fault, the_dump}
use Rattle.vrace.proofs.replay.dump_on.Goals as goal

pub write_run_from-requires : goal.write_run_from-requires
write_run_from-requires g c =
    let log = c.args.front.run.log.now in
    let known = c.in-Ok.ensures.ends in
    record {
      front = c.requires.front;
      ends = (vcd c.args.machine.now.design (history_after c.args.machine.now log known.0), the_dump c.args.machine.now log c.args.steps known.0 c.in-Ok.end known.1);
    }

pub returns-in-Err-clause-err : goal.returns-in-Err-clause-err
returns-in-Err-clause-err g c =
    inl (
      subst (IsRunFault c.args.machine.now c.args.front.run.log.now c.args.steps) (sym c.of_seeing.ensures)
          (seeing_fault c.args.machine.now c.args.front.run.log.now c.args.steps c.in-Err.fault c.in-Err.ensures.reason),
      refl,
    )

pub returns-in-Err-write_run_from-clause-err : goal.returns-in-Err-write_run_from-clause-err
returns-in-Err-write_run_from-clause-err g c = inr c.in-Err-write_run_from.ensures.err
