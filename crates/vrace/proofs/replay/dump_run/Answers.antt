use Rattle.std.proofs.Common.{inr}
use Rattle.vmodel.specs.Run.{history_after}
use Rattle.vcd_text.specs.DumpText.{vcd}
use Rattle.vrace.proofs.DumpLemmas.{the_dump}
use Rattle.vrace.proofs.replay.dump_run.Goals as goal

pub write_run-requires : goal.write_run-requires
write_run-requires g c =
    let known = c.in_ok-end.ensures.ends in
    record {
      ends = (
        vcd c.args.machine.now.design (history_after c.args.machine.now c.args.log.now known.0),
        the_dump c.args.machine.now c.args.log.now c.args.steps known.0 c.in_ok-end.end known.1,
      );
    }

pub returns-in-Err-clause-err : goal.returns-in-Err-clause-err
returns-in-Err-clause-err g c = inr c.in-Err.ensures.err
