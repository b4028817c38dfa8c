use Rattle.std.proofs.Common.{refl, ◌∙◌}
use Rattle.vsrc.specs.Source.{file_bytes}
use Rattle.sched_core.specs.declared.setting.Departures.{Departures}
use Rattle.sched_core.specs.declared.setting.Looked.TheVariants.{Values}
use Rattle.vmodel.specs.Run.{Setting}
use Rattle.sched_core.specs.declared.setting.Grain.{Grain}
use Rattle.vrace.specs.Request.{request_of}
use Rattle.vrace.specs.Replays.{Replayed}
use Rattle.vrace.proofs.replay.replay_input_of.Goals as goal

pub returns-clause-ok : goal.returns-clause-ok
returns-clause-ok c =
    let replayed : Replayed (file_bytes c.args.files.now) (request_of c.args.options.now) c.args.log.now = record {
      are_read = c.in_ok-placed.ensures.read;
      design = c.in_ok-placed.placed.design;
      is_design = c.in_ok-placed.ensures.ok;
      head = c.in_ok-head.head;
      members = c.in_ok-head.members;
      is_log = c.in_ok-head.ensures.ok.0;
      written = c.in_ok-head.ensures.ok.1;
    } in
    let named : Grain → Departures → Setting = λ grain departures. record {
      design = c.in_ok-placed.placed.design;
      until = c.args.options.now.until;
      grain = grain;
      departures = departures;
      looked = Values;
    } in
    (replayed, c.in_ok-machine.ensures ∙ (λ i. named (c.grain_under-grain.ensures i) (c.departures_under-departures.ensures i)), refl)

pub returns-clause-placed : goal.returns-clause-placed
returns-clause-placed c = c.in_ok-placed.ensures.placed
