use Rattle.std.proofs.Common.{ap}
use Rattle.explore.specs.Ranked.{pairs_of}
use Rattle.race_groups.proofs.FoundLemmas.{tracing_in}
use Rattle.race_groups.proofs.KeptLemmas.{kept_none, no_cuts}
use Rattle.race_groups.proofs.StandingLemmas.{none_stand}
use Rattle.race_groups.proofs.collected.RaceGroups.new.Goals as goal

pub returns-clause-none : goal.returns-clause-none
returns-clause-none c = record {
  groups = kept_none (tracing_in c.args.machine.now c.args.limits.now) c.args.scope.now c.new-2.result.items
      _ c.new-2.ensures.items (ap pairs_of c.new-3.ensures.items);
  cuts = no_cuts c.args.machine.now c.args.scope.now.from _ _ (ap pairs_of c.new-3.ensures.items) (ap pairs_of c.new-4.ensures.items);
  unended = λ e i c at. absurd (cc);
  standing = none_stand c.args.machine.now _ c.new-5.ensures.items;
}
