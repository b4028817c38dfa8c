use Rattle.std.proofs.Common.{List, [], refl, subst, sym}
use Rattle.explore.specs.Ranked.{pairs_of}
use Rattle.explore.specs.declared.rank_marks.FoundMark.{FoundMark}
use Rattle.vmachine.specs.declared.machine_state.MachineState.{MachineState}
use Rattle.race_groups.specs.Inner.{IsLogOfEnds, IsPlaced, IsWith, tracing_of}
use Rattle.race_groups.specs.Tracing.{IsTraced}
use Rattle.race_groups.proofs.find.group_of_ends.Goals.{in-With, in-Apart}
use Rattle.race_groups.proofs.find.group_of_ends.Goals as goal

pub returns : goal.returns
returns c = record {
  caused = (
    elim c.match-branch-3.branch [
      | in-With w ↦ absurd (let with : IsWith (tracing_of c.args.causes.now) [] c.in_ok-log.log _ =
          subst (IsPlaced (tracing_of c.args.causes.now) [] c.in_ok-log.log) w.in-With.is c.in_ok-place.ensures.placed in let at = with.at in cc)
      | in-Apart w ↦ subst (IsTraced (tracing_of c.args.causes.now) c.in_ok-log.log) (sym w.cause-is)
          (subst (IsPlaced (tracing_of c.args.causes.now) [] c.in_ok-log.log) w.in-Apart.is c.in_ok-place.ensures.placed)
    ],
    subst (λ (l : List (FoundMark MachineState)). IsLogOfEnds (pairs_of l) c.in_ok-log.log) c.deref.ensures.value c.in_ok-log.ensures,
  );
  next = c.new.ensures.items;
  more = refl;
  tells = refl;
}
