use Rattle.std.proofs.Common.{List, refl, subst, sym, ◌∙◌}
use Rattle.std.proofs.lemmas.Result.{on_ok_weaker}
use Rattle.explore.specs.Ranked.{pairs_of}
use Rattle.explore.specs.declared.rank_marks.FoundMark.{FoundMark}
use Rattle.vmachine.specs.declared.machine_state.MachineState.{MachineState}
use Rattle.vmodel.specs.Run.{Setting}
use Rattle.race_groups.specs.Inner.{AreUncut, group_heads}
use Rattle.race_groups.proofs.CountLemmas.{still_none}
use Rattle.race_groups.proofs.KeptLemmas.{takes_early, takes_late}
use Rattle.race_groups.proofs.SumLemmas.{grows_none}
use Rattle.race_groups.proofs.collected.RaceGroups.put_slot.Goals as goal

pub returns-clause-ok : goal.returns-clause-ok
returns-clause-ok c =
    let old = c.args.self.now in
    on_ok_weaker c.put_found.result
    (λ all. takes_late c.args.time c.args.found old (record old { cut_runs = c.either-self.result; ended = c.either-self-2.result }) c.put_found.new.self
    c.if-time-self.false refl refl refl refl refl
    (λ none. (let e = c.either-self-2.ensures none in (e.0, sym c.deref-2.ensures.value ∙ c.some_ends.ensures e.1)))
    (λ none. (let e = c.either-self.ensures none in (
      e.0,
      subst (λ (l : List (FoundMark MachineState)). AreUncut old.causes.table.setting (pairs_of l)) c.deref.ensures.value
          (subst (λ (s : Setting). AreUncut s (pairs_of c.deref.result.now)) c.machine.ensures (c.some_is_cut-is_cut.ensures e.1)),
    )))
    all) c.put_found.ensures.ok

pub returns-then-time-self-clause-ok : goal.returns-then-time-self-clause-ok
returns-then-time-self-clause-ok c =
    let old = c.args.self.now in
    takes_early c.args.time c.args.found old _ c.if-time-self.true refl refl refl refl refl
    (λ none. (let e = c.either-self-2.ensures none in (e.0, sym c.deref-2.ensures.value ∙ c.some_ends.ensures e.1)))
    (λ none. (let e = c.either-self.ensures none in (
      e.0,
      subst (λ (l : List (FoundMark MachineState)). AreUncut old.causes.table.setting (pairs_of l)) c.deref.ensures.value
          (subst (λ (s : Setting). AreUncut s (pairs_of c.deref.result.now)) c.machine.ensures (c.some_is_cut-is_cut.ensures e.1)),
    )))

pub returns-then-time-self-clause-grows : goal.returns-then-time-self-clause-grows
returns-then-time-self-clause-grows c =
    let old = c.args.self.now in
    record {
      traced = refl;
      scope = refl;
      groups = grows_none (group_heads old.groups.items);
      still = still_none old.scope.names old.groups.items old.groups.items refl;
      ends = grows_none old.ends.items;
      cut_ends = grows_none old.cut_ends.items;
      ended = λ none. (c.either-self-2.ensures none).0;
      cut = λ none. (c.either-self.ensures none).0;
    }
