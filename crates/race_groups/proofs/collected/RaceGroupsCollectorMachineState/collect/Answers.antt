use Rattle.std.proofs.Common.{◌≡◌, List, arith, length, subst, sym, ◌∙◌}
use Rattle.std.proofs.lemmas.List.{length-map}
use Rattle.explore.specs.Ranked.{pairs_of}
use Rattle.explore.specs.declared.rank_marks.FoundMark.{FoundMark}
use Rattle.vmachine.specs.declared.machine_state.MachineState.{MachineState}
use Rattle.vmodel.specs.Run.{Setting}
use Rattle.race_groups.specs.Standing.{IsFoundAt}
use Rattle.race_groups.specs.declared.standing.Standing.{Standing}
use Rattle.race_groups.proofs.KeptLemmas.{back_again, collects_more, collects_no_more, collects_same, takes_seen}
use Rattle.race_groups.proofs.collected.RaceGroupsCollectorMachineState.collect.Goals as goal

pub returns-in_err-found-clause-err : goal.returns-in_err-found-clause-err
returns-in_err-found-clause-err c = collects_no_more c.args.self.now c.from_residual.result

pub returns-in-Ok-clause-ok : goal.returns-in-Ok-clause-ok
returns-in-Ok-clause-ok c =
    let marks = c.args.closed.marks in
    let ok = marks.ok.0 in
    let long : length (pairs_of marks.items) ≡ length marks.items =
    length-map marks.items (λ (f : FoundMark MachineState). (f.state, f.log)) in
    let old = c.args.self.now in
    let rank = c.args.closed.rank in
    let found_so : IsFoundAt old.causes.table.setting rank (pairs_of marks.items) c.deref.result.now c.in_ok-found.found =
    subst (λ (s : Setting). IsFoundAt s rank (pairs_of marks.items) c.deref.result.now c.in_ok-found.found) c.machine.ensures
    c.in_ok-found.ensures in
    collects_more old (record c.take_slot.new.self { seen = c.seen_by-self.result })
    (record { rank = rank; marks = pairs_of marks.items }) c.in_ok-found.found
    (subst (λ (l : List Standing). IsFoundAt old.causes.table.setting rank (pairs_of marks.items) l c.in_ok-found.found)
    c.deref.ensures.value found_so)
    (takes_seen rank c.in_ok-found.found.found old c.take_slot.new.self c.seen_by-self.result c.in-Ok.ensures.ok)
    (λ none. c.seen_by-self.ensures.none (omega (arith, c.len-marks.ensures, ok, long, none)) ∙ c.take_slot.ensures.seen)
    (λ some. c.seen_by-self.ensures.some (omega (arith, c.len-marks.ensures, ok, long, some))) c.take_slot.ensures.refused
    c.in-Ok.ensures.stands

pub returns-in-Err-clause-err : goal.returns-in-Err-clause-err
returns-in-Err-clause-err c =
    let old = c.args.self.now in
    let forgot = c.forget_behind.ensures in
    collects_same old c.forget_behind.new.self
    (back_again old c.take_slot.new.self c.forget_behind.new.self c.len-groups.result c.len-ends.result
    c.len-cut_ends.result (omega (arith, c.len-groups.ensures, old.groups.ok.0)) (omega (arith, c.len-ends.ensures, old.ends.ok.0))
    (omega (arith, c.len-cut_ends.ensures, old.cut_ends.ok.0))
    c.take_slot.ensures.grows forgot.traced forgot.scope forgot.groups forgot.ends forgot.cut_ends forgot.ended forgot.cut
    (forgot.standing ∙ c.in-Err.ensures.err))
    (forgot.seen ∙ c.take_slot.ensures.seen) (λ none. (let e = sym forgot.refused ∙ none in cc))
