use Rattle.std.proofs.Common.{◌≡◌, ◌∷◌, ◌++◌, [], List, ap, ◌∙◌, arith}
use Rattle.std.proofs.lemmas.List.{nil_from_length}
use Rattle.explore.specs.Ranked.{pairs_of}
use Rattle.explore.specs.declared.rank_marks.FoundMark.{FoundMark}
use Rattle.vmachine.specs.declared.machine_state.MachineState.{MachineState}
use Rattle.race_groups.proofs.CutLemmas.{cuts_first}
use Rattle.race_groups.proofs.SumLemmas.{sums_first}
use Rattle.race_groups.proofs.ends.put_end.Goals as goal

pub returns-clause-sums : goal.returns-clause-sums
returns-clause-sums c =
    let setting = c.args.machine.now in
    let old = c.args.kept.now.items in
    sums_first setting c.args.found (c.machine_law.ensures.only setting) old c.push.new.self.items
    (nil_from_length old (omega (arith, c.if-len-gt0.false, c.len.ensures, c.args.kept.now.ok.0)))
    c.in_ok-push.ensures.items

pub returns-clause-sums_cuts : goal.returns-clause-sums_cuts
returns-clause-sums_cuts c =
    let setting = c.args.machine.now in
    let old = c.args.kept.now.items in
    let found = c.args.found in
    let none : old ≡ [] = nil_from_length old (omega (arith, c.if-len-gt0.false, c.len.ensures, c.args.kept.now.ok.0)) in
    cuts_first setting found (c.machine_law.ensures.only setting) (pairs_of old) (pairs_of c.push.new.self.items)
    (pairs_of c.args.cuts.now.items) (ap pairs_of none)
    (ap pairs_of (c.in_ok-push.ensures.items ∙ ap (λ (l : List (FoundMark MachineState)). l ++ found ∷ []) none))
