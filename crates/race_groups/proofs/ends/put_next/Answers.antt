use Rattle.std.proofs.Common.{[], ◌∷◌, ◌∙◌, length, refl, sym, ap, append-nil, arith}
use Rattle.std.proofs.lemmas.List.{map-append}
use Rattle.explore.specs.declared.rank_marks.FoundMark.{FoundMark}
use Rattle.vmachine.specs.declared.machine_state.MachineState.{MachineState}
use Rattle.std.proofs.lemmas.Option.{slice_get_read}
use Rattle.std.proofs.lemmas.Result.{on_ok_weaker}
use Rattle.explore.specs.Ranked.{pairs_of}
use Rattle.race_groups.proofs.CutLemmas.{cuts_put, cuts_unlike, first_pair}
use Rattle.race_groups.proofs.SumLemmas.{grows_same, sums_full, sums_like_first, sums_second}
use Rattle.race_groups.proofs.ends.put_next.Goals as goal

pub returns-then-are_alike-clause-sums : goal.returns-then-are_alike-clause-sums
returns-then-are_alike-clause-sums c =
    let old = c.args.kept.now.items in
    let one = c.index.result.now in
    on_ok_weaker c.put_cut.result
    (λ puts. sums_like_first c.args.machine.now c.args.found old one
    (slice_get_read old (length old) 0 one refl (omega (arith, c.requires)) c.index.ensures) c.if-are_alike.ensures) c.put_cut.ensures.puts

pub returns-then-are_alike-clause-sums_cuts : goal.returns-then-are_alike-clause-sums_cuts
returns-then-are_alike-clause-sums_cuts c =
    let old = c.args.kept.now.items in
    let one = c.index.result.now in
    on_ok_weaker c.put_cut.result
    (cuts_put c.args.machine.now c.args.found (pairs_of old) one c.args.cuts.now.items c.put_cut.new.cuts.items
    (first_pair old one (slice_get_read old (length old) 0 one refl (omega (arith, c.requires)) c.index.ensures)) c.if-are_alike.ensures)
    c.put_cut.ensures.puts

pub returns-then-len-gt1-clause-sums : goal.returns-then-len-gt1-clause-sums
returns-then-len-gt1-clause-sums c =
    sums_full c.args.machine.now c.args.found c.args.kept.now.items
    (omega (arith, c.if-len-gt1.true, c.len.ensures, c.args.kept.now.ok.0))

pub returns-then-len-gt1-clause-sums_cuts : goal.returns-then-len-gt1-clause-sums_cuts
returns-then-len-gt1-clause-sums_cuts c =
    let old = c.args.kept.now.items in
    let one = c.index.result.now in
    cuts_unlike c.args.machine.now c.args.found (pairs_of old) (pairs_of old) [] (pairs_of c.args.cuts.now.items) (one.state, one.log)
    (sym (append-nil (pairs_of old)))
    (first_pair old one (slice_get_read old (length old) 0 one refl (omega (arith, c.requires)) c.index.ensures)) c.if-are_alike.ensures

pub returns-in_err-push-clause-grows : goal.returns-in_err-push-clause-grows
returns-in_err-push-clause-grows c = grows_same c.args.kept.now.items c.push.new.self.items c.in_err-push.ensures.items

pub returns-clause-sums : goal.returns-clause-sums
returns-clause-sums c =
    let old = c.args.kept.now.items in
    let one = c.index.result.now in
    sums_second c.args.machine.now c.args.found old c.push.new.self.items one
    (omega (arith, c.requires, c.if-len-gt1.false, c.len.ensures, c.args.kept.now.ok.0))
    (slice_get_read old (length old) 0 one refl (omega (arith, c.requires)) c.index.ensures) c.if-are_alike.ensures
    c.in_ok-push.ensures.items

pub returns-clause-sums_cuts : goal.returns-clause-sums_cuts
returns-clause-sums_cuts c =
    let old = c.args.kept.now.items in
    let one = c.index.result.now in
    let found = c.args.found in
    cuts_unlike c.args.machine.now found (pairs_of old) (pairs_of c.push.new.self.items) ((found.state, found.log) ∷ [])
    (pairs_of c.args.cuts.now.items) (one.state, one.log)
    (ap pairs_of c.in_ok-push.ensures.items ∙ map-append (λ (f : FoundMark MachineState). (f.state, f.log)) old (found ∷ []))
    (first_pair old one (slice_get_read old (length old) 0 one refl (omega (arith, c.requires)) c.index.ensures)) c.if-are_alike.ensures
