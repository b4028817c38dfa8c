use Rattle.std.proofs.Common.{Option, Bor, option_map, sym, ap, ◌∙◌}
use Rattle.footprints.specs.declared.footprint.Footprint.{Footprint}
use Rattle.footprints.proofs.LatestLemmas.{both_there}
use Rattle.footprints.proofs.swap.put_both.Goals as goal

pub returns-in_ok-put-in-Some-clause-kept : goal.returns-in_ok-put-in-Some-clause-kept
returns-in_ok-put-in-Some-clause-kept c = λ n other reach. c.in_ok-put-in-Some.ensures.kept n other (c.in_ok-put.ensures.kept n other reach)

pub returns-in_ok-put-in-Some-clause-put : goal.returns-in_ok-put-in-Some-clause-put
returns-in_ok-put-in-Some-clause-put c =
    let visit = c.args.visit.now in
    both_there c.args.place c.put-in-Some.new.self c.args.run.now visit c.in-Some.footprint.now
    (sym c.footprint_of.ensures ∙ ap (λ (found : Option (Bor Footprint)). option_map (λ (one : Bor Footprint). one.now) found) c.in-Some.is)
    (c.in_ok-put-in-Some.ensures.kept c.args.place visit.footprint c.in_ok-put.ensures.put) c.in_ok-put-in-Some.ensures.put
