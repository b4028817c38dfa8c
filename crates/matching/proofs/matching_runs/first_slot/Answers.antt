use Rattle.std.proofs.Common.{None, refl}
use Rattle.matching.specs.Inner.Candidates.{EndsNear}
use Rattle.matching.specs.declared.search.Search.{Search}
use Rattle.matching.proofs.Ends.{opens_with}
use Rattle.matching.proofs.NearLemmas.{are_more, none_near}
use Rattle.matching.proofs.matching_runs.first_slot.Goals as goal

pub returns-clause-opens : goal.returns-clause-opens
returns-clause-opens g c =
    let old : Search g.row.P-State.Denot = record { time = c.args.time; candidates = c.new.result; ending = None; waiting = None } in
    opens_with (g.P.Space.rules c.args.space.now) (g.P.Ranked.ranks c.args.space.now) (g.R.Reference.piece c.args.reference.now).differ
    c.args.limits.now.depart c.args.start.now old c.search_slot.new.search
    c.new.ensures.empty c.in_ok-search_slot.ensures.extends c.in_ok-search_slot.ensures.ends

pub returns-clause-near : goal.returns-clause-near
returns-clause-near g c =
    let old : Search g.row.P-State.Denot = record { time = c.args.time; candidates = c.new.result; ending = None; waiting = None } in
    let P = EndsNear (g.P.Space.rules c.args.space.now) c.args.limits.now.depart c.args.start.now in
    are_more P P old c.search_slot.new.search (λ e h. h) (none_near P old refl refl) c.in_ok-search_slot.ensures.near
