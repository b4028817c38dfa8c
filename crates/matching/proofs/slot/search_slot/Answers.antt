use Rattle.std.proofs.Common.{refl, rules, sym, ◌∙◌}
use Rattle.explore.proofs.ListingLemmas.{on_ok}
use Rattle.matching.specs.Inner.FoundEnds.{ends_of}
use Rattle.matching.proofs.BudgetedRuns.{entries_forth, exceeds_forth}
use Rattle.matching.proofs.Cuts.{slot_reasons, stop_told}
use Rattle.matching.proofs.Ends.{ends_kept}
use Rattle.matching.proofs.FoundLemmas.{all_kept, ends_found, ends_listed}
use Rattle.matching.proofs.slot.search_slot.Goals as goal

pub meet_ends-requires-clause-found : goal.meet_ends-requires-clause-found
meet_ends-requires-clause-found g c κs within =
    let handed = c.explore_ranked-findings.ensures.handed in
    let now = c.explore_ranked-findings.new.collector in
    ends_found (g.P.Space.rules c.args.space.now) c.args.start.now.state c.args.limits.now handed.closings now.ends.items
    (all_kept c.new-found.result now handed.closings c.new-found.ensures handed.collected) handed.found

pub returns-clause-ends : goal.returns-clause-ends
returns-clause-ends g c =
    let r = g.P.Space.rules c.args.space.now in
    let start = c.args.start.now in
    let limits = c.args.limits.now in
    let handed = c.explore_ranked-findings.ensures.handed in
    let now = c.explore_ranked-findings.new.collector in
    let listed = ends_listed r start.state limits handed.closings now.ends.items
    (all_kept c.new-found.result now handed.closings c.new-found.ensures handed.collected) (handed.exhausted c.in_ok-whole.ensures.whole)
    in
    on_ok c.meet_ends.result (λ kept. ends_kept r (g.met.P.Space.lawful c.args.space.now)
    (g.R.Reference.piece c.args.reference.now).differ limits.depart start
    (ends_of now.ends.items) c.meet_ends.new.search.candidates.entries
    (λ s t e. g.met.R.Reference.alike c.args.reference.now s t (sym (g.met.P.Space.same_is_eq c.args.space.now s t) ∙ e)) listed kept)
    c.meet_ends.ensures.kept

pub returns-in_err-whole-clause-reason : goal.returns-in_err-whole-clause-reason
returns-in_err-whole-clause-reason g c =
    let r = g.P.Space.rules c.args.space.now in
    let start = c.args.start.now in
    let limits = c.args.limits.now in
    let told = slot_reasons r (g.met.P.Space.lawful c.args.space.now) limits start c.explore_ranked-findings.result.status _
    c.requires.start
    c.in_err-whole.ensures.entries c.in_err-whole.ensures.steps
    (λ is. entries_forth r start.state limits.depart limits refl (c.explore_ranked-findings.ensures.entries is))
    (λ is. exceeds_forth r start.state limits.depart limits (c.explore_ranked-findings.ensures.steps is)) in
    search rules

pub returns-in_err-whole-clause-stopped : goal.returns-in_err-whole-clause-stopped
returns-in_err-whole-clause-stopped g c =
    let told = stop_told (g.W.Watcher.stopped c.explore_ranked-findings.new.watcher) c.explore_ranked-findings.result.status _
    c.in_err-whole.ensures.stopped c.explore_ranked-findings.ensures.stopped in
    search rules
