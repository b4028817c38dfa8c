use Rattle.std.proofs.Common.{ℕ, List, sym, subst}
use Rattle.basis.proofs.Results.{on_ok}
use Rattle.explore.specs.Found.{AreFound}
use Rattle.explore.specs.BookFindings.{ListsExactly}
use Rattle.explore.specs.Ranked.{pairs_of}
use Rattle.explore.specs.Inner.RankedSearches.{HasClosed, HasHandedOn}
use Rattle.explore.proofs.RankedLemmas.{closes_rank, rank_entries}
use Rattle.explore.proofs.RankLoopLemmas.{collected_more, stays_so}
use Rattle.explore.proofs.ranked.hand_on.Goals as goal

pub list_marks-requires-after_bounds : goal.list_marks-requires-after_bounds
list_marks-requires-after_bounds g c κs within = rank_entries (g.P.Space.rules c.args.space.now) c.args.limits.now (g.P.Ranked.ranks c.args.space.now) c.args.search.now.current c.requires.searching.held.current

pub returns-in_err-listed-clause-kept : goal.returns-in_err-listed-clause-kept
returns-in_err-listed-clause-kept g c = stays_so g.C.Collector.collects c.args.collector.now c.from_residual.result

pub returns-in_err-marks-clause-kept : goal.returns-in_err-marks-clause-kept
returns-in_err-marks-clause-kept g c = stays_so g.C.Collector.collects c.args.collector.now c.from_residual-in_err-marks.result

pub returns-clause-closed : goal.returns-clause-closed
returns-clause-closed g c =
    let r = g.P.Space.rules c.args.space.now in
    let rank = g.P.Ranked.ranks c.args.space.now in
    let least = c.args.search.now.current.rank in
    let marks = pairs_of c.in_ok-marks.marks.items in
    let Found : List (g.row.P-State.Denot × List (ℕ × ℕ)) → Type 0 = λ l. AreFound r c.args.limits.now l in
    let Lists : List (g.row.P-State.Denot × List (ℕ × ℕ)) → Type 0 = λ l. ListsExactly r c.args.search.now.current.book l in
    on_ok c.collect.result
    (collected_more g.C.Collector.collects (HasHandedOn r c.args.limits.now rank least) (HasClosed r c.args.limits.now rank least) c.args.collector.now c.collect.new.self
    (record { rank = least; marks = marks })
    (λ closings so_far. closes_rank r (g.met.P.Space.lawful c.args.space.now) c.args.limits.now rank (g.met.P.Ranked.ranked c.args.space.now) c.args.search.now marks closings c.requires.searching c.requires.all
    (subst Found (sym c.in_ok-marks.ensures) c.in_ok-listed.ensures.found) (subst Lists (sym c.in_ok-marks.ensures) c.in_ok-listed.ensures.read) so_far))
    c.collect.ensures.ok
