use Rattle.std.proofs.Common.{◌≡◌, ◌<◌, subst, arith}
use Rattle.statebook.specs.ExplorerCore.{choices_of}
use Rattle.statebook.specs.declared.entry.Entry.{Entry}
use Rattle.explore.proofs.VisitLemmas.{place_within, still_there}
use Rattle.explore.proofs.RankedLemmas.{led_on, met_next, rank_grows_on}
use Rattle.explore.proofs.ranked_visit.visit_entry.Goals as goal

pub keep_choice-requires-clause-place : goal.keep_choice-requires-clause-place
keep_choice-requires-clause-place g c κs within =
    let growth = (c.loop-choice.invariant.grows c.read.result.now c.read.ensures).current in
    place_within c.args.search.now.current.book c.loop-choice.search.current.book c.read.result.now.budget c.args.place c.read.result.now growth c.read.ensures

pub keep_choice-requires-clause-choice : goal.keep_choice-requires-clause-choice
keep_choice-requires-clause-choice g c κs within = λ e at.
    let growth = (c.loop-choice.invariant.grows c.read.result.now c.read.ensures).current in
    let same : c.read.result.now ≡ e = still_there c.args.search.now.current.book c.loop-choice.search.current.book c.read.result.now.budget c.args.place c.read.result.now e growth c.read.ensures at in
    let P : Entry g.row.P-State.Denot → Type 0 = λ x. c.loop-choice.choice < choices_of ((g.P.Space.rules c.args.space.now).width x.state) x.budget in
    subst P same (omega (arith, c.loop-choice-test.true, c.choice_count-count.ensures))

pub loop-choice-preserved : goal.loop-choice-preserved
loop-choice-preserved g c =
    let r = g.P.Space.rules c.args.space.now in
    let i = c.loop-choice.invariant in
    let now = c.in_ok-keep_choice.ensures in
    record {
      searching = now.searching;
      grows = rank_grows_on c.args.search.now c.loop-choice.search c.keep_choice.new.search c.args.place i.grows now.grows;
      met = met_next r c.args.search.now c.loop-choice.search c.keep_choice.new.search c.args.place c.loop-choice.choice i.grows i.met now.grows now.met;
    }

pub returns-clause-leads : goal.returns-clause-leads
returns-clause-leads g c =
    led_on (g.P.Space.rules c.args.space.now) c.args.search.now c.loop-choice.search c.args.place c.loop-choice.choice c.read.result.now c.read.ensures c.loop-choice.invariant.grows c.loop-choice.invariant.met
    (omega (arith, c.choice_count-count.ensures, c.loop-choice-test.false, c.loop-choice.auto.choice-end))
