use Rattle.std.proofs.Common.{◌≡◌, refl, true}
use Rattle.explore.specs.Inner.Exploring.{AllFinished}
use Rattle.explore.proofs.AloneLemmas.{Left, complete, cut_steps, exhausted, fewest, has_entries, root_is_bounded, stopped, tells_of_book, through_value}
use Rattle.explore.proofs.alone.explore_alone.Given.{Over}
use Rattle.explore.proofs.alone.explore_alone.Goals as goal

pub visit_all-visited-requires-clause-bounded : goal.visit_all-visited-requires-clause-bounded
visit_all-visited-requires-clause-bounded g c = λ κs within.
    root_is_bounded (g.P.Space.rules c.args.space.now) c.args.limits.now c.in_ok-search.search.book c.in_ok-search.ensures.searching.under_way c.in_ok-search.ensures.alone c.args.limits.now.within.some_entries

pub status_of-status-requires : goal.status_of-status-requires
status_of-status-requires g c = λ is.
    complete (g.P.Space.rules c.args.space.now) c.args.limits.now c.visit_all-visited.new.search.book c.visit_all-visited.ensures.searching.under_way
    (through_value c.visit_all-visited.result true (λ within. within ≡ true → AllFinished c.visit_all-visited.new.search.book) is c.visit_all-visited.ensures.finished refl)

-- what the search left, and how it ended
left : (g : Over) (c : goal.In_ok-marks g) → Left (g.P.Space.rules c.args.space.now) c.args.limits.now g.P.State.PartialEq.eq c.visit_all-visited.new.search.book c.visit_all-visited.result c.status_of-status.result
left g c =
    record {
      under_way = c.visit_all-visited.ensures.searching.under_way;
      paired = c.into_marks.ensures.paired;
      apart = c.into_marks.ensures.apart;
      agree = g.met.P.Space.same_is_eq c.args.space.now;
      bounded = c.visit_all-visited.ensures.bounded;
      visited_all = c.visit_all-visited.ensures.all;
      past = c.visit_all-visited.ensures.past;
      full = c.visit_all-visited.ensures.full;
      exhausted = c.status_of-status.ensures.exhausted;
      entries = c.status_of-status.ensures.entries;
      steps = c.status_of-status.ensures.steps;
    }

pub returns-clause-exhausted : goal.returns-clause-exhausted
returns-clause-exhausted g c = λ t.
    exhausted (g.P.Space.rules c.args.space.now) (g.met.P.Space.lawful c.args.space.now) c.args.limits.now c.visit_all-visited.new.search.book c.in_ok-marks.marks.entries
    c.visit_all-visited.ensures.searching.under_way (c.status_of-status.ensures.closed t) c.in_ok-marks.ensures.read

pub returns-clause-fewest : goal.returns-clause-fewest
returns-clause-fewest g c = λ t.
    fewest (g.P.Space.rules c.args.space.now) (g.met.P.Space.lawful c.args.space.now) c.args.limits.now c.visit_all-visited.new.search.book c.in_ok-marks.marks.entries
    c.visit_all-visited.ensures.searching.under_way (c.status_of-status.ensures.closed t) c.in_ok-marks.ensures.found c.in_ok-marks.ensures.read

pub returns-clause-entries : goal.returns-clause-entries
returns-clause-entries g c = λ t.
    let h = left g c in
    has_entries (g.P.Space.rules c.args.space.now) c.args.limits.now g.P.State.PartialEq.eq h.agree c.visit_all-visited.new.search.book h.under_way h.apart (stopped c.visit_all-visited.result (c.status_of-status.ensures.entries t) h.full)

pub returns-clause-steps : goal.returns-clause-steps
returns-clause-steps g c =
    cut_steps (g.P.Space.rules c.args.space.now) (g.met.P.Space.lawful c.args.space.now) c.args.limits.now g.P.State.PartialEq.eq c.visit_all-visited.new.search.book c.visit_all-visited.result _ (left g c)

pub returns-clause-book : goal.returns-clause-book
returns-clause-book g c = tells_of_book (g.P.Space.rules c.args.space.now) c.args.limits.now g.P.State.PartialEq.eq c.visit_all-visited.new.search.book c.visit_all-visited.result _ (left g c) c.in_ok-marks.ensures.read
