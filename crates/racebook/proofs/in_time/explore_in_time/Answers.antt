use Rattle.explore.specs.Ranked.{pairs_of}
use Rattle.racebook.proofs.InTimeLemmas.{handed_so, told}
use Rattle.racebook.proofs.in_time.explore_in_time.Goals as goal

pub returns : goal.returns
returns g c =
    let setting = c.args.machine.now in
    let law = c.machine_law.ensures in
    let slots = c.explore_ranked-search.new.collector in
    let hands = handed_so setting c.args.limits.now c.new-slots.result slots c.explore_ranked-search.result c.new-slots.ensures.machine c.new-slots.ensures.none c.explore_ranked-search.ensures.handed in
    let t = told setting (law.same setting) (law.stands setting) (law.runs setting) (law.runs_back setting) (law.mark setting) (c.run_law.ensures.values setting) (law.rank setting) (law.one setting)
    c.args.limits.now slots.races.items slots.line_races.items (pairs_of slots.ends.items) c.explore_ranked-search.result hands in
    record {
      found = t.found;
      closed = t.closed;
      exhausted = t.exhausted;
      fewest = t.fewest;
      order = t.order;
      values = t.values;
      lines_found = t.lines_found;
      lines_closed = t.lines_closed;
      lines_exhausted = t.lines_exhausted;
      lines_fewest = t.lines_fewest;
      lines_order = t.lines_order;
      lines_sides = t.lines_sides;
      ends_found = t.ends_found;
      ends_closed = t.ends_closed;
      ends_exhausted = t.ends_exhausted;
      ends_fewest = t.ends_fewest;
      of_closed = record { races = t.races_of_closed; line_races = t.lines_of_closed; ends = t.ends_of_closed };
      entries = c.explore_ranked-search.ensures.entries;
      steps = c.explore_ranked-search.ensures.steps;
      stopped = c.explore_ranked-search.ensures.stopped;
    }
