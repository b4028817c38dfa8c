use Rattle.std.proofs.Common.{subst, ◌∙◌}
use Rattle.race_groups.specs.Inner.{AreTold}
use Rattle.race_groups.specs.Tracing.{Tracing}
use Rattle.race_groups.proofs.FoundLemmas.{handed_so, is_told, kept_so}
use Rattle.race_groups.proofs.find.find_races.Goals as goal

pub returns : goal.returns
unfolding handed_so
returns g c =
    let setting = c.args.machine.now in
    let scope = c.args.scope.now in
    let law = c.machine_law.ensures in
    let kept = c.explore_ranked-search.new.collector in
    let findings = c.explore_ranked-search.result in
    let handed = c.explore_ranked-search.ensures.handed in
    let groups = c.in_ok-groups.field-0.groups.items in
    let told = c.in_ok-groups.field-0.cut_ends.items in
    let tells = subst (λ (t : Tracing). AreTold t kept groups) (handed.collected.traced
    ∙ c.new-found.ensures.traced) c.in_ok-groups.ensures.groups in
    let hands = handed_so setting c.args.limits.now scope c.new-found.result kept findings groups tells c.new-found.ensures.traced
    c.new-found.ensures.scope c.new-found.ensures.none handed in
    let keeps = kept_so setting c.args.limits.now scope c.new-found.result kept findings c.new-found.ensures.traced
    c.new-found.ensures.scope c.new-found.ensures.none handed in
    let t = is_told setting (law.same setting) (law.stands setting) (law.runs setting) (law.runs_back setting) (law.mark setting)
    (c.run_law.ensures.values setting) (law.rank setting) (law.width setting) (law.after setting) (c.run_law.ensures.one_way setting)
    c.args.limits.now scope kept findings groups tells hands keeps.cuts keeps.unended told c.in_ok-groups.ensures.cut_ends in
    record {
      cause = t.cause;
      no_cause = t.no_cause;
      first = t.first;
      log = t.log;
      all = t.all;
      all_exhausted = t.all_exhausted;
      none = t.none;
      none_exhausted = t.none_exhausted;
      ends = t.ends;
      ends_exhausted = t.ends_exhausted;
      cut_ends = t.cut_ends;
      no_cut_ends = t.no_cut_ends;
      no_cut_ends_exhausted = t.no_cut_ends_exhausted;
      in_time = t.in_time;
      closed = t.closed;
      closed_time = t.closed_time;
      no_end = t.no_end;
      no_end_exhausted = t.no_end_exhausted;
      cuts = t.cuts;
      cuts_exhausted = t.cuts_exhausted;
      entries = c.explore_ranked-search.ensures.entries;
      steps = c.explore_ranked-search.ensures.steps;
      stopped = c.explore_ranked-search.ensures.stopped;
    }
