use Rattle.std.proofs.Common.{ap, ◌∙◌}
use Rattle.racebook.specs.LineRaces as lines
use Rattle.vreport.specs.Inner.{HasTimeAndSideLogs}
use Rattle.vreport.specs.Reports.{report_line_race}
use Rattle.vreport.proofs.MappedLemmas.{mapped_more}
use Rattle.vreport.proofs.report.report_line_races.Goals as goal

pub loop-race-preserved : goal.loop-race-preserved
loop-race-preserved c =
    let sides = c.in_ok-sides_of.ensures.same ∙ c.deref.ensures.value ∙ ap (λ (race : lines.LineRace). race.sides) c.race.view_is in
    mapped_more report_line_race HasTimeAndSideLogs c.loop-race.listed.items c.push.new.self.items c.args.races.now c.loop-race.race-index c.race-item.result _ c.race-item.is c.loop-race-test.true
    c.in_ok-push.ensures.items (λ i. record { time = c.time_of_lines.ensures.same i; sides = sides i }) (c.time_of_lines.ensures.bits, c.in_ok-sides_of.ensures.logs)
    c.loop-race.invariant
