use Rattle.std.proofs.Common.{ap, ◌∙◌, map}
use Rattle.racebook.specs.Races as found
use Rattle.vreport.specs.Inner.{HasTimeAndLogs}
use Rattle.vreport.specs.Reports.{report_race, report_value}
use Rattle.vreport.proofs.MappedLemmas.{mapped_more}
use Rattle.vreport.proofs.report.report_races.Goals as goal

pub loop-race-preserved : goal.loop-race-preserved
loop-race-preserved c =
    let variable = ap (λ (race : found.Race). race.variable) c.race.view_is in
    let values = c.in_ok-race_values_of.ensures.told ∙ ap (map report_value) c.deref.ensures.value ∙ ap (λ (race : found.Race). map report_value race.values) c.race.view_is in
    mapped_more report_race HasTimeAndLogs c.loop-race.listed.items c.push.new.self.items c.args.races.now c.loop-race.race-index c.race-item.result _ c.race-item.is c.loop-race-test.true
    c.in_ok-push.ensures.items (λ i. record { time = c.time_of.ensures.same i; variable = variable i; values = values i }) (c.time_of.ensures.bits, c.in_ok-race_values_of.ensures.logs)
    c.loop-race.invariant
