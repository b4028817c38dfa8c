use Rattle.std.proofs.Common.{arith, refl}
use Rattle.std.proofs.lemmas.List.{drop_all}
use Rattle.std.proofs.lemmas.Result.{err_from_is_err_and}
use Rattle.report_text.specs.ReportText.{line_race_text, line_races_text}
use Rattle.vreport.proofs.WriteLemmas.{items_first, items_on, items_over, items_stop}
use Rattle.vreport.proofs.write.put_line_races.Goals as goal

pub loop-race-init : goal.loop-race-init
loop-race-init g c = items_first g.O.ByteSink.takes g.O.ByteSink.fails g.met.O.ByteSink.lawful line_race_text line_races_text (λ x xs. refl) c.args.races.now c.args.byte_sink.now

pub returns-in_err-put_made-clause-err : goal.returns-in_err-put_made-clause-err
returns-in_err-put_made-clause-err g c =
    let p = err_from_is_err_and c.from_residual.result c.from_residual.ensures.1 in
    rw (p.1, p.2) (let text = line_race_text c.race-item.result in
    items_stop g.O.ByteSink.takes g.O.ByteSink.fails g.met.O.ByteSink.lawful line_race_text line_races_text (λ x xs. refl) c.args.races.now c.loop-race.race-index c.race-item.result text c.args.byte_sink.now c.loop-race.byte_sink c.put_made.new.byte_sink c.in_err-put_made.field-0.0
    c.race-item.is c.loop-race-test.true refl c.loop-race.invariant (c.in_err-put_made.ensures.err text c.line_race_lines.ensures))

pub loop-race-preserved : goal.loop-race-preserved
loop-race-preserved g c =
    let text = line_race_text c.race-item.result in
    items_on g.O.ByteSink.takes g.O.ByteSink.fails g.met.O.ByteSink.lawful line_race_text line_races_text (λ x xs. refl) c.args.races.now c.loop-race.race-index c.race-item.result text c.args.byte_sink.now c.loop-race.byte_sink c.put_made.new.byte_sink
    c.race-item.is c.loop-race-test.true refl c.loop-race.invariant (c.in_ok-put_made.ensures.ok text c.line_race_lines.ensures)

pub returns-clause-ok : goal.returns-clause-ok
returns-clause-ok g c =
    items_over g.O.ByteSink.takes g.O.ByteSink.fails g.met.O.ByteSink.lawful line_race_text line_races_text (λ x xs. refl) refl c.args.races.now c.loop-race.race-index c.args.byte_sink.now c.loop-race.byte_sink
    (drop_all c.loop-race.race-index c.args.races.now (omega (arith, c.loop-race-test.false))) c.loop-race.invariant
