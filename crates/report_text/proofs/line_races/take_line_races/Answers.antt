use Rattle.std.proofs.Common.{◌≡◌, ◌+◌, ◌++◌, ◌∷◌, [], ◌∙◌, ap, sym, arith, length, length-append}
use Rattle.report_text.specs.ReportText.{line_race_text}
use Rattle.report_text.specs.WellFormed.{IsLineRaceBefore}
use Rattle.report_text.specs.Inner.LineRaces.{IsCountedLines}
use Rattle.report_text.proofs.ListLemmas.{has_all, has_lost}
use Rattle.report_text.proofs.FollowLemmas.{follow_step}
use Rattle.report_text.proofs.LineRaceLemmas.{line_race_trans, line_races_spelled}
use Rattle.report_text.proofs.line_races.take_line_races.Goals as goal

pub loop-place-preserved : goal.loop-place-preserved
loop-place-preserved c =
    let l : length c.push.new.self.items ≡ length c.loop-place.races.items + 1 = ap length c.in_ok-push.ensures.items ∙ length-append c.loop-place.races.items (c.in_ok-race.race ∷ []) in
    record {
      read = rw c.in_ok-push.ensures.items
          (follow_step line_race_text IsCountedLines IsLineRaceBefore line_race_trans c.args.count c.args.reader.now c.loop-place.reader c.take_line_race.new.reader c.require.new.self c.loop-place.races.items c.in_ok-race.race c.may_follow_line_race.result
          c.loop-place.invariant.read (omega (arith, c.loop-place.invariant.len, c.loop-place-test.true)) c.in_ok-race.ensures.read c.in_ok-race.ensures.each (rw c.deref.ensures.value at c.may_follow_line_race.ensures) c.require.ensures.ok c.require.ensures.rest);
      len = omega (arith, l, c.loop-place.invariant.len);
    }

pub returns-then-not-is_ok-clause-each : goal.returns-then-not-is_ok-clause-each
returns-then-not-is_ok-clause-each c = λ all rest ok h.
    absurd (has_lost line_race_text IsCountedLines IsLineRaceBefore c.args.count c.args.reader.now c.require.new.self (c.loop-place.races.items ++ c.in_ok-race.race ∷ [])
    (follow_step line_race_text IsCountedLines IsLineRaceBefore line_race_trans c.args.count c.args.reader.now c.loop-place.reader c.take_line_race.new.reader c.require.new.self c.loop-place.races.items c.in_ok-race.race c.may_follow_line_race.result
    c.loop-place.invariant.read (omega (arith, c.loop-place.invariant.len, c.loop-place-test.true)) c.in_ok-race.ensures.read c.in_ok-race.ensures.each (rw c.deref.ensures.value at c.may_follow_line_race.ensures) c.require.ensures.ok c.require.ensures.rest)
    (sym c.is_ok.ensures ∙ c.if-not-is_ok.true) all rest ok h.0 h.1 (h.2 ∙ ap (λ t. t ++ rest) (sym (line_races_spelled all))))

pub returns-clause-read : goal.returns-clause-read
returns-clause-read c = λ ok.
    let s = c.loop-place.invariant.read.sound ok in
    let n : length c.loop-place.races.items ≡ c.args.count = omega (arith, c.loop-place.invariant.len, c.loop-place-test.false, c.loop-place.auto.place-end) in
    (s.0, (s.1.0, n, s.1.1 ∙ ap (λ t. t ++ c.loop-place.reader.rest) (line_races_spelled c.loop-place.races.items)))

pub returns-clause-each : goal.returns-clause-each
returns-clause-each c = λ all rest ok h.
    let l : length c.loop-place.races.items ≡ c.args.count = omega (arith, c.loop-place.invariant.len, c.loop-place-test.false, c.loop-place.auto.place-end) in
    has_all line_race_text IsCountedLines IsLineRaceBefore c.args.count c.args.reader.now c.loop-place.reader c.loop-place.races.items c.loop-place.invariant.read l all rest ok h.0 h.1
    (h.2 ∙ ap (λ t. t ++ rest) (sym (line_races_spelled all)))
