use Rattle.std.proofs.Common.{◌≡◌, ◌+◌, ◌++◌, ◌∷◌, [], ◌∙◌, ap, sym, arith, length, length-append}
use Rattle.report_text.specs.Inner.Races.{shown_line, IsShown, IsShownBefore}
use Rattle.report_text.proofs.ListLemmas.{has_all, has_lost}
use Rattle.report_text.proofs.FollowLemmas.{follow_step}
use Rattle.report_text.proofs.RaceLemmas.{shown_trans, values_spelled}
use Rattle.report_text.proofs.races.take_values.Goals as goal

pub loop-place-preserved : goal.loop-place-preserved
loop-place-preserved c =
    let l : length c.push.new.self.items ≡ length c.loop-place.values.items + 1 = ap length c.in_ok-push.ensures.items ∙ length-append c.loop-place.values.items (c.in_ok-race_value.race_value ∷ []) in
    record {
      read = rw c.in_ok-push.ensures.items
          (follow_step shown_line (IsShown c.args.width) IsShownBefore shown_trans c.args.count c.args.reader.now c.loop-place.reader c.take_race_value.new.reader c.require.new.self c.loop-place.values.items c.in_ok-race_value.race_value c.may_follow_value.result
          c.loop-place.invariant.read (omega (arith, c.loop-place.invariant.len, c.loop-place-test.true)) c.in_ok-race_value.ensures.read c.in_ok-race_value.ensures.each (rw c.deref.ensures.value at c.may_follow_value.ensures) c.require.ensures.ok c.require.ensures.rest);
      len = omega (arith, l, c.loop-place.invariant.len);
    }

pub returns-then-not-is_ok-clause-each : goal.returns-then-not-is_ok-clause-each
returns-then-not-is_ok-clause-each c = λ all rest ok h n e.
    absurd (has_lost shown_line (IsShown c.args.width) IsShownBefore c.args.count c.args.reader.now c.require.new.self (c.loop-place.values.items ++ c.in_ok-race_value.race_value ∷ [])
    (follow_step shown_line (IsShown c.args.width) IsShownBefore shown_trans c.args.count c.args.reader.now c.loop-place.reader c.take_race_value.new.reader c.require.new.self c.loop-place.values.items c.in_ok-race_value.race_value c.may_follow_value.result
    c.loop-place.invariant.read (omega (arith, c.loop-place.invariant.len, c.loop-place-test.true)) c.in_ok-race_value.ensures.read c.in_ok-race_value.ensures.each (rw c.deref.ensures.value at c.may_follow_value.ensures) c.require.ensures.ok c.require.ensures.rest)
    (sym c.is_ok.ensures ∙ c.if-not-is_ok.true) all rest ok h n (e ∙ ap (λ t. t ++ rest) (sym (values_spelled all))))

pub returns-clause-read : goal.returns-clause-read
returns-clause-read c = λ ok.
    let s = c.loop-place.invariant.read.sound ok in
    let n : length c.loop-place.values.items ≡ c.args.count = omega (arith, c.loop-place.invariant.len, c.loop-place-test.false, c.loop-place.auto.place-end) in
    (s.0, (s.1.0, n, s.1.1 ∙ ap (λ t. t ++ c.loop-place.reader.rest) (values_spelled c.loop-place.values.items)))

pub returns-clause-each : goal.returns-clause-each
returns-clause-each c = λ all rest ok h n e.
    let l : length c.loop-place.values.items ≡ c.args.count = omega (arith, c.loop-place.invariant.len, c.loop-place-test.false, c.loop-place.auto.place-end) in
    has_all shown_line (IsShown c.args.width) IsShownBefore c.args.count c.args.reader.now c.loop-place.reader c.loop-place.values.items c.loop-place.invariant.read l all rest ok h n
    (e ∙ ap (λ t. t ++ rest) (sym (values_spelled all)))
