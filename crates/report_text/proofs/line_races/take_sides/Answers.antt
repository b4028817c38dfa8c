use Rattle.std.proofs.Common.{◌≡◌, ◌+◌, ◌++◌, ◌∷◌, [], ◌∙◌, ap, sym, arith, length, length-append}
use Rattle.report_text.specs.ReportText.{side_text}
use Rattle.report_text.specs.Inner.LineRaces.{IsSide, IsSideBefore}
use Rattle.report_text.proofs.ListLemmas.{has_all, has_lost}
use Rattle.report_text.proofs.FollowLemmas.{follow_step}
use Rattle.report_text.proofs.LineRaceLemmas.{side_trans, sides_spelled}
use Rattle.report_text.proofs.line_races.take_sides.Goals as goal

pub loop-place-preserved : goal.loop-place-preserved
loop-place-preserved c =
    let l : length c.push.new.self.items ≡ length c.loop-place.sides.items + 1 = ap length c.in_ok-push.ensures.items ∙ length-append c.loop-place.sides.items (c.in_ok-side.side ∷ []) in
    record {
      read = rw c.in_ok-push.ensures.items
          (follow_step side_text IsSide IsSideBefore side_trans c.args.count c.args.reader.now c.loop-place.reader c.take_side.new.reader c.require.new.self c.loop-place.sides.items c.in_ok-side.side c.may_follow_side.result
          c.loop-place.invariant.read (omega (arith, c.loop-place.invariant.len, c.loop-place-test.true)) c.in_ok-side.ensures.read c.in_ok-side.ensures.each (rw c.deref.ensures.value at c.may_follow_side.ensures) c.require.ensures.ok c.require.ensures.rest);
      len = omega (arith, l, c.loop-place.invariant.len);
    }

pub returns-then-not-is_ok-clause-each : goal.returns-then-not-is_ok-clause-each
returns-then-not-is_ok-clause-each c = λ all rest ok h.
    absurd (has_lost side_text IsSide IsSideBefore c.args.count c.args.reader.now c.require.new.self (c.loop-place.sides.items ++ c.in_ok-side.side ∷ [])
    (follow_step side_text IsSide IsSideBefore side_trans c.args.count c.args.reader.now c.loop-place.reader c.take_side.new.reader c.require.new.self c.loop-place.sides.items c.in_ok-side.side c.may_follow_side.result
    c.loop-place.invariant.read (omega (arith, c.loop-place.invariant.len, c.loop-place-test.true)) c.in_ok-side.ensures.read c.in_ok-side.ensures.each (rw c.deref.ensures.value at c.may_follow_side.ensures) c.require.ensures.ok c.require.ensures.rest)
    (sym c.is_ok.ensures ∙ c.if-not-is_ok.true) all rest ok h.0 h.1 (h.2 ∙ ap (λ t. t ++ rest) (sym (sides_spelled all))))

pub returns-clause-read : goal.returns-clause-read
returns-clause-read c = λ ok.
    let s = c.loop-place.invariant.read.sound ok in
    let n : length c.loop-place.sides.items ≡ c.args.count = omega (arith, c.loop-place.invariant.len, c.loop-place-test.false, c.loop-place.auto.place-end) in
    (s.0, (s.1.0, n, s.1.1 ∙ ap (λ t. t ++ c.loop-place.reader.rest) (sides_spelled c.loop-place.sides.items)))

pub returns-clause-each : goal.returns-clause-each
returns-clause-each c = λ all rest ok h.
    let l : length c.loop-place.sides.items ≡ c.args.count = omega (arith, c.loop-place.invariant.len, c.loop-place-test.false, c.loop-place.auto.place-end) in
    has_all side_text IsSide IsSideBefore c.args.count c.args.reader.now c.loop-place.reader c.loop-place.sides.items c.loop-place.invariant.read l all rest ok h.0 h.1
    (h.2 ∙ ap (λ t. t ++ rest) (sym (sides_spelled all)))
