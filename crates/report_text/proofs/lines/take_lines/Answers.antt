use Rattle.std.proofs.Common.{◌≡◌, ◌+◌, ◌++◌, ◌∷◌, [], ◌∙◌, ap, sym, subst, arith, length, length-append}
use Rattle.report_text.specs.ReportText.{counted_text}
use Rattle.report_text.specs.Inner.Lines.{IsCountable, IsNotAfter}
use Rattle.report_text.proofs.ListLemmas.{HasRead, has_all, has_lost}
use Rattle.report_text.proofs.FollowLemmas.{follow_step}
use Rattle.report_text.proofs.BagLemmas.{not_after_trans, texts_spelled}
use Rattle.report_text.proofs.lines.take_lines.Goals as goal

pub push-requires : goal.push-requires
push-requires c =
    let read = follow_step counted_text IsCountable IsNotAfter not_after_trans c.args.count c.args.reader.now c.loop-place.reader c.take_text-line.new.reader c.require.new.self c.loop-place.bag c.take_text-line.result.now c.may_follow_line.result
    c.loop-place.invariant.read (omega (arith, c.loop-place.invariant.len, c.loop-place-test.true)) c.take_text-line.ensures.read c.take_text-line.ensures.each (rw c.as_slice.ensures at c.may_follow_line.ensures) c.require.ensures.ok c.require.ensures.rest in
    (read.sound (sym c.is_ok.ensures ∙ c.if-not-is_ok.false)).1.0.1

pub loop-place-preserved : goal.loop-place-preserved
loop-place-preserved c =
    let read = follow_step counted_text IsCountable IsNotAfter not_after_trans c.args.count c.args.reader.now c.loop-place.reader c.take_text-line.new.reader c.require.new.self c.loop-place.bag c.take_text-line.result.now c.may_follow_line.result
    c.loop-place.invariant.read (omega (arith, c.loop-place.invariant.len, c.loop-place-test.true)) c.take_text-line.ensures.read c.take_text-line.ensures.each (rw c.as_slice.ensures at c.may_follow_line.ensures) c.require.ensures.ok c.require.ensures.rest in
    let put = c.in_ok-push.ensures.ok in
    let l : length c.push.new.self ≡ length c.loop-place.bag + 1 = ap length put ∙ length-append c.loop-place.bag (c.take_text-line.result.now ∷ []) in
    record {
      read = subst (λ bag. HasRead counted_text IsCountable IsNotAfter c.args.count c.args.reader.now bag c.require.new.self) (sym put) read;
      len = omega (arith, l, c.loop-place.invariant.len);
    }

pub returns-then-not-is_ok-clause-each : goal.returns-then-not-is_ok-clause-each
returns-then-not-is_ok-clause-each c = λ all rest ok h.
    absurd (has_lost counted_text IsCountable IsNotAfter c.args.count c.args.reader.now c.require.new.self (c.loop-place.bag ++ c.take_text-line.result.now ∷ [])
    (follow_step counted_text IsCountable IsNotAfter not_after_trans c.args.count c.args.reader.now c.loop-place.reader c.take_text-line.new.reader c.require.new.self c.loop-place.bag c.take_text-line.result.now c.may_follow_line.result
    c.loop-place.invariant.read (omega (arith, c.loop-place.invariant.len, c.loop-place-test.true)) c.take_text-line.ensures.read c.take_text-line.ensures.each (rw c.as_slice.ensures at c.may_follow_line.ensures) c.require.ensures.ok c.require.ensures.rest)
    (sym c.is_ok.ensures ∙ c.if-not-is_ok.true) all rest ok h.0 h.1 (h.2 ∙ ap (λ t. t ++ rest) (sym (texts_spelled all))))

pub returns-clause-read : goal.returns-clause-read
returns-clause-read c = λ ok.
    let s = c.loop-place.invariant.read.sound ok in
    let n : length c.loop-place.bag ≡ c.args.count = omega (arith, c.loop-place.invariant.len, c.loop-place-test.false, c.loop-place.auto.place-end) in
    (s.0, (s.1.0, n, s.1.1 ∙ ap (λ t. t ++ c.loop-place.reader.rest) (texts_spelled c.loop-place.bag)))

pub returns-clause-each : goal.returns-clause-each
returns-clause-each c = λ all rest ok h.
    let l : length c.loop-place.bag ≡ c.args.count = omega (arith, c.loop-place.invariant.len, c.loop-place-test.false, c.loop-place.auto.place-end) in
    has_all counted_text IsCountable IsNotAfter c.args.count c.args.reader.now c.loop-place.reader c.loop-place.bag c.loop-place.invariant.read l all rest ok h.0 h.1
    (h.2 ∙ ap (λ t. t ++ rest) (sym (texts_spelled all)))
