use Rattle.std.proofs.Common.{◌≡◌, ℕ, suc, ◌≤◌, get_or, sym, ap, subst, arith}
use Rattle.vmodel.specs.Queue.{Later}
use Rattle.vstrata.proofs.MarkLemmas.{time_from, marks_all, marks_seen, marks_next}
use Rattle.vstrata.proofs.ring_times.marked_from.Goals as goal

pub overflow_sub-ahead : goal.overflow_sub-ahead
overflow_sub-ahead c =
    let after : suc c.args.time ≤ c.index-entry.result.now.0 =
    time_from (suc c.args.time) c.args.entries.now.items c.loop-place.place c.index-entry.result.now c.requires.rises
    (omega (arith, c.loop-place-test.true, c.len-count.ensures, c.args.entries.now.ok.0)) c.index-entry.ensures in
    omega (arith, after, ap (λ (e : ℕ × Later). e.0) c.entry.view_is)

pub returns-then-ahead-ge64 : goal.returns-then-ahead-ge64
returns-then-ahead-ge64 c =
    marks_seen c.args.time c.args.entries.now.items c.loop-place.place _ c.requires.rises
    (omega (arith, c.loop-place-test.true, c.len-count.ensures, c.args.entries.now.ok.0))
    (subst (λ (e : ℕ × Later). e ≡ get_or c.args.entries.now.items c.loop-place.place e) (sym c.entry.view_is) c.index-entry.ensures)
    c.loop-place.marks c.loop-place.invariant c.if-ahead-ge64.true

pub loop-place-preserved : goal.loop-place-preserved
loop-place-preserved c =
    marks_next c.args.time c.args.entries.now.items c.loop-place.place _ c.requires.rises
    (omega (arith, c.loop-place-test.true, c.len-count.ensures, c.args.entries.now.ok.0))
    (subst (λ (e : ℕ × Later). e ≡ get_or c.args.entries.now.items c.loop-place.place e) (sym c.entry.view_is) c.index-entry.ensures)
    c.loop-place.marks c.with_mark-marks.result c.loop-place.invariant c.with_mark-marks.ensures.this c.with_mark-marks.ensures.others

pub returns : goal.returns
returns c =
    marks_all c.loop-place.marks c.args.time c.loop-place.place c.args.entries.now.items c.loop-place.invariant
    (omega (arith, c.loop-place-test.false, c.len-count.ensures, c.args.entries.now.ok.0))
