use Rattle.std.proofs.Common.{◌≡◌, ℕ, ◌+◌, ◌-◌, ◌/◌, ◌^◌, ◌∷◌, take, count_ones, bit_and, w64, sym, subst, arith}
use Rattle.std.proofs.lemmas.Nat.Bits.{bit_at_clear_same, bit_at_clear_other}
use Rattle.vmodel.specs.Queue.{Later}
use Rattle.vstrata.specs.Marks.{AreMarks, IsRing}
use Rattle.vmodel.specs.Inner.{place_of_time}
use Rattle.vstrata.proofs.MarkLemmas.{near_behind, kept_marks}
use Rattle.vstrata.proofs.ring_times.marks_after.Goals as goal

pub overflow_sub-from : goal.overflow_sub-from
overflow_sub-from c =
    let ring = subst (λ (e : ℕ × Later). IsRing c.args.now c.args.near (e ∷ c.args.entries.now.items)) (sym c.first.view_is) c.requires in
    omega (arith, near_behind c.args.now c.args.near _ c.args.entries.now.items ring c.ranges.near.fits (omega (arith, c.if-step-ge64.false)))

pub marked_from-requires-2-clause-marks : goal.marked_from-requires-2-clause-marks
marked_from-requires-2-clause-marks c =
    let items = c.args.entries.now.items in
    let shifted = c.args.near / 2 ^ (c.first.inside.time - c.args.now) in
    let kept = bit_and shifted 18446744073709551614 in
    let ring = subst (λ (e : ℕ × Later). IsRing c.args.now c.args.near (e ∷ items)) (sym c.first.view_is) c.requires in
    let from : count_ones c.args.near - 1 ≡ place_of_time (c.args.now + 64) items =
    omega (arith, near_behind c.args.now c.args.near _ items ring c.ranges.near.fits (omega (arith, c.if-step-ge64.false))) in
    subst (λ (n : ℕ). AreMarks kept c.first.inside.time (take n items)) (sym from)
    (kept_marks c.args.now c.args.near _ items ring c.ranges.near.fits kept (omega (arith, c.if-step-ge64.false))
    (bit_at_clear_same w64 shifted 0 (omega arith))
    (λ k within later. bit_at_clear_other w64 shifted 0 (omega arith) k within later))
