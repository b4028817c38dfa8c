use Rattle.std.proofs.Common.{◌≡◌, ◌≢◌, ◌∙◌, ◌+◌, ◌-◌, ◌/◌, ◌<◌, ℕ, List, sym, arith, length, refl, subst}
use Rattle.std.specs.Ordering.{nat_cmp}
use Rattle.std.specs.Cmp.Lexicographic.{slice_cmp}
use Rattle.std.specs.declared.cmp.Ordering.TheVariants.{Less}
use Rattle.std.proofs.lemmas.Option.{slice_get_read}
use Rattle.sched_core.proofs.BagLemmas.{is_less, isnt_less, before_still, behind_still}
use Rattle.sched_core.proofs.bag.place_among.Goals as goal

pub loop-low-preserved-then-is_before : goal.loop-low-preserved-then-is_before
loop-low-preserved-then-is_before c =
    let half = (c.loop-low.high - c.loop-low.low) / 2 in
    let middle = c.loop-low.low + half in
    let less : middle < c.loop-low.high = omega (arith, c.loop-low-test.true) in
    let there = slice_get_read c.args.lines.now (length c.args.lines.now) middle c.index-lines-middle.result refl (omega (arith, less, c.loop-low.invariant.1)) c.index-lines-middle.is in (
      omega arith,
      omega (arith, less, c.loop-low.invariant.1),
      c.loop-low.invariant.2,
      before_still c.args.line.now c.index-lines-middle.result c.args.lines.now middle c.requires there
          (subst (λ (x : List ℕ). slice_cmp nat_cmp c.args.line.now x ≡ Less) c.as_bytes.ensures
          (is_less c.args.line.now c.as_bytes.result.now (sym c.is_before.ensures ∙ c.if-is_before.true))),
    )

pub loop-low-preserved : goal.loop-low-preserved
loop-low-preserved c =
    let half = (c.loop-low.high - c.loop-low.low) / 2 in
    let middle = c.loop-low.low + half in
    let less : middle < c.loop-low.high = omega (arith, c.loop-low-test.true) in
    let there = slice_get_read c.args.lines.now (length c.args.lines.now) middle c.index-lines-middle.result refl (omega (arith, less, c.loop-low.invariant.1)) c.index-lines-middle.is in (
      omega (arith, less),
      c.loop-low.invariant.1,
      (λ j other lt. behind_still c.args.line.now c.index-lines-middle.result c.args.lines.now middle c.requires there
          (subst (λ (x : List ℕ). slice_cmp nat_cmp c.args.line.now x ≢ Less) c.as_bytes.ensures
          (isnt_less c.args.line.now c.as_bytes.result.now (sym c.is_before.ensures ∙ c.if-is_before.false)))
          j other (omega (arith, lt))),
      c.loop-low.invariant.3,
    )
