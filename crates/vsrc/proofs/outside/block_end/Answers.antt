use Rattle.std.proofs.Common.{◌≡◌, ◌+◌, ◌-◌, ◌≤◌, length, drop, arith, sym, ap, ◌∙◌}
use Rattle.std.proofs.lemmas.List.{length-drop}
use Rattle.vsrc.specs.Outside.{further, block_end}
use Rattle.vsrc.proofs.Stretches.{further_zero, block_at_mark, block_at_plain, block_at_end}
use Rattle.vsrc.proofs.outside.block_end.Goals as goal

pub loop-at-init : goal.loop-at-init
loop-at-init c = record { some = omega arith; within = omega arith; whole = further_zero (block_end c.args.text.now) }

pub loop-at-preserved : goal.loop-at-preserved
loop-at-preserved c =
    let same : c.loop-at.at + 1 - 1 ≡ c.loop-at.at = omega arith in
    record {
      some = omega arith;
      within = omega arith;
      whole = ap (λ n. further n (block_end (drop n c.args.text.now))) same
          ∙ sym (block_at_plain c.args.text.now c.loop-at.at c.loop-at.invariant.some c.loop-at-test.true (sym c.ends_block.ensures ∙ c.if-ends_block.false))
          ∙ c.loop-at.invariant.whole;
    }

pub returns-then-ends_block-clause-value : goal.returns-then-ends_block-clause-value
returns-then-ends_block-clause-value c =
    sym (block_at_mark c.args.text.now c.loop-at.at c.loop-at.invariant.some c.loop-at-test.true (sym c.ends_block.ensures ∙ c.if-ends_block.true))
    ∙ c.loop-at.invariant.whole

pub returns-clause-value : goal.returns-clause-value
returns-clause-value c =
    let left : length (drop (c.loop-at.at - 1) c.args.text.now) ≤ 1 = omega (arith, length-drop (c.loop-at.at - 1) c.args.text.now) in
    sym (ap (further (c.loop-at.at - 1)) (block_at_end (drop (c.loop-at.at - 1) c.args.text.now) left)) ∙ c.loop-at.invariant.whole
