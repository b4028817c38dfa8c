use Rattle.std.proofs.Common.{sym, ◌∙◌}
use Rattle.vvalue.specs.Cases.{matches}
use Rattle.vvalue.proofs.CaseLemmas.{passed, failed}
use Rattle.vvalue.proofs.cases.matches.Goals as goal

pub returns-then-not-passes : goal.returns-then-not-passes
unfolding matches
returns-then-not-passes c =
    failed c.args.kind c.loop-i.i c.args.value.letters c.args.item.letters c.bit.result c.bit-in-loop-i.result _
    c.bit.ensures c.bit-in-loop-i.ensures c.loop-i.invariant (sym c.passes.ensures ∙ c.if-not-passes.true)

pub loop-i-preserved : goal.loop-i-preserved
loop-i-preserved c =
    passed c.args.kind c.loop-i.i c.args.value.letters c.args.item.letters c.bit.result c.bit-in-loop-i.result _
    c.bit.ensures c.bit-in-loop-i.ensures c.loop-i.invariant (sym c.passes.ensures ∙ c.if-not-passes.false)
