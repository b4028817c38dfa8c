use Rattle.std.proofs.Common.{◌∙◌, sym, arith}
use Rattle.vbits.specs.Equal.{vectors_tell}
use Rattle.vmodel.proofs.WakingLemmas.{got, set_same, differ_set}
use Rattle.vkernel.proofs.SumLemmas.{values_kept}
use Rattle.vkernel.proofs.values.Store.set.Goals as goal

pub returns-then-eq-clause-values : goal.returns-then-eq-clause-values
returns-then-eq-clause-values c =
    let values = c.self.inside.values.items in
    let old = c.index.result.now in
    rw (← c.self.view_is)
    (set_same values c.args.variable old c.args.new (got values c.args.variable old old (omega (arith, c.if-variable-len.false, c.len.ensures)) c.index.ensures)
    ((vectors_tell old c.args.new).0 (sym c.eq.ensures ∙ c.if-eq.true)))

pub returns-clause-change : goal.returns-clause-change
returns-clause-change c =
    let values = c.self.inside.values.items in
    let old = c.index.result.now in
    rw (← c.self.view_is)
    (differ_set values c.args.variable old c.args.new (got values c.args.variable old old (omega (arith, c.if-variable-len.false, c.len.ensures)) c.index.ensures))

pub invariant_of-self : goal.invariant_of-self
invariant_of-self c =
    let old = c.index.result.now in
    values_kept c.self.inside.values.items c.args.variable old c.args.new old c.self.inside.sum c.value_share.result c.value_share-2.result
    c.with_share-self-inside.result (omega (arith, c.if-variable-len.false, c.len.ensures)) c.index.ensures c.self.invariant c.value_share.ensures
    c.value_share-2.ensures c.with_share-self-inside.ensures
