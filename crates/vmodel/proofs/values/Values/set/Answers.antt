use Rattle.std.proofs.Common.{◌∙◌, sym, subst, List, arith}
use Rattle.std.specs.Prelude.{slice_set}
use Rattle.vbits.specs.Vectors.{Vector}
use Rattle.vbits.specs.Equal.{vectors_tell}
use Rattle.vmodel.specs.InnerWaking.{Differ}
use Rattle.vmodel.proofs.WakingLemmas.{got, set_same, differ_set}
use Rattle.vmodel.proofs.values.Values.set.Goals as goal

pub returns-then-eq-clause-change : goal.returns-then-eq-clause-change
returns-then-eq-clause-change c =
    let items = c.self.inside.list.items in
    let at = got items c.args.variable c.index.result.now _ (omega (arith, c.len.ensures, c.if-variable-len.false)) c.index.ensures in
    sym c.self.view_is
    ∙ set_same items c.args.variable c.index.result.now c.args.new at
    ((vectors_tell c.index.result.now c.args.new).0 (sym c.eq.ensures ∙ c.if-eq.true))

pub returns-clause-change : goal.returns-clause-change
returns-clause-change c =
    let items = c.self.inside.list.items in
    let at = got items c.args.variable c.index.result.now _ (omega (arith, c.len.ensures, c.if-variable-len.false)) c.index.ensures in
    subst (λ (values : List Vector). Differ (record { variable = c.args.variable; old = c.index.result.now; new = c.args.new }) values (slice_set items c.args.variable c.args.new))
    c.self.view_is
    (differ_set items c.args.variable c.index.result.now c.args.new at)
