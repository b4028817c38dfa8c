use Rattle.std.proofs.Common.{[], ◌∷◌}
use Rattle.vexpr_parse.specs.Texts.{words_of}
use Rattle.vmodules.proofs.ListLemmas.{step}
use Rattle.velab_declaration.specs.Inner.{own_variables}
use Rattle.velab_declaration.proofs.VariableLemmas.{own_opens}
use Rattle.velab_declaration.proofs.variable.put_own.Goals as goal

pub loop-one-preserved : goal.loop-one-preserved
loop-one-preserved c =
    let words = words_of c.args.tokens.now in
    let made = c.args.made.now in
    let path = c.args.path.now in
    step c.args.list.now c.loop-one.one-index c.one-item.result c.loop-one-test.true c.one-item.is (own_variables words made path c.args.form)
    (λ y. own_variables words made path c.args.form (y ∷ [])) (own_opens words made path c.args.form)
    c.loop-one.into.items c.put_one.new.into.items _ c.in_ok-put_one.ensures c.loop-one.invariant
