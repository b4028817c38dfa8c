use Rattle.std.proofs.Common.{◌-◌, sym, ap, ◌∙◌}
use Rattle.vcode.specs.Code.{pass_spent}
use Rattle.vcode.proofs.SettleLemmas.{settled_past}
use Rattle.vcode.proofs.code.Code.settle.Goals as goal

pub loop-most-preserved : goal.loop-most-preserved
loop-most-preserved c =
    let most = c.loop-most.most in
    ap (pass_spent c.args.self.now c.args.turns.now (most - 1)) c.past-settled.ensures
    ∙ settled_past c.args.self.now c.args.turns.now most c.loop-most.settled c.loop-most-test.true (sym c.is_spent.ensures ∙ c.if-is_spent.true)
    ∙ c.loop-most.invariant
