use Rattle.std.proofs.Common.{sym, ◌∙◌}
use Rattle.velab_expr.proofs.ConstantLemmas.{unsigned_is_not, signed_is}
use Rattle.velab_expr.proofs.constant.is_negative.Goals as goal

pub returns-then-not-signed : goal.returns-then-not-signed
returns-then-not-signed c = sym (unsigned_is_not c.args.value (sym c.signed.ensures ∙ c.if-not-signed.true))

pub returns : goal.returns
returns c = c.is_one.ensures ∙ signed_is c.args.value c.len.result c.bit.result (sym c.signed.ensures ∙ c.if-not-signed.false) c.len.ensures.letters c.bit.ensures
