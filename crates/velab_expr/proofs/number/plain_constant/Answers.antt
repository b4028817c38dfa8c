use Rattle.velab_expr.proofs.NumberLemmas.{plain_from}
use Rattle.velab_expr.proofs.number.plain_constant.Goals as goal

pub returns : goal.returns
returns c = plain_from c.args.digits.now c.low_number.result c.from_u64.result c.with_sign.result c.low_number.ensures c.from_u64.ensures c.with_sign.ensures
