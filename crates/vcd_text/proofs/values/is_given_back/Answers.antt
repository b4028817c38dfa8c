use Rattle.std.proofs.Common.{arith}
use Rattle.vcd_text.proofs.ValueLemmas.{shortened_short}
use Rattle.vcd_text.proofs.values.is_given_back.Goals as goal

pub returns-else-digits-gt1-clause-no : goal.returns-else-digits-gt1-clause-no
returns-else-digits-gt1-clause-no c = λ e. shortened_short c.args.digits.now (omega arith)
