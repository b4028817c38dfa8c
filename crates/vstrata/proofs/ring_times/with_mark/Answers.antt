use Rattle.std.proofs.Common.{w64}
use Rattle.std.proofs.lemmas.Nat.Bits.{bit_at_set_same, bit_at_set_other}
use Rattle.vstrata.proofs.ring_times.with_mark.Goals as goal

pub returns-then-ahead-lt64-clause-this : goal.returns-then-ahead-lt64-clause-this
returns-then-ahead-lt64-clause-this c = λ lt. bit_at_set_same w64 c.args.near c.args.ahead lt

pub returns-then-ahead-lt64-clause-others : goal.returns-then-ahead-lt64-clause-others
returns-then-ahead-lt64-clause-others c = λ k few differ. bit_at_set_other w64 c.args.near c.args.ahead c.if-ahead-lt64.true k differ
