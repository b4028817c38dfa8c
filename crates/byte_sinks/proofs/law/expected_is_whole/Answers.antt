use Rattle.std.proofs.Common.{refl}
use Rattle.byte_sinks.specs.Comparing.{whole_is_left, left_is_whole}
use Rattle.byte_sinks.proofs.law.expected_is_whole.Goals as goal

pub returns : goal.returns
returns c = record { whole = λ text. whole_is_left text text refl; only = left_is_whole }
