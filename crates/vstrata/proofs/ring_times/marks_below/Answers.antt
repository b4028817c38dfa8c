use Rattle.std.proofs.Common.{ℕ, ◌-◌, count_ones, bit_and, ap, ◌∙◌}
use Rattle.std.proofs.lemmas.Nat.{one_shl, and_mask}
use Rattle.vstrata.proofs.ring_times.marks_below.Goals as goal

pub returns : goal.returns
returns c =
    ap (λ (m : ℕ). count_ones (bit_and c.args.near (m - 1))) (one_shl c.args.ahead 64 c.requires)
    ∙ ap count_ones (and_mask c.args.near c.args.ahead)
