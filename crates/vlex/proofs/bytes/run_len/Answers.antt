use Rattle.std.proofs.Common.{sym, arith, length, ◌∙◌}
use Rattle.std.proofs.lemmas.List.Sums.{prefix_len_is}
use Rattle.vlex.specs.Bytes.{is_in}
use Rattle.vlex.proofs.bytes.run_len.Goals as goal

pub returns-then-not-is_in-clause-value : goal.returns-then-not-is_in-clause-value
returns-then-not-is_in-clause-value c =
    sym (prefix_len_is (is_in c.args.set) c.args.bytes.now c.loop-at.at 0 (omega arith) c.loop-at.invariant (λ _. sym c.is_in.ensures ∙ c.if-not-is_in.true))

pub returns-clause-value : goal.returns-clause-value
returns-clause-value c =
    sym (prefix_len_is (is_in c.args.set) c.args.bytes.now (length c.args.bytes.now) 0 (omega arith) (λ k low. c.loop-at.invariant k (omega arith)) (λ low. absurd (omega arith)))
