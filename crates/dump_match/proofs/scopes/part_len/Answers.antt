use Rattle.std.proofs.Common.{sym, arith, length, ◌∙◌}
use Rattle.std.proofs.lemmas.List.Sums.{prefix_len_is}
use Rattle.dump_match.specs.Scopes.{is_no_dot}
use Rattle.dump_match.proofs.scopes.part_len.Goals as goal

pub returns-then-not-is_no_dot-clause-value : goal.returns-then-not-is_no_dot-clause-value
returns-then-not-is_no_dot-clause-value c =
    sym (prefix_len_is is_no_dot c.args.name.now c.loop-at.at 0 (omega arith) c.loop-at.invariant (λ _. sym c.is_no_dot.ensures ∙ c.if-not-is_no_dot.true))

pub returns-clause-value : goal.returns-clause-value
returns-clause-value c =
    sym (prefix_len_is is_no_dot c.args.name.now (length c.args.name.now) 0 (omega arith) (λ k low. c.loop-at.invariant k (omega arith)) (λ low. absurd (omega arith)))
