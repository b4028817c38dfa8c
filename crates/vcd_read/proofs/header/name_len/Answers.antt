use Rattle.std.proofs.Common.{sym, arith, length, ◌∙◌}
use Rattle.std.proofs.lemmas.List.Sums.{prefix_len_is}
use Rattle.vcd_read.specs.Declarations.{is_no_bracket}
use Rattle.vcd_read.proofs.header.name_len.Goals as goal

pub returns-then-not-is_of_name-clause-value : goal.returns-then-not-is_of_name-clause-value
returns-then-not-is_of_name-clause-value c =
    sym (prefix_len_is is_no_bracket c.args.reference.now c.loop-at.at 0 (omega arith) c.loop-at.invariant (λ _. sym c.is_of_name.ensures ∙ c.if-not-is_of_name.true))

pub returns-clause-value : goal.returns-clause-value
returns-clause-value c =
    sym (prefix_len_is is_no_bracket c.args.reference.now (length c.args.reference.now) 0 (omega arith) (λ k low. c.loop-at.invariant k (omega arith)) (λ low. absurd (omega arith)))
