use Rattle.std.proofs.Common.{sym, arith, length, ◌∙◌}
use Rattle.std.proofs.lemmas.List.Sums.{prefix_len_is}
use Rattle.basis.specs.Letters.{is_in_name}
use Rattle.vsrc.proofs.words.word_len.Goals as goal

pub returns-then-not-is_in_name-clause-value : goal.returns-then-not-is_in_name-clause-value
returns-then-not-is_in_name-clause-value c =
    sym (prefix_len_is is_in_name c.args.text.now c.loop-at.at 0 (omega arith) c.loop-at.invariant (λ _. sym c.is_in_name.ensures ∙ c.if-not-is_in_name.true))

pub returns-clause-value : goal.returns-clause-value
returns-clause-value c =
    sym (prefix_len_is is_in_name c.args.text.now (length c.args.text.now) 0 (omega arith) (λ k low. c.loop-at.invariant k (omega arith)) (λ low. absurd (omega arith)))
