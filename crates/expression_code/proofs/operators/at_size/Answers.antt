use Rattle.std.proofs.Common.{length, sym, ap, ◌∙◌}
use Rattle.vbits.specs.Vectors.{Vector}
use Rattle.vvalue.proofs.Lengths.{resized_length}
use Rattle.expression_code.proofs.LengthLemmas.{at_size_same}
use Rattle.expression_code.proofs.operators.at_size.Goals as goal

pub returns-then-len-clause-exact : goal.returns-then-len-clause-exact
returns-then-len-clause-exact c =
    sym (at_size_same c.args.model c.args.value (sym c.len-2.ensures.letters ∙ sym c.if-len.true ∙ c.len.ensures.letters))

pub returns-else-len-clause-len : goal.returns-else-len-clause-len
returns-else-len-clause-len c =
    sym (ap (λ (v : Vector). length v.letters) c.resize.ensures ∙ resized_length c.args.value c.len-else-len.result ∙ c.len-else-len.ensures.letters)
