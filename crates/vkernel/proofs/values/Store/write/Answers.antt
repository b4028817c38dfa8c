use Rattle.std.proofs.Common.{ℕ, List, slice_set, ap, ◌∙◌}
use Rattle.vbits.specs.Vectors.{Vector}
use Rattle.vmodel.specs.Parts.{value_in, write}
use Rattle.vkernel.proofs.ValueLemmas.{written_by}
use Rattle.vkernel.proofs.values.Store.write.Goals as goal

pub returns-clause-values : goal.returns-clause-values
returns-clause-values c =
    let values = c.args.self.now in
    let variable = c.variable-variable.result in
    let part = c.args.part in
    c.set.ensures.values
    ∙ ap (slice_set values variable) (c.value_after-new.ensures ∙ ap (λ (vs : List Vector). value_in (write part vs) variable) c.as_slice.ensures)
    ∙ ap (λ (n : ℕ). slice_set values n (value_in (write part values) n)) c.variable-variable.ensures
    ∙ written_by part values
