use Rattle.std.proofs.Common.{ℕ, ◌+◌, Some, ◌∷◌, List, drop, get_or, drop-cons, add-one, sym, ap, subst, ◌∙◌}
use Rattle.std.proofs.lemmas.List.{drop_all}
use Rattle.vmodel.specs.Touched.{ChangesOnly}
use Rattle.vmodel.proofs.TouchedLemmas.{assigned_all}
use Rattle.vmodel.proofs.values.Values.assign_each.Goals as goal

pub loop-variable-preserved : goal.loop-variable-preserved
loop-variable-preserved c =
    let variables = c.args.variables.now in
    let i = c.loop-variable.variable-index in
    c.assign_at.ensures (drop (i + 1) variables)
    (subst (λ (ns : List ℕ). ChangesOnly (Some ns) c.loop-variable.self c.args.values.now)
    (drop-cons variables i 0 c.loop-variable-test.true ∙ ap (λ (n : ℕ). get_or variables i 0 ∷ drop n variables) (sym (add-one i)))
    c.loop-variable.invariant)

pub returns : goal.returns
returns c =
    assigned_all c.loop-variable.self c.args.values.now
    (subst (λ (ns : List ℕ). ChangesOnly (Some ns) c.loop-variable.self c.args.values.now) (drop_all c.loop-variable.variable-index c.args.variables.now c.loop-variable-test.false)
    c.loop-variable.invariant)
