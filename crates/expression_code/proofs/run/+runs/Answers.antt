use Rattle.std.proofs.Common.{◌≡◌, ◌∷◌, ◌++◌, refl, ap, ◌∙◌}
use Rattle.vbits.specs.Vectors.{truth}
use Rattle.vvalue.specs.Value.{chosen_value}
use Rattle.expression_code.specs.declared.operation.Operation.TheVariants.{Leaf, Unary, Binary, Choose}
use Rattle.expression_code.specs.Code.{at_size, unary_step_value, binary_step_value, code_value}
use Rattle.expression_code.specs.Operations.{operations_of}
use Rattle.expression_code.proofs.OperationLemmas.{by_operation, by_none}
use Rattle.expression_code.proofs.run.+runs.Goals as goal

pub run_first-returns-in_default-clause-exact : goal.run_first-returns-in_default-clause-exact
run_first-returns-in_default-clause-exact t c =
    by_none (λ tree more. c.all_x.result ≡ code_value c.args.environment.now.values c.args.environment.now.time tree) c.args.operations.now c.in_default.ensures.cases

pub run_first-returns-in-Leaf-clause-exact : goal.run_first-returns-in-Leaf-clause-exact
run_first-returns-in-Leaf-clause-exact t c =
    by_operation (λ tree more. c.leaf_value.result ≡ code_value c.args.environment.now.values c.args.environment.now.time tree) c.args.operations.now c.in-Some.operation.now
    (Leaf c.in-Leaf.leaf) c.in-Some.behind.now c.in-Some.ensures.cases.0 c.in-Leaf.is c.leaf_value.ensures

pub run_operation-returns-in-Leaf-clause-exact : goal.run_operation-returns-in-Leaf-clause-exact
run_operation-returns-in-Leaf-clause-exact t c =
    by_operation (λ tree more. c.leaf_value.result ≡ code_value c.args.environment.now.values c.args.environment.now.time tree) (c.args.operation.now ∷ c.args.behind.now) c.args.operation.now
    (Leaf c.in-Leaf.leaf) c.args.behind.now refl c.in-Leaf.is c.leaf_value.ensures

pub run_first-returns-in-Leaf-clause-rest : goal.run_first-returns-in-Leaf-clause-rest
run_first-returns-in-Leaf-clause-rest t c =
    by_operation (λ tree more. c.in-Some.behind.now ≡ more) c.args.operations.now c.in-Some.operation.now
    (Leaf c.in-Leaf.leaf) c.in-Some.behind.now c.in-Some.ensures.cases.0 c.in-Leaf.is refl

pub run_operation-returns-in-Leaf-clause-rest : goal.run_operation-returns-in-Leaf-clause-rest
run_operation-returns-in-Leaf-clause-rest t c =
    by_operation (λ tree more. c.args.behind.now ≡ more) (c.args.operation.now ∷ c.args.behind.now) c.args.operation.now
    (Leaf c.in-Leaf.leaf) c.args.behind.now refl c.in-Leaf.is refl

pub run_operation-returns-in-Unary-clause-exact : goal.run_operation-returns-in-Unary-clause-exact
run_operation-returns-in-Unary-clause-exact t c =
    by_operation (λ tree more. c.unary_step_value.result ≡ code_value c.args.environment.now.values c.args.environment.now.time tree) (c.args.operation.now ∷ c.args.behind.now) c.args.operation.now
    (Unary c.in-Unary.step) c.args.behind.now refl c.in-Unary.is
    (λ o more is. c.unary_step_value.ensures ∙ ap (unary_step_value c.args.environment.now.values c.in-Unary.step) (c.run_first-value.ensures.exact o more is))

pub run_operation-returns-in-Unary-clause-rest : goal.run_operation-returns-in-Unary-clause-rest
run_operation-returns-in-Unary-clause-rest t c =
    by_operation (λ tree more. c.run_first-value.result.1.now ≡ more) (c.args.operation.now ∷ c.args.behind.now) c.args.operation.now
    (Unary c.in-Unary.step) c.args.behind.now refl c.in-Unary.is c.run_first-value.ensures.rest

pub run_operation-returns-in-Binary-clause-exact : goal.run_operation-returns-in-Binary-clause-exact
run_operation-returns-in-Binary-clause-exact t c =
    by_operation (λ tree more. c.binary_step_value.result ≡ code_value c.args.environment.now.values c.args.environment.now.time tree) (c.args.operation.now ∷ c.args.behind.now) c.args.operation.now
    (Binary c.in-Binary.step) c.args.behind.now refl c.in-Binary.is
    (λ left right more is.
    let first = c.run_first-left.ensures.exact left (operations_of right ++ more) is in
    let second = c.run_first-right.ensures.exact right more (c.run_first-left.ensures.rest left (operations_of right ++ more) is) in
    c.binary_step_value.ensures ∙ (λ i. binary_step_value c.in-Binary.step (first i) (second i)))

pub run_operation-returns-in-Binary-clause-rest : goal.run_operation-returns-in-Binary-clause-rest
run_operation-returns-in-Binary-clause-rest t c =
    by_operation (λ tree more. c.run_first-right.result.1.now ≡ more) (c.args.operation.now ∷ c.args.behind.now) c.args.operation.now
    (Binary c.in-Binary.step) c.args.behind.now refl c.in-Binary.is
    (λ left right more is.
    c.run_first-right.ensures.rest right more (c.run_first-left.ensures.rest left (operations_of right ++ more) is))

pub run_operation-returns-in-Choose-clause-exact : goal.run_operation-returns-in-Choose-clause-exact
run_operation-returns-in-Choose-clause-exact t c =
    by_operation (λ tree more. c.chosen_value.result ≡ code_value c.args.environment.now.values c.args.environment.now.time tree) (c.args.operation.now ∷ c.args.behind.now) c.args.operation.now
    Choose c.args.behind.now refl c.in-Choose.is
    (λ condition when_true when_false more is.
    let behind = c.run_first-condition.ensures.rest condition (operations_of when_true ++ (operations_of when_false ++ more)) is in
    let last = c.run_first-when_true.ensures.rest when_true (operations_of when_false ++ more) behind in
    let test = c.truth.ensures ∙ ap truth (c.run_first-condition.ensures.exact condition (operations_of when_true ++ (operations_of when_false ++ more)) is) in
    let yes = c.run_first-when_true.ensures.exact when_true (operations_of when_false ++ more) behind in
    let no = c.run_first-when_false.ensures.exact when_false more last in
    c.chosen_value.ensures ∙ (λ i. chosen_value (test i) (yes i) (at_size (yes i) (no i))))

pub run_operation-returns-in-Choose-clause-rest : goal.run_operation-returns-in-Choose-clause-rest
run_operation-returns-in-Choose-clause-rest t c =
    by_operation (λ tree more. c.run_first-when_false.result.1.now ≡ more) (c.args.operation.now ∷ c.args.behind.now) c.args.operation.now
    Choose c.args.behind.now refl c.in-Choose.is
    (λ condition when_true when_false more is.
    c.run_first-when_false.ensures.rest when_false more (c.run_first-when_true.ensures.rest when_true (operations_of when_false ++ more)
    (c.run_first-condition.ensures.rest condition (operations_of when_true ++ (operations_of when_false ++ more)) is)))
