use Rattle.std.proofs.Common.{◌≡◌, ◌++◌, refl, ap, ◌∙◌}
use Rattle.vbits.specs.Vectors.{Vector}
use Rattle.vdesign.specs.Nodes.{nodes_of}
use Rattle.vdesign.specs.declared.expression.Node.TheVariants.{Constant, Variable, Bit, BitOf, Part, Time, Conversion, Unary, Binary, Conditional, Joined, Repeated}
use Rattle.vvalue.specs.Value.{fitted_value, value_of}
use Rattle.vvalue.proofs.NodeLemmas.{by_first, by_node, by_none}
use Rattle.vvalue.proofs.ValueLemmas.{filled_length, bit_is, bit_of_is, conversion_is, apply_is, combine_is, conditional_is, joined_is, repeated_is}
use Rattle.vvalue.proofs.value.+values.Goals as goal

-- ---- a node with operands

pub of_conversion-returns-clause-exact : goal.of_conversion-returns-clause-exact
of_conversion-returns-clause-exact t c =
    by_first (λ tree more. c.fitted_value.result ≡ value_of c.args.environment.now tree c.args.here) (Conversion c.args.signed) c.args.nodes.now
    (λ operand more is. conversion_is c.args.environment.now c.args.signed operand c.args.here c.self_determined.result.0
    c.value_of-value.result.0 c.with_sign.result c.fitted_value.result
    c.fitted_value.ensures.exact c.with_sign.ensures (c.value_of-value.ensures.exact operand more is) (c.self_determined.ensures.exact operand more is))

pub of_conversion-returns-clause-rest : goal.of_conversion-returns-clause-rest
of_conversion-returns-clause-rest t c =
    by_first (λ tree more. c.value_of-value.result.1.now ≡ more) (Conversion c.args.signed) c.args.nodes.now c.value_of-value.ensures.rest

pub of_unary-returns-clause-exact : goal.of_unary-returns-clause-exact
of_unary-returns-clause-exact t c =
    by_first (λ tree more. c.fitted_value.result ≡ value_of c.args.environment.now tree c.args.here) (Unary c.args.operator) c.args.nodes.now
    (λ operand more is. apply_is c.args.environment.now c.args.operator c.unary_operand_rule_of-operand_rule.result operand c.args.here c.side-there.result
    c.value_of-value.result.0 c.unary_value.result c.fitted_value.result
    c.fitted_value.ensures.exact c.unary_value.ensures (c.value_of-value.ensures.exact operand more is) (c.side-there.ensures.exact operand more is)
    c.unary_operand_rule_of-operand_rule.ensures)

pub of_unary-returns-clause-rest : goal.of_unary-returns-clause-rest
of_unary-returns-clause-rest t c =
    by_first (λ tree more. c.value_of-value.result.1.now ≡ more) (Unary c.args.operator) c.args.nodes.now c.value_of-value.ensures.rest

pub of_binary-returns-clause-exact : goal.of_binary-returns-clause-exact
of_binary-returns-clause-exact t c =
    by_first (λ tree more. c.fitted_value.result ≡ value_of c.args.environment.now tree c.args.here) (Binary c.args.operator) c.args.nodes.now
    (λ left right more is. combine_is c.args.environment.now c.args.operator c.operand_rule_of-operand_rule.result left right c.args.here
    c.sides.result.0 c.sides.result.1
    c.value_of-left.result.0 c.value_of-right.result.0 c.combined_value_of.result c.fitted_value.result
    c.fitted_value.ensures.exact c.combined_value_of.ensures (c.value_of-left.ensures.exact left (nodes_of right ++ more) is)
    (c.value_of-right.ensures.exact right more (c.value_of-left.ensures.rest left (nodes_of right ++ more) is))
    (c.sides.ensures.left left right more is) (c.sides.ensures.right left right more is) c.operand_rule_of-operand_rule.ensures)

pub of_binary-returns-clause-rest : goal.of_binary-returns-clause-rest
of_binary-returns-clause-rest t c =
    by_first (λ tree more. c.value_of-right.result.1.now ≡ more) (Binary c.args.operator) c.args.nodes.now
    (λ left right more is. c.value_of-right.ensures.rest right more (c.value_of-left.ensures.rest left (nodes_of right ++ more) is))

pub of_conditional-returns-clause-exact : goal.of_conditional-returns-clause-exact
of_conditional-returns-clause-exact t c =
    by_first (λ tree more. c.fitted_value.result ≡ value_of c.args.environment.now tree c.args.here) Conditional c.args.nodes.now
    (λ condition when_true when_false more is.
    let behind_first = c.value_of-condition.ensures.rest condition (nodes_of when_true ++ (nodes_of when_false ++ more)) is in
    let behind_second = c.value_of-when_true.ensures.rest when_true (nodes_of when_false ++ more) behind_first in
    conditional_is c.args.environment.now condition when_true when_false c.args.here c.self_determined.result.0
    c.value_of-condition.result.0 c.value_of-when_true.result.0 c.value_of-when_false.result.0 c.chosen_value.result c.fitted_value.result c.truth.result
    c.fitted_value.ensures.exact c.chosen_value.ensures c.truth.ensures
    (c.value_of-condition.ensures.exact condition (nodes_of when_true ++ (nodes_of when_false ++ more)) is)
    (c.self_determined.ensures.exact condition (nodes_of when_true ++ (nodes_of when_false ++ more)) is)
    (c.value_of-when_true.ensures.exact when_true (nodes_of when_false ++ more) behind_first)
    (c.value_of-when_false.ensures.exact when_false more behind_second))

pub of_conditional-returns-clause-rest : goal.of_conditional-returns-clause-rest
of_conditional-returns-clause-rest t c =
    by_first (λ tree more. c.value_of-when_false.result.1.now ≡ more) Conditional c.args.nodes.now
    (λ condition when_true when_false more is.
    c.value_of-when_false.ensures.rest when_false more (c.value_of-when_true.ensures.rest when_true (nodes_of when_false ++ more)
    (c.value_of-condition.ensures.rest condition (nodes_of when_true ++ (nodes_of when_false ++ more)) is)))

pub of_bit-returns-clause-exact : goal.of_bit-returns-clause-exact
of_bit-returns-clause-exact t c =
    by_first (λ tree more. c.fitted_value.result ≡ value_of c.args.environment.now tree c.args.here) (Bit c.args.variable) c.args.nodes.now
    (λ index more is. bit_is c.args.environment.now c.args.variable index c.args.here c.self_determined.result.0
    c.value_of-index.result.0 c.bit_value.result c.fitted_value.result
    c.fitted_value.ensures.exact c.bit_value.ensures (c.value_of-index.ensures.exact index more is) (c.self_determined.ensures.exact index more is))

pub of_bit-returns-clause-rest : goal.of_bit-returns-clause-rest
of_bit-returns-clause-rest t c =
    by_first (λ tree more. c.value_of-index.result.1.now ≡ more) (Bit c.args.variable) c.args.nodes.now c.value_of-index.ensures.rest

pub of_bit_of-returns-clause-exact : goal.of_bit_of-returns-clause-exact
of_bit_of-returns-clause-exact t c =
    by_first (λ tree more. c.fitted_value.result ≡ value_of c.args.environment.now tree c.args.here) (BitOf c.args.value c.args.bounds) c.args.nodes.now
    (λ index more is. bit_of_is c.args.environment.now c.args.value c.args.bounds index c.args.here c.self_determined.result.0
    c.value_of-index.result.0 c.indexed_bit.result c.fitted_value.result
    c.fitted_value.ensures.exact c.indexed_bit.ensures (c.value_of-index.ensures.exact index more is) (c.self_determined.ensures.exact index more is))

pub of_bit_of-returns-clause-rest : goal.of_bit_of-returns-clause-rest
of_bit_of-returns-clause-rest t c =
    by_first (λ tree more. c.value_of-index.result.1.now ≡ more) (BitOf c.args.value c.args.bounds) c.args.nodes.now
    c.value_of-index.ensures.rest

pub of_joined-returns-clause-exact : goal.of_joined-returns-clause-exact
of_joined-returns-clause-exact t c =
    by_first (λ tree more. c.fitted_value.result ≡ value_of c.args.environment.now tree c.args.here) Joined c.args.nodes.now
    (λ left right more is. joined_is c.args.environment.now left right c.args.here c.self_determined.result.0 c.self_determined-2.result.0
    c.value_of-left.result.0 c.value_of-right.result.0 c.joined_value.result c.fitted_value.result
    c.fitted_value.ensures.exact c.joined_value.ensures (c.value_of-left.ensures.exact left (nodes_of right ++ more) is)
    (c.self_determined.ensures.exact left (nodes_of right ++ more) is)
    (c.value_of-right.ensures.exact right more (c.value_of-left.ensures.rest left (nodes_of right ++ more) is))
    (c.self_determined-2.ensures.exact right more (c.self_determined.ensures.rest left (nodes_of right ++ more) is)))

pub of_joined-returns-clause-rest : goal.of_joined-returns-clause-rest
of_joined-returns-clause-rest t c =
    by_first (λ tree more. c.value_of-right.result.1.now ≡ more) Joined c.args.nodes.now
    (λ left right more is. c.value_of-right.ensures.rest right more (c.value_of-left.ensures.rest left (nodes_of right ++ more) is))

pub of_repeated-returns-clause-exact : goal.of_repeated-returns-clause-exact
of_repeated-returns-clause-exact t c =
    by_first (λ tree more. c.fitted_value.result ≡ value_of c.args.environment.now tree c.args.here) (Repeated c.args.count) c.args.nodes.now
    (λ operand more is. repeated_is c.args.environment.now c.args.count operand c.args.here c.self_determined.result.0
    c.value_of-value.result.0 c.repeated_value.result c.fitted_value.result
    c.fitted_value.ensures.exact c.repeated_value.ensures (c.value_of-value.ensures.exact operand more is) (c.self_determined.ensures.exact operand more is))

pub of_repeated-returns-clause-rest : goal.of_repeated-returns-clause-rest
of_repeated-returns-clause-rest t c =
    by_first (λ tree more. c.value_of-value.result.1.now ≡ more) (Repeated c.args.count) c.args.nodes.now c.value_of-value.ensures.rest

-- ---- no node, and a node without operands

pub value_of-returns-in_default-clause-exact : goal.value_of-returns-in_default-clause-exact
value_of-returns-in_default-clause-exact t c =
    by_none (λ tree more. c.all_x.result ≡ value_of c.args.environment.now tree c.args.here) c.args.nodes.now c.in_default.ensures.cases

pub value_of-returns-in_default-clause-len : goal.value_of-returns-in_default-clause-len
value_of-returns-in_default-clause-len t c = filled_length c.all_x.result c.args.here c.all_x.ensures

pub value_of-returns-in-Constant-clause-exact : goal.value_of-returns-in-Constant-clause-exact
value_of-returns-in-Constant-clause-exact t c =
    by_node (λ tree more. c.number_value.result ≡ value_of c.args.environment.now tree c.args.here) c.args.nodes.now c.in-Some.node.now
    (Constant c.in-Constant.number) c.in-Some.behind.now c.in-Some.ensures.cases.0 c.in-Constant.is c.number_value.ensures.exact

pub value_of-returns-in-Constant-clause-rest : goal.value_of-returns-in-Constant-clause-rest
value_of-returns-in-Constant-clause-rest t c =
    by_node (λ tree more. c.in-Some.behind.now ≡ more) c.args.nodes.now c.in-Some.node.now
    (Constant c.in-Constant.number) c.in-Some.behind.now c.in-Some.ensures.cases.0 c.in-Constant.is refl

pub value_of-returns-in-Variable-clause-exact : goal.value_of-returns-in-Variable-clause-exact
value_of-returns-in-Variable-clause-exact t c =
    by_node (λ tree more. c.fitted_value.result ≡ value_of c.args.environment.now tree c.args.here) c.args.nodes.now c.in-Some.node.now
    (Variable c.in-Variable.number) c.in-Some.behind.now c.in-Some.ensures.cases.0 c.in-Variable.is
    (c.fitted_value.ensures.exact ∙ ap (λ (v : Vector). fitted_value v c.args.here) c.value_at.ensures)

pub value_of-returns-in-Variable-clause-rest : goal.value_of-returns-in-Variable-clause-rest
value_of-returns-in-Variable-clause-rest t c =
    by_node (λ tree more. c.in-Some.behind.now ≡ more) c.args.nodes.now c.in-Some.node.now
    (Variable c.in-Variable.number) c.in-Some.behind.now c.in-Some.ensures.cases.0 c.in-Variable.is refl

pub value_of-returns-in-Part-clause-exact : goal.value_of-returns-in-Part-clause-exact
value_of-returns-in-Part-clause-exact t c =
    by_node (λ tree more. c.fitted_value-in-Part.result ≡ value_of c.args.environment.now tree c.args.here) c.args.nodes.now c.in-Some.node.now
    (Part c.in-Part.variable c.in-Part.bounds) c.in-Some.behind.now c.in-Some.ensures.cases.0 c.in-Part.is
    (c.fitted_value-in-Part.ensures.exact ∙ ap (λ (v : Vector). fitted_value v c.args.here) c.part_value-value.ensures)

pub value_of-returns-in-Part-clause-rest : goal.value_of-returns-in-Part-clause-rest
value_of-returns-in-Part-clause-rest t c =
    by_node (λ tree more. c.in-Some.behind.now ≡ more) c.args.nodes.now c.in-Some.node.now
    (Part c.in-Part.variable c.in-Part.bounds) c.in-Some.behind.now c.in-Some.ensures.cases.0 c.in-Part.is refl

pub value_of-returns-in-Time-clause-exact : goal.value_of-returns-in-Time-clause-exact
value_of-returns-in-Time-clause-exact t c =
    by_node (λ tree more. c.fitted_value-in-Time.result ≡ value_of c.args.environment.now tree c.args.here) c.args.nodes.now c.in-Some.node.now
    Time c.in-Some.behind.now c.in-Some.ensures.cases.0 c.in-Time.is
    (c.fitted_value-in-Time.ensures.exact ∙ ap (λ (v : Vector). fitted_value v c.args.here) c.time_of.ensures)

pub value_of-returns-in-Time-clause-rest : goal.value_of-returns-in-Time-clause-rest
value_of-returns-in-Time-clause-rest t c =
    by_node (λ tree more. c.in-Some.behind.now ≡ more) c.args.nodes.now c.in-Some.node.now
    Time c.in-Some.behind.now c.in-Some.ensures.cases.0 c.in-Time.is refl
