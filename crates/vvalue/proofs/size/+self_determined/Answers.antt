use Rattle.std.proofs.Common.{◌≡◌, ◌++◌, ◌+◌, ◌*◌, max, min, false, length, refl, ap, ◌∙◌}
use Rattle.vdesign.specs.Expressions.{ExpressionTree, apply, combine}
use Rattle.vdesign.specs.Nodes.{nodes_of}
use Rattle.vdesign.specs.declared.expression.Node.TheVariants.{Constant, Variable, Bit, BitOf, Part, Time, Conversion, Unary, Binary, Conditional, Joined, Repeated}
use Rattle.vwords.specs.declared.operators.UnaryOperator.{UnaryOperator}
use Rattle.vwords.specs.declared.operators.BinaryOperator.{BinaryOperator}
use Rattle.vvalue.specs.declared.size_and_sign.SizeAndSign.{SizeAndSign}
use Rattle.vvalue.specs.declared.operand_rule.OperandRule.{OperandRule}
use Rattle.vvalue.specs.declared.operand_rule.UnaryOperandRule.{UnaryOperandRule}
use Rattle.vvalue.specs.OperandRules.{operand_rule, unary_operand_rule}
use Rattle.vvalue.specs.Value.{Environment, size_and_sign, self_determined, common, size_by, sign_by, unary_size, unary_sign}
use Rattle.vbits.specs.Vectors.{Vector}
use Rattle.vvalue.proofs.NodeLemmas.{by_node, by_none}
use Rattle.vvalue.proofs.size.+self_determined.Goals as goal

-- ---- of a node whose operands are known

by_unary : UnaryOperandRule → SizeAndSign → SizeAndSign
by_unary by operand = size_and_sign (unary_size by operand.size) (unary_sign by operand.signed)

by_binary : OperandRule → SizeAndSign → SizeAndSign → SizeAndSign
by_binary by left right = size_and_sign (size_by by left.size right.size) (sign_by by left.signed right.signed)

unary_is : (now : Environment) (operator : UnaryOperator) (by : UnaryOperandRule) (operand : ExpressionTree) (a whole : SizeAndSign) →
    whole ≡ size_and_sign (unary_size by a.size) (unary_sign by a.signed) → by ≡ unary_operand_rule operator → a ≡ self_determined now operand →
    whole ≡ self_determined now (apply operator operand)
unfolding by_unary
unary_is now operator by operand a whole is same one =
    is ∙ ap (λ m. by_unary m a) same ∙ ap (by_unary (unary_operand_rule operator)) one

binary_is : (now : Environment) (operator : BinaryOperator) (by : OperandRule) (left right : ExpressionTree) (a b whole : SizeAndSign) →
    whole ≡ size_and_sign (size_by by a.size b.size) (sign_by by a.signed b.signed) → by ≡ operand_rule operator →
    a ≡ self_determined now left → b ≡ self_determined now right → whole ≡ self_determined now (combine operator left right)
unfolding by_binary
binary_is now operator by left right a b whole is same one other =
    is ∙ ap (λ m. by_binary m a b) same ∙ ap (λ (x : SizeAndSign). by_binary (operand_rule operator) x b) one
    ∙ ap (by_binary (operand_rule operator) (self_determined now left)) other

-- ---- the nodes

pub returns-in_default-clause-exact : goal.returns-in_default-clause-exact
returns-in_default-clause-exact t c =
    by_none (λ tree more. size_and_sign 1 false ≡ self_determined c.args.environment.now tree) c.args.nodes.now c.in_default.ensures.cases

pub returns-in-Constant-clause-exact : goal.returns-in-Constant-clause-exact
returns-in-Constant-clause-exact t c =
    by_node (λ tree more. c.size_and_sign_of_value.result ≡ self_determined c.args.environment.now tree)
    c.args.nodes.now c.in-Some.node.now (Constant c.in-Constant.constant) c.in-Some.behind.now
    c.in-Some.ensures.cases.0 c.in-Constant.is c.size_and_sign_of_value.ensures.exact

pub returns-in-Constant-clause-rest : goal.returns-in-Constant-clause-rest
returns-in-Constant-clause-rest t c =
    by_node (λ tree more. c.in-Some.behind.now ≡ more)
    c.args.nodes.now c.in-Some.node.now (Constant c.in-Constant.constant) c.in-Some.behind.now
    c.in-Some.ensures.cases.0 c.in-Constant.is refl

pub returns-in-Variable-clause-exact : goal.returns-in-Variable-clause-exact
returns-in-Variable-clause-exact t c =
    by_node (λ tree more. c.size_and_sign_of_value-in-Variable.result ≡ self_determined c.args.environment.now tree)
    c.args.nodes.now c.in-Some.node.now (Variable c.in-Variable.number) c.in-Some.behind.now
    c.in-Some.ensures.cases.0 c.in-Variable.is
    (c.size_and_sign_of_value-in-Variable.ensures.exact ∙ ap (λ (v : Vector). size_and_sign (length v.letters) v.signed) c.value_at.ensures)

pub returns-in-Variable-clause-rest : goal.returns-in-Variable-clause-rest
returns-in-Variable-clause-rest t c =
    by_node (λ tree more. c.in-Some.behind.now ≡ more)
    c.args.nodes.now c.in-Some.node.now (Variable c.in-Variable.number) c.in-Some.behind.now
    c.in-Some.ensures.cases.0 c.in-Variable.is refl

pub returns-in-Time-clause-exact : goal.returns-in-Time-clause-exact
returns-in-Time-clause-exact t c =
    by_node (λ tree more. size_and_sign 64 false ≡ self_determined c.args.environment.now tree)
    c.args.nodes.now c.in-Some.node.now Time c.in-Some.behind.now
    c.in-Some.ensures.cases.0 c.in-Time.is refl

pub returns-in-Time-clause-rest : goal.returns-in-Time-clause-rest
returns-in-Time-clause-rest t c =
    by_node (λ tree more. c.in-Some.behind.now ≡ more)
    c.args.nodes.now c.in-Some.node.now Time c.in-Some.behind.now
    c.in-Some.ensures.cases.0 c.in-Time.is refl

pub returns-in-Conversion-clause-exact : goal.returns-in-Conversion-clause-exact
returns-in-Conversion-clause-exact t c =
    by_node (λ tree more. size_and_sign c.self_determined-in-Conversion.result.0.size c.in-Conversion.signed ≡ self_determined c.args.environment.now tree)
    c.args.nodes.now c.in-Some.node.now (Conversion c.in-Conversion.signed) c.in-Some.behind.now
    c.in-Some.ensures.cases.0 c.in-Conversion.is
    (λ operand more is. ap (λ (x : SizeAndSign). size_and_sign x.size c.in-Conversion.signed) (c.self_determined-in-Conversion.ensures.exact operand more is))

pub returns-in-Conversion-clause-rest : goal.returns-in-Conversion-clause-rest
returns-in-Conversion-clause-rest t c =
    by_node (λ tree more. c.self_determined-in-Conversion.result.1.now ≡ more)
    c.args.nodes.now c.in-Some.node.now (Conversion c.in-Conversion.signed) c.in-Some.behind.now
    c.in-Some.ensures.cases.0 c.in-Conversion.is c.self_determined-in-Conversion.ensures.rest

pub returns-in-Unary-clause-exact : goal.returns-in-Unary-clause-exact
returns-in-Unary-clause-exact t c =
    by_node (λ tree more. c.own_unary.result ≡ self_determined c.args.environment.now tree)
    c.args.nodes.now c.in-Some.node.now (Unary c.in-Unary.operator) c.in-Some.behind.now
    c.in-Some.ensures.cases.0 c.in-Unary.is
    (λ operand more is. unary_is c.args.environment.now c.in-Unary.operator c.unary_operand_rule_of.result operand
    c.self_determined-in-Unary.result.0 c.own_unary.result
    c.own_unary.ensures.exact c.unary_operand_rule_of.ensures (c.self_determined-in-Unary.ensures.exact operand more is))

pub returns-in-Unary-clause-rest : goal.returns-in-Unary-clause-rest
returns-in-Unary-clause-rest t c =
    by_node (λ tree more. c.self_determined-in-Unary.result.1.now ≡ more)
    c.args.nodes.now c.in-Some.node.now (Unary c.in-Unary.operator) c.in-Some.behind.now
    c.in-Some.ensures.cases.0 c.in-Unary.is c.self_determined-in-Unary.ensures.rest

pub returns-in-Binary-clause-exact : goal.returns-in-Binary-clause-exact
returns-in-Binary-clause-exact t c =
    by_node (λ tree more. c.own_binary.result ≡ self_determined c.args.environment.now tree)
    c.args.nodes.now c.in-Some.node.now (Binary c.in-Binary.operator) c.in-Some.behind.now
    c.in-Some.ensures.cases.0 c.in-Binary.is
    (λ left right more is. binary_is c.args.environment.now c.in-Binary.operator c.operand_rule_of.result left right
    c.self_determined-in-Binary.result.0 c.self_determined-in-Binary-2.result.0 c.own_binary.result
    c.own_binary.ensures.exact c.operand_rule_of.ensures (c.self_determined-in-Binary.ensures.exact left (nodes_of right ++ more) is)
    (c.self_determined-in-Binary-2.ensures.exact right more (c.self_determined-in-Binary.ensures.rest left (nodes_of right ++ more) is)))

pub returns-in-Binary-clause-rest : goal.returns-in-Binary-clause-rest
returns-in-Binary-clause-rest t c =
    by_node (λ tree more. c.self_determined-in-Binary-2.result.1.now ≡ more)
    c.args.nodes.now c.in-Some.node.now (Binary c.in-Binary.operator) c.in-Some.behind.now
    c.in-Some.ensures.cases.0 c.in-Binary.is
    (λ left right more is. c.self_determined-in-Binary-2.ensures.rest right more (c.self_determined-in-Binary.ensures.rest left (nodes_of right ++ more) is))

pub returns-in-Conditional-clause-exact : goal.returns-in-Conditional-clause-exact
returns-in-Conditional-clause-exact t c =
    by_node (λ tree more. c.common.result ≡ self_determined c.args.environment.now tree)
    c.args.nodes.now c.in-Some.node.now Conditional c.in-Some.behind.now
    c.in-Some.ensures.cases.0 c.in-Conditional.is
    (λ condition when_true when_false more is.
    let behind = c.self_determined-in-Conditional.ensures.rest condition (nodes_of when_true ++ (nodes_of when_false ++ more)) is in
    c.common.ensures.exact
    ∙ ap (λ (x : SizeAndSign). common x c.self_determined-in-Conditional-3.result.0)
    (c.self_determined-in-Conditional-2.ensures.exact when_true (nodes_of when_false ++ more) behind)
    ∙ ap (common (self_determined c.args.environment.now when_true))
    (c.self_determined-in-Conditional-3.ensures.exact when_false more (c.self_determined-in-Conditional-2.ensures.rest when_true (nodes_of when_false ++ more) behind)))

pub returns-in-Conditional-clause-rest : goal.returns-in-Conditional-clause-rest
returns-in-Conditional-clause-rest t c =
    by_node (λ tree more. c.self_determined-in-Conditional-3.result.1.now ≡ more)
    c.args.nodes.now c.in-Some.node.now Conditional c.in-Some.behind.now
    c.in-Some.ensures.cases.0 c.in-Conditional.is
    (λ condition when_true when_false more is.
    c.self_determined-in-Conditional-3.ensures.rest when_false more (c.self_determined-in-Conditional-2.ensures.rest when_true (nodes_of when_false ++ more)
    (c.self_determined-in-Conditional.ensures.rest condition (nodes_of when_true ++ (nodes_of when_false ++ more)) is)))

pub returns-in-Bit-clause-exact : goal.returns-in-Bit-clause-exact
returns-in-Bit-clause-exact t c =
    by_node (λ tree more. size_and_sign 1 false ≡ self_determined c.args.environment.now tree)
    c.args.nodes.now c.in-Some.node.now (Bit c.in-Bit.field-0) c.in-Some.behind.now
    c.in-Some.ensures.cases.0 c.in-Bit.is (λ index more is. refl)

pub returns-in-Bit-clause-rest : goal.returns-in-Bit-clause-rest
returns-in-Bit-clause-rest t c =
    by_node (λ tree more. c.self_determined.result.1.now ≡ more)
    c.args.nodes.now c.in-Some.node.now (Bit c.in-Bit.field-0) c.in-Some.behind.now
    c.in-Some.ensures.cases.0 c.in-Bit.is c.self_determined.ensures.rest

pub returns-in-BitOf-clause-exact : goal.returns-in-BitOf-clause-exact
returns-in-BitOf-clause-exact t c =
    by_node (λ tree more. size_and_sign 1 false ≡ self_determined c.args.environment.now tree)
    c.args.nodes.now c.in-Some.node.now (BitOf c.in-BitOf.value c.in-BitOf.bounds) c.in-Some.behind.now
    c.in-Some.ensures.cases.0 c.in-BitOf.is (λ index more is. refl)

pub returns-in-BitOf-clause-rest : goal.returns-in-BitOf-clause-rest
returns-in-BitOf-clause-rest t c =
    by_node (λ tree more. c.self_determined-in-BitOf.result.1.now ≡ more)
    c.args.nodes.now c.in-Some.node.now (BitOf c.in-BitOf.value c.in-BitOf.bounds) c.in-Some.behind.now
    c.in-Some.ensures.cases.0 c.in-BitOf.is c.self_determined-in-BitOf.ensures.rest

pub returns-in-Part-clause-exact : goal.returns-in-Part-clause-exact
returns-in-Part-clause-exact t c =
    by_node (λ tree more. c.own_part.result ≡ self_determined c.args.environment.now tree)
    c.args.nodes.now c.in-Some.node.now (Part c.in-Part.variable c.in-Part.bounds) c.in-Some.behind.now
    c.in-Some.ensures.cases.0 c.in-Part.is c.own_part.ensures.exact

pub returns-in-Part-clause-rest : goal.returns-in-Part-clause-rest
returns-in-Part-clause-rest t c =
    by_node (λ tree more. c.in-Some.behind.now ≡ more)
    c.args.nodes.now c.in-Some.node.now (Part c.in-Part.variable c.in-Part.bounds) c.in-Some.behind.now
    c.in-Some.ensures.cases.0 c.in-Part.is refl

pub returns-in-Joined-clause-exact : goal.returns-in-Joined-clause-exact
returns-in-Joined-clause-exact t c =
    by_node (λ tree more. c.own_joined.result ≡ self_determined c.args.environment.now tree)
    c.args.nodes.now c.in-Some.node.now Joined c.in-Some.behind.now
    c.in-Some.ensures.cases.0 c.in-Joined.is
    (λ left right more is. c.own_joined.ensures.exact
    ∙ ap (λ (x : SizeAndSign). size_and_sign (min 64 (x.size + c.self_determined-in-Joined-2.result.0.size)) false)
    (c.self_determined-in-Joined.ensures.exact left (nodes_of right ++ more) is)
    ∙ ap (λ (x : SizeAndSign). size_and_sign (min 64 ((self_determined c.args.environment.now left).size + x.size)) false)
    (c.self_determined-in-Joined-2.ensures.exact right more (c.self_determined-in-Joined.ensures.rest left (nodes_of right ++ more) is)))

pub returns-in-Joined-clause-rest : goal.returns-in-Joined-clause-rest
returns-in-Joined-clause-rest t c =
    by_node (λ tree more. c.self_determined-in-Joined-2.result.1.now ≡ more)
    c.args.nodes.now c.in-Some.node.now Joined c.in-Some.behind.now
    c.in-Some.ensures.cases.0 c.in-Joined.is
    (λ left right more is. c.self_determined-in-Joined-2.ensures.rest right more (c.self_determined-in-Joined.ensures.rest left (nodes_of right ++ more) is))

pub returns-in-Repeated-clause-exact : goal.returns-in-Repeated-clause-exact
returns-in-Repeated-clause-exact t c =
    by_node (λ tree more. c.own_repeated.result ≡ self_determined c.args.environment.now tree)
    c.args.nodes.now c.in-Some.node.now (Repeated c.in-Repeated.count) c.in-Some.behind.now
    c.in-Some.ensures.cases.0 c.in-Repeated.is
    (λ operand more is. c.own_repeated.ensures.exact
    ∙ ap (λ (x : SizeAndSign). size_and_sign (min 64 (max 1 c.in-Repeated.count * x.size)) false) (c.self_determined-in-Repeated.ensures.exact operand more is))

pub returns-in-Repeated-clause-rest : goal.returns-in-Repeated-clause-rest
returns-in-Repeated-clause-rest t c =
    by_node (λ tree more. c.self_determined-in-Repeated.result.1.now ≡ more)
    c.args.nodes.now c.in-Some.node.now (Repeated c.in-Repeated.count) c.in-Some.behind.now
    c.in-Some.ensures.cases.0 c.in-Repeated.is c.self_determined-in-Repeated.ensures.rest
