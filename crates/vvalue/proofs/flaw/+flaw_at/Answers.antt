use Rattle.std.proofs.Common.{◌≡◌, ◌++◌, ◌+◌, ◌*◌, ◌&&◌, nat_le, Option, None, refl, ap, ◌∙◌}
use Rattle.std.specs.Option.{option_or}
use Rattle.vdesign.specs.Nodes.{nodes_of}
use Rattle.vdesign.specs.declared.expression.Node.TheVariants.{Constant, Variable, Bit, BitOf, Part, Time, Conversion, Unary, Binary, Conditional, Joined, Repeated}
use Rattle.vvalue.specs.declared.size_and_sign.SizeAndSign.{SizeAndSign}
use Rattle.vvalue.specs.declared.flaw.Flaw.{Flaw}
use Rattle.vvalue.specs.declared.flaw.Flaw.TheVariants.{Size}
use Rattle.vvalue.specs.Value.{self_determined}
use Rattle.vvalue.specs.Flaws.{unless, flaw_of}
use Rattle.vvalue.proofs.NodeLemmas.{by_node, by_none}
use Rattle.vvalue.proofs.flaw.+flaw_at.Goals as goal

pub returns-in_default-clause-exact : goal.returns-in_default-clause-exact
returns-in_default-clause-exact t c =
    by_none (λ tree more. None ≡ flaw_of c.args.environment.now tree) c.args.nodes.now c.in_default.ensures.cases

pub returns-in-Constant-clause-exact : goal.returns-in-Constant-clause-exact
returns-in-Constant-clause-exact t c =
    by_node (λ tree more. None ≡ flaw_of c.args.environment.now tree) c.args.nodes.now c.in-Some.node.now
    (Constant c.in-Constant.field-0) c.in-Some.behind.now c.in-Some.ensures.cases.0 c.in-Constant.is
    refl

pub returns-in-Constant-clause-rest : goal.returns-in-Constant-clause-rest
returns-in-Constant-clause-rest t c =
    by_node (λ tree more. c.in-Some.behind.now ≡ more) c.args.nodes.now c.in-Some.node.now
    (Constant c.in-Constant.field-0) c.in-Some.behind.now c.in-Some.ensures.cases.0 c.in-Constant.is
    refl

pub returns-in-Variable-clause-exact : goal.returns-in-Variable-clause-exact
returns-in-Variable-clause-exact t c =
    by_node (λ tree more. None ≡ flaw_of c.args.environment.now tree) c.args.nodes.now c.in-Some.node.now
    (Variable c.in-Variable.field-0) c.in-Some.behind.now c.in-Some.ensures.cases.0 c.in-Variable.is
    refl

pub returns-in-Variable-clause-rest : goal.returns-in-Variable-clause-rest
returns-in-Variable-clause-rest t c =
    by_node (λ tree more. c.in-Some.behind.now ≡ more) c.args.nodes.now c.in-Some.node.now
    (Variable c.in-Variable.field-0) c.in-Some.behind.now c.in-Some.ensures.cases.0 c.in-Variable.is
    refl

pub returns-in-Bit-clause-exact : goal.returns-in-Bit-clause-exact
returns-in-Bit-clause-exact t c =
    by_node (λ tree more. c.or.result ≡ flaw_of c.args.environment.now tree) c.args.nodes.now c.in-Some.node.now
    (Bit c.in-Bit.variable) c.in-Some.behind.now c.in-Some.ensures.cases.0 c.in-Bit.is
    (λ index more is. c.or.ensures
    ∙ ap (λ (o : Option Flaw). option_or o c.flaw_at-index.result.0) c.bit_flaw.ensures
    ∙ ap (option_or _) (c.flaw_at-index.ensures.exact index more is))

pub returns-in-Bit-clause-rest : goal.returns-in-Bit-clause-rest
returns-in-Bit-clause-rest t c =
    by_node (λ tree more. c.flaw_at-index.result.1.now ≡ more) c.args.nodes.now c.in-Some.node.now
    (Bit c.in-Bit.variable) c.in-Some.behind.now c.in-Some.ensures.cases.0 c.in-Bit.is
    c.flaw_at-index.ensures.rest

pub returns-in-BitOf-clause-exact : goal.returns-in-BitOf-clause-exact
returns-in-BitOf-clause-exact t c =
    by_node (λ tree more. c.flaw_at.result.0 ≡ flaw_of c.args.environment.now tree) c.args.nodes.now c.in-Some.node.now
    (BitOf c.in-BitOf.value c.in-BitOf.bounds) c.in-Some.behind.now c.in-Some.ensures.cases.0 c.in-BitOf.is
    c.flaw_at.ensures.exact

pub returns-in-BitOf-clause-rest : goal.returns-in-BitOf-clause-rest
returns-in-BitOf-clause-rest t c =
    by_node (λ tree more. c.flaw_at.result.1.now ≡ more) c.args.nodes.now c.in-Some.node.now
    (BitOf c.in-BitOf.value c.in-BitOf.bounds) c.in-Some.behind.now c.in-Some.ensures.cases.0 c.in-BitOf.is
    c.flaw_at.ensures.rest

pub returns-in-Part-clause-exact : goal.returns-in-Part-clause-exact
returns-in-Part-clause-exact t c =
    by_node (λ tree more. c.part_flaw.result ≡ flaw_of c.args.environment.now tree) c.args.nodes.now c.in-Some.node.now
    (Part c.in-Part.variable c.in-Part.bounds) c.in-Some.behind.now c.in-Some.ensures.cases.0 c.in-Part.is
    c.part_flaw.ensures

pub returns-in-Part-clause-rest : goal.returns-in-Part-clause-rest
returns-in-Part-clause-rest t c =
    by_node (λ tree more. c.in-Some.behind.now ≡ more) c.args.nodes.now c.in-Some.node.now
    (Part c.in-Part.variable c.in-Part.bounds) c.in-Some.behind.now c.in-Some.ensures.cases.0 c.in-Part.is
    refl

pub returns-in-Time-clause-exact : goal.returns-in-Time-clause-exact
returns-in-Time-clause-exact t c =
    by_node (λ tree more. None ≡ flaw_of c.args.environment.now tree) c.args.nodes.now c.in-Some.node.now
    Time c.in-Some.behind.now c.in-Some.ensures.cases.0 c.in-Time.is
    refl

pub returns-in-Time-clause-rest : goal.returns-in-Time-clause-rest
returns-in-Time-clause-rest t c =
    by_node (λ tree more. c.in-Some.behind.now ≡ more) c.args.nodes.now c.in-Some.node.now
    Time c.in-Some.behind.now c.in-Some.ensures.cases.0 c.in-Time.is
    refl

pub returns-in-Conversion-clause-exact : goal.returns-in-Conversion-clause-exact
returns-in-Conversion-clause-exact t c =
    by_node (λ tree more. c.flaw_at-in-Conversion.result.0 ≡ flaw_of c.args.environment.now tree) c.args.nodes.now c.in-Some.node.now
    (Conversion c.in-Conversion.field-0) c.in-Some.behind.now c.in-Some.ensures.cases.0 c.in-Conversion.is
    c.flaw_at-in-Conversion.ensures.exact

pub returns-in-Conversion-clause-rest : goal.returns-in-Conversion-clause-rest
returns-in-Conversion-clause-rest t c =
    by_node (λ tree more. c.flaw_at-in-Conversion.result.1.now ≡ more) c.args.nodes.now c.in-Some.node.now
    (Conversion c.in-Conversion.field-0) c.in-Some.behind.now c.in-Some.ensures.cases.0 c.in-Conversion.is
    c.flaw_at-in-Conversion.ensures.rest

pub returns-in-Unary-clause-exact : goal.returns-in-Unary-clause-exact
returns-in-Unary-clause-exact t c =
    by_node (λ tree more. c.flaw_at-in-Unary.result.0 ≡ flaw_of c.args.environment.now tree) c.args.nodes.now c.in-Some.node.now
    (Unary c.in-Unary.field-0) c.in-Some.behind.now c.in-Some.ensures.cases.0 c.in-Unary.is
    c.flaw_at-in-Unary.ensures.exact

pub returns-in-Unary-clause-rest : goal.returns-in-Unary-clause-rest
returns-in-Unary-clause-rest t c =
    by_node (λ tree more. c.flaw_at-in-Unary.result.1.now ≡ more) c.args.nodes.now c.in-Some.node.now
    (Unary c.in-Unary.field-0) c.in-Some.behind.now c.in-Some.ensures.cases.0 c.in-Unary.is
    c.flaw_at-in-Unary.ensures.rest

pub returns-in-Binary-clause-exact : goal.returns-in-Binary-clause-exact
returns-in-Binary-clause-exact t c =
    by_node (λ tree more. c.or-in-Binary.result ≡ flaw_of c.args.environment.now tree) c.args.nodes.now c.in-Some.node.now
    (Binary c.in-Binary.field-0) c.in-Some.behind.now c.in-Some.ensures.cases.0 c.in-Binary.is
    (λ left right more is. c.or-in-Binary.ensures
    ∙ ap (λ (o : Option Flaw). option_or o c.flaw_at-right.result.0) (c.flaw_at-left.ensures.exact left (nodes_of right ++ more) is)
    ∙ ap (option_or (flaw_of c.args.environment.now left)) (c.flaw_at-right.ensures.exact right more (c.flaw_at-left.ensures.rest left (nodes_of right ++ more) is)))

pub returns-in-Binary-clause-rest : goal.returns-in-Binary-clause-rest
returns-in-Binary-clause-rest t c =
    by_node (λ tree more. c.flaw_at-right.result.1.now ≡ more) c.args.nodes.now c.in-Some.node.now
    (Binary c.in-Binary.field-0) c.in-Some.behind.now c.in-Some.ensures.cases.0 c.in-Binary.is
    (λ left right more is. c.flaw_at-right.ensures.rest right more (c.flaw_at-left.ensures.rest left (nodes_of right ++ more) is))

pub returns-in-Conditional-clause-exact : goal.returns-in-Conditional-clause-exact
returns-in-Conditional-clause-exact t c =
    by_node (λ tree more. c.or-in-Conditional-2.result ≡ flaw_of c.args.environment.now tree) c.args.nodes.now c.in-Some.node.now
    Conditional c.in-Some.behind.now c.in-Some.ensures.cases.0 c.in-Conditional.is
    (λ condition when_true when_false more is. c.or-in-Conditional-2.ensures
    ∙ ap (λ (o : Option Flaw). option_or o c.or-in-Conditional.result) (c.flaw_at-condition.ensures.exact condition (nodes_of when_true ++ (nodes_of when_false ++ more)) is)
    ∙ ap (option_or (flaw_of c.args.environment.now condition)) (c.or-in-Conditional.ensures
    ∙ ap (λ (o : Option Flaw). option_or o c.flaw_at-when_false.result.0)
    (c.flaw_at-when_true.ensures.exact when_true (nodes_of when_false ++ more) (c.flaw_at-condition.ensures.rest condition (nodes_of when_true ++ (nodes_of when_false ++ more)) is))
    ∙ ap (option_or (flaw_of c.args.environment.now when_true)) (c.flaw_at-when_false.ensures.exact when_false more
    (c.flaw_at-when_true.ensures.rest when_true (nodes_of when_false ++ more) (c.flaw_at-condition.ensures.rest condition (nodes_of when_true ++ (nodes_of when_false ++ more)) is)))))

pub returns-in-Conditional-clause-rest : goal.returns-in-Conditional-clause-rest
returns-in-Conditional-clause-rest t c =
    by_node (λ tree more. c.flaw_at-when_false.result.1.now ≡ more) c.args.nodes.now c.in-Some.node.now
    Conditional c.in-Some.behind.now c.in-Some.ensures.cases.0 c.in-Conditional.is
    (λ condition when_true when_false more is. c.flaw_at-when_false.ensures.rest when_false more
    (c.flaw_at-when_true.ensures.rest when_true (nodes_of when_false ++ more) (c.flaw_at-condition.ensures.rest condition (nodes_of when_true ++ (nodes_of when_false ++ more)) is)))

pub returns-in-Joined-clause-exact : goal.returns-in-Joined-clause-exact
returns-in-Joined-clause-exact t c =
    by_node (λ tree more. c.or-in-Joined-2.result ≡ flaw_of c.args.environment.now tree) c.args.nodes.now c.in-Some.node.now
    Joined c.in-Some.behind.now c.in-Some.ensures.cases.0 c.in-Joined.is
    (λ left right more is. c.or-in-Joined-2.ensures
    ∙ ap (λ (o : Option Flaw). option_or o c.or-in-Joined.result) (c.flaw_at-left-in-Joined.ensures.exact left (nodes_of right ++ more) is)
    ∙ ap (option_or (flaw_of c.args.environment.now left)) (c.or-in-Joined.ensures
    ∙ ap (λ (o : Option Flaw). option_or o c.joined_flaw.result) (c.flaw_at-right-in-Joined.ensures.exact right more (c.flaw_at-left-in-Joined.ensures.rest left (nodes_of right ++ more) is))
    ∙ ap (option_or (flaw_of c.args.environment.now right)) (c.joined_flaw.ensures
    ∙ ap (λ (x : SizeAndSign). unless (nat_le (x.size + c.self_determined-in-Joined.result.0.size) 64) Size) (c.self_determined.ensures.exact left (nodes_of right ++ more) is)
    ∙ ap (λ (x : SizeAndSign). unless (nat_le ((self_determined c.args.environment.now left).size + x.size) 64) Size)
    (c.self_determined-in-Joined.ensures.exact right more (c.self_determined.ensures.rest left (nodes_of right ++ more) is)))))

pub returns-in-Joined-clause-rest : goal.returns-in-Joined-clause-rest
returns-in-Joined-clause-rest t c =
    by_node (λ tree more. c.flaw_at-right-in-Joined.result.1.now ≡ more) c.args.nodes.now c.in-Some.node.now
    Joined c.in-Some.behind.now c.in-Some.ensures.cases.0 c.in-Joined.is
    (λ left right more is. c.flaw_at-right-in-Joined.ensures.rest right more (c.flaw_at-left-in-Joined.ensures.rest left (nodes_of right ++ more) is))

pub returns-in-Repeated-clause-exact : goal.returns-in-Repeated-clause-exact
returns-in-Repeated-clause-exact t c =
    by_node (λ tree more. c.or-in-Repeated.result ≡ flaw_of c.args.environment.now tree) c.args.nodes.now c.in-Some.node.now
    (Repeated c.in-Repeated.count) c.in-Some.behind.now c.in-Some.ensures.cases.0 c.in-Repeated.is
    (λ operand more is. c.or-in-Repeated.ensures
    ∙ ap (λ (o : Option Flaw). option_or o c.repeated_flaw.result) (c.flaw_at-operand.ensures.exact operand more is)
    ∙ ap (option_or (flaw_of c.args.environment.now operand)) (c.repeated_flaw.ensures
    ∙ ap (λ (x : SizeAndSign). unless (nat_le 1 c.in-Repeated.count && nat_le (c.in-Repeated.count * x.size) 64) Size) (c.self_determined-in-Repeated.ensures.exact operand more is)))

pub returns-in-Repeated-clause-rest : goal.returns-in-Repeated-clause-rest
returns-in-Repeated-clause-rest t c =
    by_node (λ tree more. c.flaw_at-operand.result.1.now ≡ more) c.args.nodes.now c.in-Some.node.now
    (Repeated c.in-Repeated.count) c.in-Some.behind.now c.in-Some.ensures.cases.0 c.in-Repeated.is
    c.flaw_at-operand.ensures.rest
