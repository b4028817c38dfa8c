use Rattle.std.proofs.Common.{◌++◌}
use Rattle.basis.proofs.Results.{on_ok_value}
use Rattle.vdesign.specs.Nodes.{nodes_of}
use Rattle.vdesign.specs.declared.expression.Node.TheVariants.{Constant, Variable, Bit, BitOf, Part, Time, Conversion, Unary, Binary, Conditional, Joined, Repeated}
use Rattle.vvalue.proofs.NodeLemmas.{by_first, by_node, by_none}
use Rattle.expression_code.specs.Heads.{IsPut}
use Rattle.expression_code.proofs.CompileLemmas.{bit_put, bit_of_put, conversion_put, unary_put, repeated_put, joined_put, conditional_put, binary_put, constant_put, variable_put, part_put, time_put}
use Rattle.expression_code.proofs.compile.+compiles.Goals as goal

-- ---- a node with operands

pub compile_bit-returns-clause-compiled : goal.compile_bit-returns-clause-compiled
compile_bit-returns-clause-compiled t c =
    on_ok_value c.compile_nodes.result
    (λ behind are. by_first (λ tree more. IsPut c.args.variables.now c.args.here tree more behind.now c.args.code.now.items c.compile_nodes.new.code.items)
    (Bit c.args.variable) c.args.nodes.now
    (λ index more is. bit_put c.args.variables.now c.args.here c.args.variable index c.bounds_of-bounds.result c.self_determined-there.result.0 more behind.now
    c.args.code.now.items c.put_fitted.new.code.items c.compile_nodes.new.code.items
    (c.self_determined-there.ensures.exact index more is) c.bounds_of-bounds.ensures c.in_ok-put_fitted.ensures (are index more is)))
    c.compile_nodes.ensures.compiled

pub compile_bit_of-returns-clause-compiled : goal.compile_bit_of-returns-clause-compiled
compile_bit_of-returns-clause-compiled t c =
    on_ok_value c.compile_nodes.result
    (λ behind are. by_first (λ tree more. IsPut c.args.variables.now c.args.here tree more behind.now c.args.code.now.items c.compile_nodes.new.code.items)
    (BitOf c.args.value c.args.bounds) c.args.nodes.now
    (λ index more is. bit_of_put c.args.variables.now c.args.here c.args.value c.args.bounds index c.self_determined-there.result.0 more behind.now
    c.args.code.now.items c.put_fitted.new.code.items c.compile_nodes.new.code.items
    (c.self_determined-there.ensures.exact index more is) c.in_ok-put_fitted.ensures (are index more is)))
    c.compile_nodes.ensures.compiled

pub compile_conversion-returns-clause-compiled : goal.compile_conversion-returns-clause-compiled
compile_conversion-returns-clause-compiled t c =
    on_ok_value c.compile_nodes.result
    (λ behind are. by_first (λ tree more. IsPut c.args.variables.now c.args.here tree more behind.now c.args.code.now.items c.compile_nodes.new.code.items)
    (Conversion c.args.signed) c.args.nodes.now
    (λ o more is. conversion_put c.args.variables.now c.args.here c.args.signed o c.self_determined-there.result.0 more behind.now
    c.args.code.now.items c.put_fit.new.code.items c.compile_nodes.new.code.items
    (c.self_determined-there.ensures.exact o more is) c.in_ok-put_fit.ensures (are o more is)))
    c.compile_nodes.ensures.compiled

pub compile_unary-returns-clause-compiled : goal.compile_unary-returns-clause-compiled
compile_unary-returns-clause-compiled t c =
    on_ok_value c.compile_nodes.result
    (λ behind are. by_first (λ tree more. IsPut c.args.variables.now c.args.here tree more behind.now c.args.code.now.items c.compile_nodes.new.code.items)
    (Unary c.args.operator) c.args.nodes.now
    (λ o more is. unary_put c.args.variables.now c.args.here c.args.operator o c.unary_operand_rule_of-rule.result c.self_determined-operand.result.0
    c.operand_context-there.result c.unary_result_in.result more behind.now
    c.args.code.now.items c.put_fitted.new.code.items c.compile_nodes.new.code.items
    c.unary_operand_rule_of-rule.ensures (c.self_determined-operand.ensures.exact o more is) c.operand_context-there.ensures c.unary_result_in.ensures
    c.in_ok-put_fitted.ensures (are o more is)))
    c.compile_nodes.ensures.compiled

pub compile_repeated-returns-clause-compiled : goal.compile_repeated-returns-clause-compiled
compile_repeated-returns-clause-compiled t c =
    on_ok_value c.compile_nodes.result
    (λ behind are. by_first (λ tree more. IsPut c.args.variables.now c.args.here tree more behind.now c.args.code.now.items c.compile_nodes.new.code.items)
    (Repeated c.args.count) c.args.nodes.now
    (λ o more is. repeated_put c.args.variables.now c.args.here c.args.count o c.self_determined-there.result.0 more behind.now
    c.args.code.now.items c.put_repeated.new.code.items c.compile_nodes.new.code.items
    (c.self_determined-there.ensures.exact o more is) c.in_ok-put_repeated.ensures (are o more is)))
    c.compile_nodes.ensures.compiled

pub compile_joined-returns-clause-compiled : goal.compile_joined-returns-clause-compiled
compile_joined-returns-clause-compiled t c =
    on_ok_value c.compile_nodes-2.result
    (λ behind are. by_first (λ tree more. IsPut c.args.variables.now c.args.here tree more behind.now c.args.code.now.items c.compile_nodes-2.new.code.items)
    Joined c.args.nodes.now
    (λ left right more is.
    let one = c.in_ok-behind.ensures.compiled left (nodes_of right ++ more) is in
    joined_put c.args.variables.now c.args.here left right c.self_determined-left.result.0 c.self_determined-right.result.0 c.own_joined.result more behind.now
    c.args.code.now.items c.put_fitted.new.code.items c.compile_nodes.new.code.items c.compile_nodes-2.new.code.items
    (c.self_determined-left.ensures.exact left (nodes_of right ++ more) is)
    (c.self_determined-right.ensures.exact right more (c.self_determined-left.ensures.rest left (nodes_of right ++ more) is))
    c.own_joined.ensures c.in_ok-put_fitted.ensures one.code (are right more one.rest)))
    c.compile_nodes-2.ensures.compiled

pub compile_conditional-returns-clause-compiled : goal.compile_conditional-returns-clause-compiled
compile_conditional-returns-clause-compiled t c =
    on_ok_value c.compile_nodes-3.result
    (λ behind are. by_first (λ tree more. IsPut c.args.variables.now c.args.here tree more behind.now c.args.code.now.items c.compile_nodes-3.new.code.items)
    Conditional c.args.nodes.now
    (λ condition when_true when_false more is.
    let one = c.in_ok-behind.ensures.compiled condition (nodes_of when_true ++ (nodes_of when_false ++ more)) is in
    let other = c.in_ok-behind-2.ensures.compiled when_true (nodes_of when_false ++ more) one.rest in
    conditional_put c.args.variables.now c.args.here condition when_true when_false c.self_determined-there.result.0 more behind.now
    c.args.code.now.items c.put.new.code.items c.compile_nodes.new.code.items c.compile_nodes-2.new.code.items c.compile_nodes-3.new.code.items
    (c.self_determined-there.ensures.exact condition (nodes_of when_true ++ (nodes_of when_false ++ more)) is)
    c.in_ok-put.ensures one.code other.code (are when_false more other.rest)))
    c.compile_nodes-3.ensures.compiled

pub compile_binary-returns-clause-compiled : goal.compile_binary-returns-clause-compiled
compile_binary-returns-clause-compiled t c =
    on_ok_value c.compile_right.result
    (λ behind are. by_first (λ tree more. IsPut c.args.variables.now c.args.here tree more behind.now c.args.code.now.items c.compile_right.new.code.items)
    (Binary c.args.operator) c.args.nodes.now
    (λ left right more is.
    let second = c.self_determined-left.ensures.rest left (nodes_of right ++ more) is in
    let one = c.in_ok-behind.ensures.compiled left (nodes_of right ++ more) is in
    binary_put c.args.variables.now c.args.here c.args.operator left right c.operand_rule_of-rule.result
    c.self_determined-left.result.0 c.self_determined-right.result.0 c.operand_contexts-first.result.0 c.operand_contexts-first.result.1 c.binary_result_in.result
    c.right_operand-operand.result c.binary_operation.result more behind.now
    c.args.code.now.items c.put_fitted.new.code.items c.compile_nodes.new.code.items c.compile_right.new.code.items
    c.operand_rule_of-rule.ensures (c.self_determined-left.ensures.exact left (nodes_of right ++ more) is) (c.self_determined-right.ensures.exact right more second)
    c.operand_contexts-first.ensures.left c.operand_contexts-first.ensures.right c.binary_result_in.ensures
    (c.right_operand-operand.ensures right more second) c.binary_operation.ensures c.in_ok-put_fitted.ensures one.code (are right more one.rest)))
    c.compile_right.ensures.compiled

-- ---- no node, and a node without operands

pub compile_nodes-returns-in_default-clause-compiled : goal.compile_nodes-returns-in_default-clause-compiled
compile_nodes-returns-in_default-clause-compiled t c =
    by_none (λ tree more. IsPut c.args.variables.now c.args.here tree more c.args.nodes.now c.args.code.now.items c.args.code.now.items)
    c.args.nodes.now c.in_default.ensures.cases

pub compile_nodes-returns-in_ok-put-in-Constant-clause-compiled : goal.compile_nodes-returns-in_ok-put-in-Constant-clause-compiled
compile_nodes-returns-in_ok-put-in-Constant-clause-compiled t c =
    by_node (λ tree more. IsPut c.args.variables.now c.args.here tree more c.in-Some.behind.now c.args.code.now.items c.put.new.code.items)
    c.args.nodes.now c.in-Some.node.now (Constant c.in-Constant.number) c.in-Some.behind.now c.in-Some.ensures.cases.0 c.in-Constant.is
    (constant_put c.args.variables.now c.args.here c.in-Constant.number c.number_in.result c.in-Some.behind.now c.args.code.now.items c.put.new.code.items
    c.number_in.ensures c.in_ok-put-in-Constant.ensures)

pub compile_nodes-returns-in_ok-put-in-Variable-clause-compiled : goal.compile_nodes-returns-in_ok-put-in-Variable-clause-compiled
compile_nodes-returns-in_ok-put-in-Variable-clause-compiled t c =
    by_node (λ tree more. IsPut c.args.variables.now c.args.here tree more c.in-Some.behind.now c.args.code.now.items c.put-in-Variable.new.code.items)
    c.args.nodes.now c.in-Some.node.now (Variable c.in-Variable.variable) c.in-Some.behind.now c.in-Some.ensures.cases.0 c.in-Variable.is
    (variable_put c.args.variables.now c.args.here c.in-Variable.variable c.context_of_variable-has.result c.variable_operation.result c.in-Some.behind.now
    c.args.code.now.items c.put-in-Variable.new.code.items c.context_of_variable-has.ensures c.variable_operation.ensures c.in_ok-put-in-Variable.ensures)

pub compile_nodes-returns-in_ok-put_fitted-in-Part-clause-compiled : goal.compile_nodes-returns-in_ok-put_fitted-in-Part-clause-compiled
compile_nodes-returns-in_ok-put_fitted-in-Part-clause-compiled t c =
    by_node (λ tree more. IsPut c.args.variables.now c.args.here tree more c.in-Some.behind.now c.args.code.now.items c.put_fitted.new.code.items)
    c.args.nodes.now c.in-Some.node.now (Part c.in-Part.variable c.in-Part.bounds) c.in-Some.behind.now c.in-Some.ensures.cases.0 c.in-Part.is
    (part_put c.args.variables.now c.args.here c.in-Part.variable c.in-Part.bounds c.bounds_of.result c.context_of_variable-has-in-Part.result c.own_part.result
    c.part_leaf-leaf.result c.in-Some.behind.now c.args.code.now.items c.put_fitted.new.code.items
    c.context_of_variable-has-in-Part.ensures c.own_part.ensures c.bounds_of.ensures c.part_leaf-leaf.ensures c.in_ok-put_fitted-in-Part.ensures)

pub compile_nodes-returns-in_ok-put_fitted-in-Time-clause-compiled : goal.compile_nodes-returns-in_ok-put_fitted-in-Time-clause-compiled
compile_nodes-returns-in_ok-put_fitted-in-Time-clause-compiled t c =
    by_node (λ tree more. IsPut c.args.variables.now c.args.here tree more c.in-Some.behind.now c.args.code.now.items c.put_fitted-in-Time.new.code.items)
    c.args.nodes.now c.in-Some.node.now Time c.in-Some.behind.now c.in-Some.ensures.cases.0 c.in-Time.is
    (time_put c.args.variables.now c.args.here c.in-Some.behind.now c.args.code.now.items c.put_fitted-in-Time.new.code.items c.in_ok-put_fitted-in-Time.ensures)
