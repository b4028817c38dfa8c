use Rattle.std.proofs.Common.{[]}
use Rattle.vvalue.proofs.NodeLemmas.{alone}
use Rattle.expression_code.specs.CodeOf.{right_side_code}
use Rattle.expression_code.proofs.CompileLemmas.{right_side_put}
use Rattle.expression_code.proofs.compile.compile_right_side.Goals as goal

pub new-requires : goal.new-requires
new-requires c =
    let is = alone c.args.expression.now c.nodes-nodes.result.now c.nodes-nodes.ensures in (
      right_side_code c.args.variables.now c.args.count c.args.expression.now,
      right_side_put c.args.variables.now c.args.expression.now c.args.count c.self_determined-own.result.0 c.larger_context-larger.result c.with_size.result
          c.in_ok-compile_nodes.field-0.now c.new-code.result.items c.put_fit.new.code.items c.compile_nodes.new.code.items
          (c.self_determined-own.ensures.exact c.args.expression.now [] is) c.larger_context-larger.ensures c.with_size.ensures c.new-code.ensures.items
          c.in_ok-put_fit.ensures (c.in_ok-compile_nodes.ensures.compiled c.args.expression.now [] is),
    )

pub returns : goal.returns
returns c =
    let is = alone c.args.expression.now c.nodes-nodes.result.now c.nodes-nodes.ensures in
    c.new.ensures (right_side_code c.args.variables.now c.args.count c.args.expression.now)
    (right_side_put c.args.variables.now c.args.expression.now c.args.count c.self_determined-own.result.0 c.larger_context-larger.result c.with_size.result
    c.in_ok-compile_nodes.field-0.now c.new-code.result.items c.put_fit.new.code.items c.compile_nodes.new.code.items
    (c.self_determined-own.ensures.exact c.args.expression.now [] is) c.larger_context-larger.ensures c.with_size.ensures c.new-code.ensures.items
    c.in_ok-put_fit.ensures (c.in_ok-compile_nodes.ensures.compiled c.args.expression.now [] is))
