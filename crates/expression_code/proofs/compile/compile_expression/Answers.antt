use Rattle.std.proofs.Common.{[], ap, ◌∙◌}
use Rattle.vvalue.proofs.NodeLemmas.{alone}
use Rattle.expression_code.specs.CodeOf.{code_of}
use Rattle.expression_code.proofs.CompileLemmas.{whole_put}
use Rattle.expression_code.proofs.compile.compile_expression.Goals as goal

pub new-requires : goal.new-requires
new-requires c =
    let is = alone c.args.expression.now c.nodes-nodes.result.now c.nodes-nodes.ensures in (
      code_of c.args.variables.now c.args.expression.now c.self_determined-here.result.0,
      whole_put c.args.variables.now c.self_determined-here.result.0 c.args.expression.now c.in_ok-compile_nodes.field-0.now c.new-code.result.items
          c.compile_nodes.new.code.items c.new-code.ensures.items (c.in_ok-compile_nodes.ensures.compiled c.args.expression.now [] is),
    )

pub returns : goal.returns
returns c =
    let is = alone c.args.expression.now c.nodes-nodes.result.now c.nodes-nodes.ensures in
    c.new.ensures (code_of c.args.variables.now c.args.expression.now c.self_determined-here.result.0)
    (whole_put c.args.variables.now c.self_determined-here.result.0 c.args.expression.now c.in_ok-compile_nodes.field-0.now c.new-code.result.items
    c.compile_nodes.new.code.items c.new-code.ensures.items (c.in_ok-compile_nodes.ensures.compiled c.args.expression.now [] is))
    ∙ ap (code_of c.args.variables.now c.args.expression.now) (c.self_determined-here.ensures.exact c.args.expression.now [] is)
