use Rattle.std.proofs.Common.{◌≡◌, drop, map}
use Rattle.vexpr_parse.specs.Texts.{words_of}
use Rattle.vmodules.specs.Inner.{port_form}
use Rattle.velab_expr.specs.Answers.{behind}
use Rattle.velab_declaration.specs.Variables.{lower_ports}
use Rattle.velab_declaration.proofs.variable.put_each_port.Given as goal

abbrev pub invariant-loop-port : goal.invariant-loop-port
invariant-loop-port l =
    behind l.into.items (lower_ports l.path l.scope (map (port_form (words_of l.tokens)) (drop l.port-index l.ports)))
    ≡ behind l.initial.into.items (lower_ports l.path l.scope (map (port_form (words_of l.tokens)) l.ports))
