use Rattle.std.proofs.Common.{map, subst}
use Rattle.vexpr_parse.specs.Texts.{words_of}
use Rattle.vmodules.specs.Inner.{port_form}
use Rattle.velab_expr.specs.Answers.{Makes, behind}
use Rattle.velab_expr.specs.Scopes.{Scope}
use Rattle.velab_declaration.specs.Variables.{lower_ports}
use Rattle.velab_declaration.proofs.variable.put_ports.Goals as goal

pub returns : goal.returns
returns c =
    subst (λ (here : Scope). Makes c.put_each_port.result c.put_each_port.new.into.items (behind c.args.into.now.items (lower_ports c.args.path.now here (map (port_form (words_of c.args.tokens.now)) c.args.ports.now))))
    (c.port_scope-here.ensures (words_of c.args.tokens.now)) c.put_each_port.ensures
