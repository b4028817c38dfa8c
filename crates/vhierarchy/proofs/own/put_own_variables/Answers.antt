use Rattle.vexpr_parse.specs.Texts.{words_of}
use Rattle.velab_expr.proofs.AnswerLemmas.{hands_on}
use Rattle.vhierarchy.proofs.StepLemmas.{same_made}
use Rattle.vhierarchy.proofs.OwnLemmas.{ports_refused, variables_are}
use Rattle.vhierarchy.proofs.own.put_own_variables.Goals as goal

pub returns-in_err-put_ports : goal.returns-in_err-put_ports
returns-in_err-put_ports c =
    hands_on c.from_residual.result c.in_err-put_ports.field-0.0 c.put_ports.new.into.items _ c.from_residual.ensures.1
    (ports_refused (words_of c.args.tokens.now) c.args.context.now c.args.ports.now c.args.scope.now c.args.into.now.items c.in_err-put_ports.field-0.0 c.in_err-put_ports.ensures)

pub returns : goal.returns
returns c =
    same_made c.put_variables.result c.put_variables.new.into.items _ _
    (variables_are (words_of c.args.tokens.now) c.args.context.now c.args.ports.now c.args.scope.now c.args.into.now.items c.put_ports.new.into.items c.in_ok-put_ports.ensures)
    c.put_variables.ensures
