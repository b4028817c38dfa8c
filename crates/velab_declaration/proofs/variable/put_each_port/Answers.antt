use Rattle.std.proofs.Common.{◌+◌, ◌∷◌, [], List, Result, drop, map, sym, ap, ◌∙◌}
use Rattle.vdesign.specs.Design.{Variable}
use Rattle.velab_expr.specs.declared.fault.ElabFault.{ElabFault}
use Rattle.vexpr_parse.specs.Texts.{words_of}
use Rattle.vmodules.specs.Ports.{Port}
use Rattle.vmodules.specs.Inner.{port_form}
use Rattle.vmodules.specs.declared.ports.PortForm.{PortForm}
use Rattle.velab_expr.specs.Answers.{behind}
use Rattle.velab_declaration.specs.Variables.{lower_ports}
use Rattle.velab_expr.proofs.AnswerLemmas.{goes_behind, hands_on, still_refused}
use Rattle.velab_expr.proofs.ListLemmas.{drop_at}
use Rattle.velab_declaration.proofs.VariableLemmas.{ports_open, first_refused}
use Rattle.velab_declaration.proofs.variable.put_each_port.Goals as goal

pub loop-port-preserved : goal.loop-port-preserved
loop-port-preserved c =
    let words = words_of c.args.tokens.now in
    let path = c.args.path.now in
    let scope = c.args.scope.now in
    let port : Port = port_form words c.port-item.result in
    let rest : List Port = map (port_form words) (drop (c.loop-port.port-index + 1) c.args.ports.now) in
    goes_behind c.loop-port.into.items (lower_ports path scope (port ∷ [])) (lower_ports path scope rest) c.put_port.new.into.items c.in_ok-put_port.ensures
    ∙ ap (behind c.loop-port.into.items) (sym (ports_open path scope port rest))
    ∙ ap (λ (l : List PortForm). behind c.loop-port.into.items (lower_ports path scope (map (port_form words) l)))
    (sym (drop_at c.args.ports.now c.loop-port.port-index c.port-item.result c.loop-port-test.true c.port-item.is))
    ∙ c.loop-port.invariant

pub returns-in_err-put_port : goal.returns-in_err-put_port
returns-in_err-put_port c =
    let words = words_of c.args.tokens.now in
    let path = c.args.path.now in
    let scope = c.args.scope.now in
    let whole : Result (List Variable) ElabFault = lower_ports path scope (map (port_form words) c.args.ports.now) in
    let port : Port = port_form words c.port-item.result in
    let rest : List Port = map (port_form words) (drop (c.loop-port.port-index + 1) c.args.ports.now) in
    hands_on c.from_residual.result c.in_err-put_port.field-0.0 c.put_port.new.into.items (behind c.args.into.now.items whole) c.from_residual.ensures.1
    (still_refused (behind c.loop-port.into.items (lower_ports path scope (port ∷ []))) (behind c.args.into.now.items whole)
    (λ fault put.
    sym c.loop-port.invariant
    ∙ ap (λ (l : List PortForm). behind c.loop-port.into.items (lower_ports path scope (map (port_form words) l)))
    (drop_at c.args.ports.now c.loop-port.port-index c.port-item.result c.loop-port-test.true c.port-item.is)
    ∙ ap (behind c.loop-port.into.items) (ports_open path scope port rest)
    ∙ first_refused c.loop-port.into.items (lower_ports path scope (port ∷ [])) (lower_ports path scope rest) fault put)
    c.in_err-put_port.field-0.0 c.in_err-put_port.ensures)
