use Rattle.std.proofs.Common.{◌+◌, List, drop, sym, ap, ◌∙◌}
use Rattle.vexpr_parse.specs.Texts.{words_of}
use Rattle.vmodules.specs.declared.ports.PortForm.{PortForm}
use Rattle.velab_expr.proofs.AnswerLemmas.{hands_on, still_refused}
use Rattle.velab_expr.proofs.ListLemmas.{drop_at}
use Rattle.velab_process.specs.Processes.{with_begins_before}
use Rattle.velab_process.specs.Inner.{join_of, joins_of}
use Rattle.velab_process.proofs.ProcessLemmas.{processes_put, processes_refused}
use Rattle.velab_process.proofs.join.Connector.lower_joins.Goals as goal

pub loop-port-preserved : goal.loop-port-preserved
loop-port-preserved c =
    let words = words_of c.args.self.now.tokens.now in
    let outer = c.args.self.now.outer.now in
    let inner = c.args.self.now.inner.now in
    let connections = c.args.connections.now in
    let rest = drop (c.loop-port.port-index + 1) c.args.ports.now in
    processes_put c.loop-port.into.items (λ t. joins_of words c.args.self.now.whose outer inner connections t rest)
    (join_of words c.args.self.now.whose outer inner connections c.loop-port.table c.port-item.result)
    c.lower_join.new.table c.lower_join.new.into.items c.in_ok-lower_join.ensures
    ∙ ap (λ (l : List PortForm). with_begins_before c.loop-port.into.items (joins_of words c.args.self.now.whose outer inner connections c.loop-port.table l))
    (sym (drop_at c.args.ports.now c.loop-port.port-index c.port-item.result c.loop-port-test.true c.port-item.is))
    ∙ c.loop-port.invariant

pub returns-in_err-lower_join : goal.returns-in_err-lower_join
returns-in_err-lower_join c =
    let words = words_of c.args.self.now.tokens.now in
    let outer = c.args.self.now.outer.now in
    let inner = c.args.self.now.inner.now in
    let connections = c.args.connections.now in
    let before = c.loop-port.into.items in
    let front = join_of words c.args.self.now.whose outer inner connections c.loop-port.table c.port-item.result in
    let rest = drop (c.loop-port.port-index + 1) c.args.ports.now in
    let all = with_begins_before c.args.into.now.items (joins_of words c.args.self.now.whose outer inner connections c.args.table.now c.args.ports.now) in
    hands_on c.from_residual.result c.in_err-lower_join.field-0.0 (record { table = c.lower_join.new.table; begins = c.lower_join.new.into.items }) all c.from_residual.ensures.1
    (still_refused (with_begins_before before front) all
    (λ fault h. sym c.loop-port.invariant
    ∙ ap (λ (l : List PortForm). with_begins_before before (joins_of words c.args.self.now.whose outer inner connections c.loop-port.table l))
    (drop_at c.args.ports.now c.loop-port.port-index c.port-item.result c.loop-port-test.true c.port-item.is)
    ∙ processes_refused before (λ t. joins_of words c.args.self.now.whose outer inner connections t rest) front fault h)
    c.in_err-lower_join.field-0.0 c.in_err-lower_join.ensures)
