use Rattle.std.proofs.Common.{[], ◌∷◌, ◌+◌, List, drop, sym, ap, ◌∙◌}
use Rattle.vexpr_parse.specs.Texts.{words_of}
use Rattle.velab_expr.proofs.AnswerLemmas.{hands_on, still_refused}
use Rattle.velab_process.specs.Processes.{ProcessTree, with_begins_before, lower_processes}
use Rattle.velab_process.specs.Inner.{values_in}
use Rattle.velab_process.proofs.ProcessLemmas.{processes_put, processes_refused, processes_split, values_open}
use Rattle.velab_process.proofs.elaborator.Elaborator.lower_ports.Goals as goal

pub loop-one-preserved : goal.loop-one-preserved
loop-one-preserved c =
    let words = words_of c.args.self.now.tokens.now in
    let scope = c.args.self.now.scope.now in
    let front = values_in words (c.one-item.result ∷ []) in
    let rest = values_in words (drop (c.loop-one.one-index + 1) c.args.list.now) in
    processes_put c.loop-one.into.items (λ t. lower_processes scope t rest) (lower_processes scope c.loop-one.table front)
    c.lower_port.new.table c.lower_port.new.into.items c.in_ok-lower_port.ensures
    ∙ ap (with_begins_before c.loop-one.into.items)
    (sym (processes_split scope c.loop-one.table front rest)
    ∙ ap (λ (l : List ProcessTree). lower_processes scope c.loop-one.table l)
    (sym (values_open words c.args.list.now c.loop-one.one-index c.one-item.result c.loop-one-test.true c.one-item.is)))
    ∙ c.loop-one.invariant

pub returns-in_err-lower_port : goal.returns-in_err-lower_port
returns-in_err-lower_port c =
    let words = words_of c.args.self.now.tokens.now in
    let scope = c.args.self.now.scope.now in
    let before = c.loop-one.into.items in
    let front = values_in words (c.one-item.result ∷ []) in
    let rest = values_in words (drop (c.loop-one.one-index + 1) c.args.list.now) in
    let all = with_begins_before c.args.into.now.items (lower_processes scope c.args.table.now (values_in words c.args.list.now)) in
    hands_on c.from_residual.result c.in_err-lower_port.field-0.0 (record { table = c.lower_port.new.table; begins = c.lower_port.new.into.items }) all c.from_residual.ensures.1
    (still_refused (with_begins_before before (lower_processes scope c.loop-one.table front)) all
    (λ fault h. sym c.loop-one.invariant
    ∙ ap (λ (l : List ProcessTree). with_begins_before before (lower_processes scope c.loop-one.table l))
    (values_open words c.args.list.now c.loop-one.one-index c.one-item.result c.loop-one-test.true c.one-item.is)
    ∙ ap (with_begins_before before) (processes_split scope c.loop-one.table front rest)
    ∙ processes_refused before (λ t. lower_processes scope t rest) (lower_processes scope c.loop-one.table front) fault h)
    c.in_err-lower_port.field-0.0 c.in_err-lower_port.ensures)
