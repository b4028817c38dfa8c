use Rattle.std.proofs.Common.{[], ◌∷◌, ◌+◌, List, drop, sym, ap, ◌∙◌}
use Rattle.vast.specs.declared.module.NetAssignment.{NetAssignment}
use Rattle.vexpr_parse.specs.Texts.{words_of}
use Rattle.velab_expr.proofs.AnswerLemmas.{hands_on, still_refused}
use Rattle.velab_expr.proofs.ListLemmas.{drop_at}
use Rattle.velab_process.specs.Processes.{with_begins_before, lower_processes}
use Rattle.velab_process.specs.Inner.{drives_in}
use Rattle.velab_process.proofs.ProcessLemmas.{processes_put, processes_refused, processes_split}
use Rattle.velab_process.proofs.elaborator.Elaborator.lower_drives.Goals as goal

pub loop-one-preserved : goal.loop-one-preserved
loop-one-preserved c =
    let words = words_of c.args.self.now.tokens.now in
    let scope = c.args.self.now.scope.now in
    let front = drives_in words (c.one-item.result ∷ []) in
    let rest = drives_in words (drop (c.loop-one.one-index + 1) c.args.list.now) in
    processes_put c.loop-one.into.items (λ t. lower_processes scope t rest) (lower_processes scope c.loop-one.table front)
    c.lower_net_assignment.new.table c.lower_net_assignment.new.into.items c.in_ok-lower_net_assignment.ensures
    ∙ ap (with_begins_before c.loop-one.into.items)
    (sym (processes_split scope c.loop-one.table front rest)
    ∙ ap (λ (l : List NetAssignment). lower_processes scope c.loop-one.table (drives_in words l))
    (sym (drop_at c.args.list.now c.loop-one.one-index c.one-item.result c.loop-one-test.true c.one-item.is)))
    ∙ c.loop-one.invariant

pub returns-in_err-lower_net_assignment : goal.returns-in_err-lower_net_assignment
returns-in_err-lower_net_assignment c =
    let words = words_of c.args.self.now.tokens.now in
    let scope = c.args.self.now.scope.now in
    let before = c.loop-one.into.items in
    let front = drives_in words (c.one-item.result ∷ []) in
    let rest = drives_in words (drop (c.loop-one.one-index + 1) c.args.list.now) in
    let all = with_begins_before c.args.into.now.items (lower_processes scope c.args.table.now (drives_in words c.args.list.now)) in
    hands_on c.from_residual.result c.in_err-lower_net_assignment.field-0.0 (record { table = c.lower_net_assignment.new.table; begins = c.lower_net_assignment.new.into.items }) all c.from_residual.ensures.1
    (still_refused (with_begins_before before (lower_processes scope c.loop-one.table front)) all
    (λ fault h. sym c.loop-one.invariant
    ∙ ap (λ (l : List NetAssignment). with_begins_before before (lower_processes scope c.loop-one.table (drives_in words l)))
    (drop_at c.args.list.now c.loop-one.one-index c.one-item.result c.loop-one-test.true c.one-item.is)
    ∙ ap (with_begins_before before) (processes_split scope c.loop-one.table front rest)
    ∙ processes_refused before (λ t. lower_processes scope t rest) (lower_processes scope c.loop-one.table front) fault h)
    c.in_err-lower_net_assignment.field-0.0 c.in_err-lower_net_assignment.ensures)
