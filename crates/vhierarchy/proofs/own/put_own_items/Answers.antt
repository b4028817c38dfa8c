use Rattle.std.proofs.Common.{List, ap, ◌∙◌}
use Rattle.vast.specs.declared.module.ModuleItem.{ModuleItem}
use Rattle.vast.specs.NumberedTrees.{module_tree}
use Rattle.vexpr_parse.specs.Texts.{words_of}
use Rattle.vmodules.specs.Placed.{placed_items}
use Rattle.velab_expr.proofs.AnswerLemmas.{hands_on, still_refused}
use Rattle.velab_process.specs.Processes.{lower_items, with_begins_before}
use Rattle.velab_process.specs.Inner.{processes_of, values_of}
use Rattle.velab_process.proofs.ProcessLemmas.{values_put, values_refused}
use Rattle.vhierarchy.proofs.StepLemmas.{same_made}
use Rattle.vhierarchy.proofs.own.put_own_items.Goals as goal

pub returns-in_err-put_port_values : goal.returns-in_err-put_port_values
returns-in_err-put_port_values c =
    let words = words_of c.args.tokens.now in
    let path = c.args.path.now in
    let scope = c.args.scope.now in
    let unit = c.args.unit.now in
    let before = c.args.into.now.items in
    let now = c.args.table.now in
    hands_on c.from_residual.result c.in_err-put_port_values.field-0.0 _ _ c.from_residual.ensures.1
    (still_refused (with_begins_before before (values_of words scope now unit.ports)) (with_begins_before before (lower_items scope now (placed_items path (module_tree words unit))))
    (λ fault is. values_refused words path scope unit before now fault is)
    c.in_err-put_port_values.field-0.0 c.in_err-put_port_values.ensures.makes)

pub returns : goal.returns
returns c =
    let words = words_of c.args.tokens.now in
    let scope = c.args.scope.now in
    let after = c.put_port_values.new.table in
    let begins = c.put_port_values.new.into.items in
    same_made c.put_processes.result _ _ _
    (ap (λ (l : List ModuleItem). with_begins_before begins (processes_of words c.args.path.now scope after l)) c.deref.ensures.value
    ∙ values_put words c.args.path.now scope c.args.unit.now c.args.into.now.items c.args.table.now after begins c.in_ok-put_port_values.ensures.makes)
    c.put_processes.ensures.makes
