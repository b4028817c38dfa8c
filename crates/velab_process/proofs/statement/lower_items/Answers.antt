use Rattle.std.proofs.Common.{◌<◌, ◌+◌, ◌^◌, List, drop, length, map, sym, ap, subst, ◌∙◌}
use Rattle.std.specs.List.{flat_map}
use Rattle.vast.specs.NumberedTrees.{item_tree}
use Rattle.vast.specs.declared.module.ModuleItem.{ModuleItem}
use Rattle.vexpr_parse.specs.Texts.{words_of}
use Rattle.velab_expr.specs.Scopes.{Scope, at}
use Rattle.velab_expr.specs.Symbols.{symbols_by}
use Rattle.velab_expr.proofs.AnswerLemmas.{hands_on, still_refused}
use Rattle.velab_expr.proofs.ListLemmas.{drop_at}
use Rattle.velab_process.specs.Processes.{with_begins_before}
use Rattle.velab_process.specs.Inner.{item_at, processes_of, processes_of_item}
use Rattle.velab_process.proofs.ProcessLemmas.{item_put, fewer_given, processes_refused}
use Rattle.velab_process.proofs.statement.lower_items.Goals as goal

pub loop-item-preserved : goal.loop-item-preserved
loop-item-preserved c =
    let words = words_of c.args.tokens.now in
    let path = c.args.path.now in
    let items = c.args.items.now in
    let rest = drop (c.loop-item.item-index + 1) items in
    record {
      same =
          item_put words path c.args.scope.now items c.loop-item.item-index c.item-item.result c.loop-item-test.true c.item-item.is c.loop-item.known c.symbol_count-known.result
          c.at-here.result c.at-here.ensures (c.symbol_count-known.ensures words) c.loop-item.table c.lower_item.new.table c.loop-item.into.items c.lower_item.new.into.items _
          c.in_ok-lower_item.ensures c.loop-item.invariant.same;
      small =
          subst (λ n. (c.loop-item.known + n) + length (flat_map symbols_by (map (item_tree words) rest)) < 2 ^ 64) (sym (c.symbol_count-known.ensures words))
          (fewer_given words items c.loop-item.item-index c.item-item.result c.loop-item-test.true c.item-item.is c.loop-item.known c.loop-item.invariant.small);
    }

pub returns-in_err-lower_item : goal.returns-in_err-lower_item
returns-in_err-lower_item c =
    let words = words_of c.args.tokens.now in
    let path = c.args.path.now in
    let scope = c.args.scope.now in
    let before = c.loop-item.into.items in
    let here = at scope c.loop-item.known in
    let later = at scope (c.loop-item.known + length (symbols_by (item_at words path c.item-item.result))) in
    let rest = drop (c.loop-item.item-index + 1) c.args.items.now in
    let all = with_begins_before c.args.into.now.items (processes_of words path scope c.args.table.now c.args.items.now) in
    hands_on c.from_residual.result c.in_err-lower_item.field-0.0 (record { table = c.lower_item.new.table; begins = c.lower_item.new.into.items }) all c.from_residual.ensures.1
    (still_refused (with_begins_before before (processes_of_item words path c.at-here.result c.loop-item.table c.item-item.result)) all
    (λ fault h. sym c.loop-item.invariant.same
    ∙ ap (λ (l : List ModuleItem). with_begins_before before (processes_of words path here c.loop-item.table l))
    (drop_at c.args.items.now c.loop-item.item-index c.item-item.result c.loop-item-test.true c.item-item.is)
    ∙ processes_refused before (λ t. processes_of words path later t rest) (processes_of_item words path here c.loop-item.table c.item-item.result) fault
    (ap (λ (s : Scope). with_begins_before before (processes_of_item words path s c.loop-item.table c.item-item.result)) (sym c.at-here.ensures) ∙ h))
    c.in_err-lower_item.field-0.0 c.in_err-lower_item.ensures)
