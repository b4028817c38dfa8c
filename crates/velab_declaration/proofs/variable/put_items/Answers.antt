use Rattle.std.proofs.Common.{◌+◌, List, Result, length, drop, map, ap, arith}
use Rattle.std.specs.List.{flat_map}
use Rattle.vdesign.specs.Design.{Variable}
use Rattle.velab_expr.specs.declared.fault.ElabFault.{ElabFault}
use Rattle.std.proofs.lemmas.List.{length-append}
use Rattle.vast.specs.NumberedTrees.{item_tree}
use Rattle.vast.specs.declared.module.ModuleItem.{ModuleItem}
use Rattle.vexpr_parse.specs.Texts.{words_of}
use Rattle.vmodules.specs.Inner.{own_in}
use Rattle.velab_declaration.specs.Inner.{own_tree}
use Rattle.velab_expr.specs.Answers.{behind}
use Rattle.velab_expr.specs.Symbols.{symbols_by}
use Rattle.velab_declaration.specs.Variables.{lower_declaration, lower_variables}
use Rattle.velab_expr.proofs.AnswerLemmas.{hands_on, still_refused}
use Rattle.velab_expr.proofs.ListLemmas.{drop_at}
use Rattle.velab_declaration.proofs.VariableLemmas.{item_put, item_refused}
use Rattle.velab_declaration.proofs.variable.put_items.Goals as goal

pub loop-item-preserved : goal.loop-item-preserved
loop-item-preserved c =
    let words = words_of c.args.tokens.now in
    let items = c.args.items.now in
    let rest = drop (c.loop-item.item-index + 1) items in
    let counted = c.symbol_count-known.ensures words in
    let opens =
    ap (λ (l : List ModuleItem). length (flat_map symbols_by (map (item_tree words) l))) (drop_at items c.loop-item.item-index c.item-item.result c.loop-item-test.true c.item-item.is) in
    let both = length-append (symbols_by (item_tree words c.item-item.result)) (flat_map symbols_by (map (item_tree words) rest)) in
    record {
      same =
          item_put words c.args.made.now c.args.path.now c.args.scope.now items c.loop-item.item-index c.item-item.result c.loop-item-test.true c.item-item.is c.loop-item.known
          c.at-here.result c.at-here.ensures c.loop-item.into.items _ c.loop-item.invariant.same c.symbol_count-known.result counted c.put_item.new.into.items c.in_ok-put_item.ensures;
      small = omega (arith, counted, opens, both, c.loop-item.invariant.small);
    }

pub returns-in_err-put_item : goal.returns-in_err-put_item
returns-in_err-put_item c =
    let words = words_of c.args.tokens.now in
    let all : Result (List Variable) ElabFault = behind c.args.into.now.items (lower_variables c.args.path.now c.args.scope.now (own_in words c.args.made.now c.args.items.now)) in
    hands_on c.from_residual.result c.in_err-put_item.field-0.0 c.put_item.new.into.items all c.from_residual.ensures.1
    (still_refused (behind c.loop-item.into.items (lower_declaration c.args.path.now c.at-here.result (own_tree words c.args.made.now c.item-item.result))) all
    (item_refused words c.args.made.now c.args.path.now c.args.scope.now c.args.items.now c.loop-item.item-index c.item-item.result c.loop-item-test.true c.item-item.is c.loop-item.known
    c.at-here.result c.at-here.ensures c.loop-item.into.items all c.loop-item.invariant.same)
    c.in_err-put_item.field-0.0 c.in_err-put_item.ensures)
