use Rattle.std.proofs.Common.{arith}
use Rattle.velab_expr.proofs.AnswerLemmas.{still_refused}
use Rattle.vhierarchy.proofs.StepLemmas.{hands_as}
use Rattle.vhierarchy.proofs.InstantiationLemmas.{item_found, item_refused, small_step}
use Rattle.vhierarchy.proofs.instantiation.instantiations_in.Goals as goal

pub loop-item-preserved : goal.loop-item-preserved
loop-item-preserved c =
    let units = c.args.modules.now in
    let counted = c.symbol_count-before.ensures units.words in
    record {
      same = item_found units c.args.items.now c.loop-item.item-index c.item-item.result (omega arith) c.item-item.is c.loop-item.list.items c.loop-item.before _ c.loop-item.invariant.same
          c.put_item.new.into.items c.symbol_count-before.result c.in_ok-put_item.ensures counted;
      small = small_step units c.args.items.now c.loop-item.item-index c.item-item.result (omega arith) c.item-item.is c.loop-item.before c.symbol_count-before.result _ counted
          c.loop-item.invariant.small;
    }

pub returns-in_err-put_item : goal.returns-in_err-put_item
returns-in_err-put_item c =
    let units = c.args.modules.now in
    hands_as _ c.from_residual.result c.in_err-put_item.field-0.0 _ c.from_residual.ensures.1
    (still_refused _ _
    (item_refused units c.args.items.now c.loop-item.item-index c.item-item.result (omega arith) c.item-item.is c.loop-item.list.items c.loop-item.before _ c.loop-item.invariant.same)
    c.in_err-put_item.field-0.0 c.in_err-put_item.ensures)
