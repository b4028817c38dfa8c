use Rattle.std.proofs.Common.{[], refl}
use Rattle.vast.specs.Leaves.{item_leaves}
use Rattle.vast.specs.ModuleTrees.{item_tree}
use Rattle.vexpr_parse.specs.Answers.{ahead, leaves_ahead}
use Rattle.vexpr_parse.specs.Texts.{words_of}
use Rattle.vexpr_parse.proofs.Kept.{kept_more}
use Rattle.vparse.proofs.ItemTurns.{item_eats, items_pushed}
use Rattle.vparse.proofs.module_trees.all_items.Goals as goal

pub items-smaller : goal.items-smaller
items-smaller g c =
    let left = ahead c.args.tokens.now in
    item_eats (left c.items.cursor) (item_tree (words_of c.args.tokens.now) c.in_ok-one.one) (left c.item.new.cursor)
    c.in_ok-one.ensures.gives

pub items-preserved : goal.items-preserved
items-preserved g c =
    let left = ahead c.args.tokens.now in
    let kept = leaves_ahead c.args.tokens.now in
    record {
      read =
          items_pushed (words_of c.args.tokens.now) (left c.items.cursor) c.goes_on.result c.goes_on.ensures c.items-test.true
          c.items.items.items c.push.new.self.items c.in_ok-one.one (left c.item.new.cursor) _ c.in_ok-push.ensures.items
          c.in_ok-one.ensures.gives c.items.invariant.read;
      kept =
          kept_more item_leaves c.items.items.items c.push.new.self.items c.in_ok-one.one (kept c.args.cursor.now) (kept c.items.cursor) []
          (kept c.items.cursor) (kept c.item.new.cursor) c.in_ok-push.ensures.items refl refl c.in_ok-one.ensures.kept
          c.items.invariant.kept;
    }
