use Rattle.std.proofs.Common.{[], refl}
use Rattle.vast.specs.Leaves.{module_leaves}
use Rattle.vast.specs.ModuleTrees.{module_tree}
use Rattle.vexpr_parse.specs.Answers.{ahead, leaves_ahead}
use Rattle.vexpr_parse.specs.Texts.{words_of}
use Rattle.vexpr_parse.proofs.Kept.{kept_more}
use Rattle.vparse.proofs.KeptTexts.{all_kept, leaves_end}
use Rattle.vparse.proofs.ItemTurns.{module_eats, modules_pushed}
use Rattle.vparse.proofs.texts.source.Goals as goal

pub modules-smaller : goal.modules-smaller
modules-smaller g c =
    let left = ahead c.args.tokens.now in
    module_eats (left c.modules.cursor) (module_tree (words_of c.args.tokens.now) c.in_ok-one.one) (left c.module_tree.new.cursor)
    c.in_ok-one.ensures.gives

pub modules-preserved : goal.modules-preserved
modules-preserved g c =
    let left = ahead c.args.tokens.now in
    let kept = leaves_ahead c.args.tokens.now in
    record {
      read =
          modules_pushed (words_of c.args.tokens.now) (left c.modules.cursor) c.is_left.result c.is_left.ensures c.modules-test.true
          c.modules.modules.items c.push.new.self.items c.in_ok-one.one (left c.module_tree.new.cursor) _ c.in_ok-push.ensures.items
          c.in_ok-one.ensures.gives c.modules.invariant.read;
      kept =
          kept_more module_leaves c.modules.modules.items c.push.new.self.items c.in_ok-one.one (kept c.args.cursor.now)
          (kept c.modules.cursor) [] (kept c.modules.cursor) (kept c.module_tree.new.cursor) c.in_ok-push.ensures.items refl refl
          c.in_ok-one.ensures.kept c.modules.invariant.kept;
    }

pub returns-clause-kept : goal.returns-clause-kept
returns-clause-kept g c =
    let kept = leaves_ahead c.args.tokens.now in
    all_kept module_leaves c.modules.modules.items (kept c.args.cursor.now) (kept c.modules.cursor) c.modules.invariant.kept
    (leaves_end c.args.tokens.now c.modules.cursor c.is_left.result c.is_left.ensures c.modules-test.false)
