use Rattle.std.proofs.Common.{◌++◌, refl}
use Rattle.vexpr_parse.specs.Texts.{words_of}
use Rattle.vexpr_parse.specs.Answers.{ahead, leaves_ahead, leaf_here}
use Rattle.vast.specs.StatementTrees.{target_tree}
use Rattle.vstatement_parse.proofs.TargetTurns.{target_fewer, targets_pushed}
use Rattle.vast.specs.Leaves.{target_leaves}
use Rattle.vexpr_parse.proofs.Kept.{kept_more}
use Rattle.vstatement_parse.proofs.targets.more_targets.Goals as goal

pub targets-smaller : goal.targets-smaller
targets-smaller g c =
    let words = words_of c.args.tokens.now in
    let left = ahead c.args.tokens.now in
    target_fewer c.args.below (left c.targets.cursor) (left c.pass.new.self) c.begins.result c.begins.ensures.front c.targets-test.true c.pass.ensures.left
    (left c.read.new.arg2) (target_tree words c.in_ok-target.target) (c.requires.reads _ _ _ c.in_ok-target.ensures)

pub targets-preserved : goal.targets-preserved
targets-preserved g c =
    let words = words_of c.args.tokens.now in
    let left = ahead c.args.tokens.now in
    record {
      read =
          targets_pushed c.args.below (left c.targets.cursor) (left c.pass.new.self) c.begins.result c.begins.ensures.front c.targets-test.true c.pass.ensures.left words
          c.targets.targets.items c.push-in-targets.new.self.items c.in_ok-target.target (left c.read.new.arg2) _ c.in_ok-push-2.ensures.items
          (c.requires.reads _ _ _ c.in_ok-target.ensures) c.targets.invariant.read;
      kept =
          kept_more target_leaves c.targets.targets.items c.push-in-targets.new.self.items c.in_ok-target.target
          (target_leaves c.args.first ++ leaves_ahead c.args.tokens.now c.args.cursor.now) (leaves_ahead c.args.tokens.now c.targets.cursor)
          (leaf_here c.args.tokens.now c.targets.cursor) (leaves_ahead c.args.tokens.now c.pass.new.self)
          (leaves_ahead c.args.tokens.now c.read.new.arg2) c.in_ok-push-2.ensures.items (c.begins.ensures.kept c.targets-test.true refl)
          c.pass.ensures.kept (c.requires.keeps _ _ _ c.in_ok-target.ensures) c.targets.invariant.kept;
    }
