use Rattle.std.proofs.Common.{◌++◌, refl}
use Rattle.vast.specs.Leaves.{leaves_of}
use Rattle.vexpr_parse.proofs.Kept.{kept_more}
use Rattle.vexpr_parse.specs.Texts.{words_of}
use Rattle.vexpr_parse.specs.Answers.{ahead, leaves_ahead, leaf_here, found_leaves, tree_in}
use Rattle.vexpr_parse.proofs.Turning.{part_fewer, parts_pushed, deepest_so, both_within}
use Rattle.vexpr_parse.proofs.braces.more_parts.Goals as goal

pub parts-smaller : goal.parts-smaller
parts-smaller g c =
    let words = words_of c.args.tokens.now in
    let left = ahead c.args.tokens.now in
    let found = c.requires.reads _ _ 0 _ c.in_ok-part.ensures in
    part_fewer c.args.below (left c.parts.cursor) (left c.pass.new.self) (left c.read.new.arg2) (tree_in words c.in_ok-part.part)
    c.begins.result c.begins.ensures.front c.parts-test.true c.pass.ensures.left found.0

pub parts-preserved : goal.parts-preserved
parts-preserved g c =
    let words = words_of c.args.tokens.now in
    let left = ahead c.args.tokens.now in
    let found = c.requires.reads _ _ 0 _ c.in_ok-part.ensures in
    record {
      read =
          parts_pushed words c.args.below c.parts.trees.items c.push-in-parts.new.self.items c.in_ok-part.part.tree (left c.parts.cursor)
          (left c.pass.new.self) (left c.read.new.arg2) c.begins.result _ c.in_ok-push-2.ensures.items c.begins.ensures.front c.parts-test.true
          c.pass.ensures.left found.0 c.parts.invariant.read;
      kept =
          kept_more leaves_of c.parts.trees.items c.push-in-parts.new.self.items c.in_ok-part.part.tree
          (found_leaves c.args.first ++ leaves_ahead c.args.tokens.now c.args.cursor.now) (leaves_ahead c.args.tokens.now c.parts.cursor)
          (leaf_here c.args.tokens.now c.parts.cursor) (leaves_ahead c.args.tokens.now c.pass.new.self)
          (leaves_ahead c.args.tokens.now c.read.new.arg2) c.in_ok-push-2.ensures.items (c.begins.ensures.kept c.parts-test.true refl)
          c.pass.ensures.kept (c.requires.keeps _ _ 0 _ c.in_ok-part.ensures) c.parts.invariant.kept;
      deep =
          deepest_so words c.parts.trees.items c.push-in-parts.new.self.items c.in_ok-part.part.tree c.parts.depth c.larger-depth.result
          c.in_ok-part.part.depth c.in_ok-push-2.ensures.items c.parts.invariant.deep found.1.0 c.larger-depth.ensures;
      within =
          both_within c.parts.depth c.in_ok-part.part.depth c.larger-depth.result c.args.below c.larger-depth.ensures
          c.parts.invariant.within found.1.1;
    }
