use Rattle.std.proofs.Common.{◌∙◌}
use Rattle.vexpr_parse.specs.Texts.{words_of}
use Rattle.vexpr_parse.specs.Answers.{ahead, tree_in}
use Rattle.vexpr_parse.proofs.Turning.{operators_on, operator_fewer}
use Rattle.vexpr_parse.proofs.operators.operators.Goals as goal

pub turns-smaller : goal.turns-smaller
turns-smaller g c =
    let words = words_of c.args.tokens.now in
    let left = ahead c.args.tokens.now in
    operator_fewer c.args.below c.args.least (tree_in words c.turns.left) (tree_in words c.in_ok-left.left) (left c.turns.cursor) (left c.turn.new.cursor)
    c.in_ok-left.ensures.finds.0

pub turns-preserved : goal.turns-preserved
turns-preserved g c =
    let words = words_of c.args.tokens.now in
    let left = ahead c.args.tokens.now in record {
      read =
          operators_on c.args.below c.args.least (tree_in words c.turns.left) (tree_in words c.in_ok-left.left) (left c.turns.cursor) (left c.turn.new.cursor)
          c.operator.result c.in-Some.operator _ c.operator.ensures c.in-Some.is c.in_ok-left.ensures.finds.0 c.turns.invariant.read;
      kept = c.turns.invariant.kept ∙ c.in_ok-left.ensures.kept;
      measured = c.in_ok-left.ensures.finds.1;
    }
