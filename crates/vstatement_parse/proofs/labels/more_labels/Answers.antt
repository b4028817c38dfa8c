use Rattle.vexpr_parse.specs.Texts.{words_of}
use Rattle.vexpr_parse.specs.Answers.{ahead, leaves_ahead}
use Rattle.std.proofs.Common.{codes, sym, ◌∙◌, ◌++◌}
use Rattle.vast.specs.ExpressionTrees.{tree_of}
use Rattle.vexpr_parse.specs.Readers.{past, is_front}
use Rattle.vgrammar.specs.Statements.{value}
use Rattle.vgrammar.proofs.ManyTurns.{pushed}
use Rattle.vstatement_parse.proofs.CaseTurns.{label_eats}
use Rattle.vast.specs.Leaves.{leaves_of}
use Rattle.vstatement_parse.proofs.KeptLists.{kept_next}
use Rattle.vstatement_parse.proofs.labels.more_labels.Goals as goal

pub labels-smaller : goal.labels-smaller
labels-smaller c =
    let words = words_of c.args.tokens.now in
    let left = ahead c.args.tokens.now in
    label_eats c.args.below (left c.labels.cursor) (tree_of words c.in_ok-label.label) (left c.further_label.new.cursor) c.in_ok-label.ensures.gives

pub labels-preserved : goal.labels-preserved
labels-preserved c =
    let words = words_of c.args.tokens.now in
    let left = ahead c.args.tokens.now in
    record {
      read =
          pushed (tree_of words) (is_front (codes ",")) (past (codes ",") (value c.args.below)) (label_eats c.args.below)
          (left c.labels.cursor) (sym c.begins.ensures.front ∙ c.labels-test.true) c.labels.labels.items c.push-in-labels.new.self.items c.in_ok-label.label
          (left c.further_label.new.cursor) _ c.in_ok-push-2.ensures.items c.in_ok-label.ensures.gives c.labels.invariant.read;
      kept =
          kept_next leaves_of c.labels.labels.items c.push-in-labels.new.self.items c.in_ok-label.label (leaves_of c.args.first ++ leaves_ahead c.args.tokens.now c.args.cursor.now)
          (leaves_ahead c.args.tokens.now c.labels.cursor) (leaves_ahead c.args.tokens.now c.further_label.new.cursor)
          c.in_ok-push-2.ensures.items c.in_ok-label.ensures.kept c.labels.invariant.kept;
    }
