use Rattle.vexpr_parse.specs.Texts.{words_of}
use Rattle.vexpr_parse.specs.Answers.{ahead, leaves_ahead}
use Rattle.std.proofs.Common.{codes, sym, ◌∙◌}
use Rattle.vast.specs.StatementTrees.{path_tree}
use Rattle.vexpr_parse.specs.Readers.{past, is_front}
use Rattle.vgrammar.specs.Statements.{path}
use Rattle.vgrammar.proofs.ManyTurns.{pushed}
use Rattle.vstatement_parse.proofs.StatementTurns.{path_eats}
use Rattle.vast.specs.Leaves.{path_leaves}
use Rattle.vstatement_parse.proofs.KeptLists.{kept_next}
use Rattle.vstatement_parse.proofs.paths.paths.Goals as goal

pub paths-smaller : goal.paths-smaller
paths-smaller c =
    let words = words_of c.args.tokens.now in
    let left = ahead c.args.tokens.now in
    path_eats (left c.paths.cursor) (path_tree words c.in_ok-path.path) (left c.further_path.new.cursor) c.in_ok-path.ensures.gives

pub paths-preserved : goal.paths-preserved
paths-preserved c =
    let words = words_of c.args.tokens.now in
    let left = ahead c.args.tokens.now in
    record {
      read =
          pushed (path_tree words) (is_front (codes ",")) (past (codes ",") path) path_eats (left c.paths.cursor)
          (sym c.begins.ensures.front ∙ c.paths-test.true) c.paths.paths.items c.push.new.self.items c.in_ok-path.path
          (left c.further_path.new.cursor) _ c.in_ok-push.ensures.items c.in_ok-path.ensures.gives c.paths.invariant.read;
      kept =
          kept_next path_leaves c.paths.paths.items c.push.new.self.items c.in_ok-path.path (leaves_ahead c.args.tokens.now c.args.cursor.now)
          (leaves_ahead c.args.tokens.now c.paths.cursor) (leaves_ahead c.args.tokens.now c.further_path.new.cursor)
          c.in_ok-push.ensures.items c.in_ok-path.ensures.kept c.paths.invariant.kept;
    }
