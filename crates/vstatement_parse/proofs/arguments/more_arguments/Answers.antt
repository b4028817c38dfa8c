use Rattle.vexpr_parse.specs.Texts.{words_of}
use Rattle.vexpr_parse.specs.Answers.{ahead, leaves_ahead}
use Rattle.std.proofs.Common.{codes, sym, ◌∙◌, ◌++◌}
use Rattle.vast.specs.StatementTrees.{argument_tree}
use Rattle.vexpr_parse.specs.Readers.{past, is_front}
use Rattle.vgrammar.specs.Statements.{argument}
use Rattle.vgrammar.proofs.ManyTurns.{pushed}
use Rattle.vstatement_parse.proofs.StatementTurns.{argument_eats}
use Rattle.vast.specs.Leaves.{argument_leaves}
use Rattle.vstatement_parse.proofs.KeptLists.{kept_next}
use Rattle.vstatement_parse.proofs.arguments.more_arguments.Goals as goal

pub list-smaller : goal.list-smaller
list-smaller c =
    let words = words_of c.args.tokens.now in
    let left = ahead c.args.tokens.now in
    argument_eats c.args.below c.requires.some (left c.list.cursor) (argument_tree words c.in_ok-argument.argument) (left c.further_argument.new.cursor)
    c.in_ok-argument.ensures.gives

pub list-preserved : goal.list-preserved
list-preserved c =
    let words = words_of c.args.tokens.now in
    let left = ahead c.args.tokens.now in
    record {
      read =
          pushed (argument_tree words) (is_front (codes ",")) (past (codes ",") (argument c.args.below)) (argument_eats c.args.below c.requires.some)
          (left c.list.cursor) (sym c.begins.ensures.front ∙ c.list-test.true) c.list.list.items c.push-in-list.new.self.items c.in_ok-argument.argument
          (left c.further_argument.new.cursor) _ c.in_ok-push-2.ensures.items c.in_ok-argument.ensures.gives c.list.invariant.read;
      kept =
          kept_next argument_leaves c.list.list.items c.push-in-list.new.self.items c.in_ok-argument.argument (argument_leaves c.args.first ++ leaves_ahead c.args.tokens.now c.args.cursor.now)
          (leaves_ahead c.args.tokens.now c.list.cursor) (leaves_ahead c.args.tokens.now c.further_argument.new.cursor)
          c.in_ok-push-2.ensures.items c.in_ok-argument.ensures.kept c.list.invariant.kept;
    }
