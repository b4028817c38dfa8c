use Rattle.vexpr_parse.specs.Texts.{words_of}
use Rattle.vexpr_parse.specs.Answers.{ahead, leaves_ahead}
use Rattle.std.proofs.Common.{not, codes, sym, ap, ◌∙◌}
use Rattle.vast.specs.StatementTrees.{statement_tree}
use Rattle.vexpr_parse.specs.Readers.{is_front}
use Rattle.vgrammar.specs.Statements.{statement}
use Rattle.vgrammar.proofs.ManyTurns.{pushed}
use Rattle.vstatement_parse.proofs.StatementTurns.{statement_eats}
use Rattle.vast.specs.Leaves.{statement_leaves}
use Rattle.vstatement_parse.proofs.KeptLists.{kept_next}
use Rattle.vstatement_parse.proofs.blocks.list.Goals as goal

pub list-smaller : goal.list-smaller
list-smaller g c =
    let words = words_of c.args.tokens.now in
    let left = ahead c.args.tokens.now in
    statement_eats c.args.below (left c.list.cursor) (statement_tree words c.in_ok-statement.statement) (left c.read.new.arg2)
    (c.requires.reads _ _ _ c.in_ok-statement.ensures)

pub list-preserved : goal.list-preserved
list-preserved g c =
    let words = words_of c.args.tokens.now in
    let left = ahead c.args.tokens.now in
    record {
      read =
          pushed (statement_tree words) (λ next. not (is_front (codes "end") next)) (statement c.args.below) (statement_eats c.args.below)
          (left c.list.cursor) (ap not (sym c.begins.ensures.front ∙ c.list-test.true))
          c.list.list.items c.push.new.self.items c.in_ok-statement.statement (left c.read.new.arg2) _ c.in_ok-push.ensures.items
          (c.requires.reads _ _ _ c.in_ok-statement.ensures) c.list.invariant.read;
      kept =
          kept_next statement_leaves c.list.list.items c.push.new.self.items c.in_ok-statement.statement (leaves_ahead c.args.tokens.now c.args.cursor.now)
          (leaves_ahead c.args.tokens.now c.list.cursor) (leaves_ahead c.args.tokens.now c.read.new.arg2)
          c.in_ok-push.ensures.items (c.requires.keeps _ _ _ c.in_ok-statement.ensures) c.list.invariant.kept;
    }
