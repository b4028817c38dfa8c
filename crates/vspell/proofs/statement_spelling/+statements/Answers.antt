use Rattle.vast.specs.TokenTexts.{texts}
use Rattle.vspell.specs.Spellings.{texts_of}
use Rattle.vast.specs.ExpressionTrees.{tree_of}
use Rattle.vast.specs.Statements.{spell_statement}
use Rattle.vast.specs.StatementTrees.{statement_tree, branch_trees}
use Rattle.vspell.specs.Inner.{case_head_words, case_words}
use Rattle.vspell.proofs.SpellLemmas.{puts_as, puts_twice, block_spelled, case_spelled}
use Rattle.vspell.proofs.statement_spelling.+statements.Goals as goal

pub put_statement-returns-in-Block : goal.put_statement-returns-in-Block
put_statement-returns-in-Block t c =
    puts_as c.put_block.result (texts_of c.args.out.now.items) (texts_of c.put_block.new.out.items) _ _
    (block_spelled (texts c.args.words.now) c.args.statement.now c.in-Block.name c.in-Block.statements c.deref.result.now c.in-Block.is c.deref.ensures.value)
    c.put_block.ensures

pub put_statement-returns-in_ok-put_case_head-in-Case : goal.put_statement-returns-in_ok-put_case_head-in-Case
put_statement-returns-in_ok-put_case_head-in-Case t c =
    let words = texts c.args.words.now in
    puts_twice c.put_case_end.result (texts_of c.args.out.now.items) (texts_of c.put_case_head.new.out.items) (texts_of c.put_case_end.new.out.items)
    (case_head_words c.in-Case.kind (tree_of words c.deref-in-Case.result.now)) (case_words (branch_trees words c.deref-in-Case-2.result.now))
    (spell_statement (statement_tree words c.args.statement.now))
    c.in_ok-put_case_head-in-Case.ensures
    (case_spelled words c.args.statement.now c.in-Case.at c.in-Case.kind c.in-Case.value c.in-Case.branches c.deref-in-Case.result.now
    c.deref-in-Case-2.result.now c.in-Case.is c.deref-in-Case.ensures c.deref-in-Case-2.ensures.value)
    c.put_case_end.ensures
