use Rattle.std.proofs.Common.{arith}
use Rattle.vast.specs.NumberedTrees.{statement_tree}
use Rattle.vexpr_parse.specs.Texts.{words_of}
use Rattle.module_size.proofs.SizeLemmas.{block_left, case_left, both_left}
use Rattle.module_size.proofs.statements.+statements.Goals as goal

pub take_statement-returns : goal.take_statement-returns
take_statement-returns t c =
    both_left c.args.path (statement_tree (words_of c.args.tokens.now) c.args.statement.now) c.args.left c.take_own-left.result c.take_inner.result
    c.take_own-left.ensures c.take_inner.ensures

pub take_inner-returns-in-Block : goal.take_inner-returns-in-Block
take_inner-returns-in-Block t c =
    block_left (words_of c.args.tokens.now) c.args.left c.take_statements.result c.args.path c.size_inside-path.result c.args.statement.now c.in-Block.name c.in-Block.statements
    c.deref.result.now c.in-Block.is c.deref.ensures.value (omega arith) c.size_inside-path.ensures c.take_statements.ensures

pub take_inner-returns-in-Case : goal.take_inner-returns-in-Case
take_inner-returns-in-Case t c =
    case_left (words_of c.args.tokens.now) c.args.left c.take_branches.result c.args.path c.args.statement.now c.in-Case.at c.in-Case.kind c.in-Case.value c.in-Case.branches
    c.deref-in-Case.result.now c.in-Case.is c.deref-in-Case.ensures.value c.take_branches.ensures
