use Rattle.vexpr_parse.specs.Texts.{words_of}
use Rattle.module_size.proofs.SizeLemmas.{case_value_left}
use Rattle.module_size.proofs.statements.take_own.Goals as goal

pub returns-in-Case : goal.returns-in-Case
returns-in-Case c =
    case_value_left (words_of c.args.tokens.now) c.args.left c.take_expression-in-Case.result c.args.path c.args.statement.now c.in-Case.at c.in-Case.kind c.in-Case.value c.in-Case.branches
    c.deref-in-Case.result.now c.in-Case.is c.deref-in-Case.ensures (c.take_expression-in-Case.ensures (words_of c.args.tokens.now))
