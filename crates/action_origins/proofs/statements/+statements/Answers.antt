use Rattle.vexpr_parse.specs.Texts.{words_of}
use Rattle.action_origins.proofs.OriginLemmas.{block_put, block_past, case_put, case_past}
use Rattle.action_origins.proofs.statements.+statements.Goals as goal

pub put_statement-returns-in_ok-behind-in-Block-clause-put : goal.put_statement-returns-in_ok-behind-in-Block-clause-put
put_statement-returns-in_ok-behind-in-Block-clause-put t c =
    block_put (words_of c.args.tokens.now) c.args.statement.now c.in-Block.name c.in-Block.statements c.deref.result.now c.in-Block.is
    c.deref.ensures.value c.args.into.now.items c.put_statements.new.into.items c.args.left c.past_begin.result
    (c.past_begin.ensures (words_of c.args.tokens.now)) c.in_ok-behind-in-Block.ensures.put

pub put_statement-returns-in_ok-behind-in-Block-clause-past : goal.put_statement-returns-in_ok-behind-in-Block-clause-past
put_statement-returns-in_ok-behind-in-Block-clause-past t c =
    block_past (words_of c.args.tokens.now) c.args.statement.now c.in-Block.name c.in-Block.statements c.deref.result.now c.in-Block.is
    c.deref.ensures.value c.args.left c.past_begin.result c.in_ok-behind-in-Block.behind c.saturating_sub-in-Block.result
    (c.past_begin.ensures (words_of c.args.tokens.now)) c.in_ok-behind-in-Block.ensures.past c.saturating_sub-in-Block.ensures

pub put_statement-returns-in_ok-put-in-Case-clause-put : goal.put_statement-returns-in_ok-put-in-Case-clause-put
put_statement-returns-in_ok-put-in-Case-clause-put t c =
    let words = words_of c.args.tokens.now in
    case_put words c.args.statement.now c.in-Case.at c.in-Case.kind c.in-Case.value c.in-Case.branches c.deref-in-Case-2.result.now c.deref-in-Case.result.now
    c.in-Case.is c.deref-in-Case-2.ensures c.deref-in-Case.ensures.value
    c.args.into.now.items c.put_branches.new.into.items c.put-in-Case.new.into.items c.args.left c.past_head-in-Case.result
    (c.past_head-in-Case.ensures words) c.in_ok-behind-in-Case.ensures.put c.in_ok-put-in-Case.ensures

pub put_statement-returns-in_ok-put-in-Case-clause-past : goal.put_statement-returns-in_ok-put-in-Case-clause-past
put_statement-returns-in_ok-put-in-Case-clause-past t c =
    let words = words_of c.args.tokens.now in
    case_past words c.args.statement.now c.in-Case.at c.in-Case.kind c.in-Case.value c.in-Case.branches c.deref-in-Case-2.result.now c.deref-in-Case.result.now
    c.in-Case.is c.deref-in-Case-2.ensures c.deref-in-Case.ensures.value
    c.args.left c.past_head-in-Case.result c.in_ok-behind-in-Case.behind c.saturating_sub-in-Case.result
    (c.past_head-in-Case.ensures words) c.in_ok-behind-in-Case.ensures.past c.saturating_sub-in-Case.ensures
