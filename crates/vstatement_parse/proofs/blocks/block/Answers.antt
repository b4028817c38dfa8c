use Rattle.vexpr_parse.specs.Texts.{words_of}
use Rattle.vexpr_parse.specs.Answers.{ahead, leaves_ahead}
use Rattle.vstatement_parse.proofs.StatementTurns.{block_got}
use Rattle.std.proofs.Common.{◌++◌, sym, ap, ◌∙◌, append_assoc}
use Rattle.vast.specs.Leaves.{if_some}
use Rattle.vstatement_parse.specs.Gives.{word_leaves, all_statement_leaves}
use Rattle.vast.proofs.LeafRows.{block_leaves}
use Rattle.vstatement_parse.proofs.blocks.block.Goals as goal

pub returns-clause-gives : goal.returns-clause-gives
returns-clause-gives g c =
    let words = words_of c.args.tokens.now in
    let left = ahead c.args.tokens.now in
    block_got words c.args.below c.in_ok-name.name c.in_ok-statements.statements (left c.args.cursor.now) (left c.name.new.cursor)
    (left c.within.new.cursor) c.in_ok-name.ensures.gives c.in_ok-statements.ensures.gives

pub returns-clause-kept : goal.returns-clause-kept
returns-clause-kept g c =
    let tokens = c.args.tokens.now in
    let own = if_some word_leaves c.in_ok-name.name in
    c.in_ok-name.ensures.kept
    ∙ ap (λ l. own ++ l) c.in_ok-statements.ensures.kept
    ∙ sym (append_assoc own (all_statement_leaves c.in_ok-statements.statements) (leaves_ahead tokens c.within.new.cursor))
    ∙ ap (λ l. l ++ leaves_ahead tokens c.within.new.cursor) (sym (block_leaves c.in_ok-name.name c.in_ok-statements.statements))
