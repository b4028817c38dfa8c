use Rattle.std.proofs.Common.{◌≡◌, ◌++◌, List, OnOk, subst}
use Rattle.vast.specs.NumberedWords.{Word}
use Rattle.vexpr_parse.specs.Texts.{words_of}
use Rattle.vmodules.specs.Inner.{words_told}
use Rattle.vmodules.proofs.BlockLemmas.{blocks_block, blocks_case}
use Rattle.vmodules.proofs.blocks.+statements.Goals as goal

pub add_blocks-returns-in-Block : goal.add_blocks-returns-in-Block
add_blocks-returns-in-Block t c =
    let words = words_of c.args.tokens.now in
    subst (λ (ws : List Word). OnOk c.add_block.result (words_told words c.add_block.new.into.items ≡ words_told words c.args.into.now.items ++ ws))
    (blocks_block words c.args.statement.now c.in-Block.name c.in-Block.statements c.deref.result.now c.in-Block.is c.deref.ensures.value)
    c.add_block.ensures

pub add_blocks-returns-in-Case : goal.add_blocks-returns-in-Case
add_blocks-returns-in-Case t c =
    let words = words_of c.args.tokens.now in
    subst (λ (ws : List Word). OnOk c.add_branches.result (words_told words c.add_branches.new.into.items ≡ words_told words c.args.into.now.items ++ ws))
    (blocks_case words c.args.statement.now c.in-Case.at c.in-Case.kind c.in-Case.value c.in-Case.branches c.deref-in-Case.result.now c.in-Case.is
    c.deref-in-Case.ensures.value)
    c.add_branches.ensures
