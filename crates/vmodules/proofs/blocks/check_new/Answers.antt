use Rattle.std.proofs.Common.{◌≡◌, ℕ, List, get_or, true, refl, arith}
use Rattle.vast.specs.NumberedWords.{word_of}
use Rattle.vast.specs.declared.token.Token.{Token}
use Rattle.vexpr_parse.specs.Texts.{words_of}
use Rattle.vmodules.specs.Names.{is_declared, again_behind}
use Rattle.vmodules.specs.Inner.{words_told, IsTold}
use Rattle.vmodules.proofs.ListLemmas.{handed_on, word_new, word_again, none_again, within_same}
use Rattle.vmodules.proofs.blocks.check_new.Goals as goal

abbrev token_at : List Token → ℕ → Token
token_at list i = get_or list i (record { number = 0 })

pub loop-token-preserved : goal.loop-token-preserved
loop-token-preserved c =
    let words = words_of c.args.tokens.now in
    let list = c.args.list.now in
    let at = c.loop-token.token-index in
    word_new list at (token_at list at) c.loop-token-test.true (within_same list at _ _ c.loop-token-test.true) (words_told words) (word_of words)
    (λ y ys. refl) c.loop-token.names (word_of words (token_at list at)).letters refl c.add_token.new.into _ c.in_ok-add_token.ensures.added
    c.in_ok-add_token.ensures.fresh c.loop-token.invariant

pub returns-in_err-add_token-clause-err : goal.returns-in_err-add_token-clause-err
returns-in_err-add_token-clause-err c =
    let words = words_of c.args.tokens.now in
    let list = c.args.list.now in
    let at = c.loop-token.token-index in
    let token = token_at list at in
    handed_on (λ f. (is_declared c.loop-token.names (word_of words token).letters ≡ true) × (f.at ≡ token.number))
    (λ f. IsTold (again_behind c.args.names.now (words_told words list)) f.at)
    c.from_residual.result c.in_err-add_token.field-0.0 c.from_residual.ensures.1
    (λ f there. word_again list at token c.loop-token-test.true (within_same list at _ _ c.loop-token-test.true) (words_told words) (word_of words)
    (λ y ys. refl) c.loop-token.names (word_of words token).letters refl _ f.at there.1 there.0 c.loop-token.invariant)
    c.in_err-add_token.ensures.err

pub returns-clause-none : goal.returns-clause-none
returns-clause-none c =
    none_again c.args.list.now c.loop-token.token-index (omega (arith, c.loop-token-test.false)) (words_told (words_of c.args.tokens.now)) refl
    c.loop-token.names _ c.loop-token.invariant
