use Rattle.std.proofs.Common.{◌≡◌, ℕ, List, get_or, true, refl, arith}
use Rattle.vast.specs.NumberedWords.{word_of}
use Rattle.vast.specs.declared.token.Token.{Token}
use Rattle.vexpr_parse.specs.Texts.{words_of}
use Rattle.vmodules.specs.Names.{is_declared, first_again}
use Rattle.vmodules.specs.Inner.{words_told, IsTold}
use Rattle.vmodules.proofs.ListLemmas.{handed_on, word_names, word_new, word_again, words_all, none_again, within_same}
use Rattle.vmodules.proofs.misdeclared.once.Goals as goal

abbrev token_at : List Token → ℕ → Token
token_at list i = get_or list i (record { number = 0 })

pub loop-token-preserved : goal.loop-token-preserved
loop-token-preserved c =
    let words = words_of c.args.tokens.now in
    record {
      names = word_names c.args.list.now c.loop-token.token-index (token_at c.args.list.now c.loop-token.token-index) c.loop-token-test.true (within_same c.args.list.now c.loop-token.token-index _ _ c.loop-token-test.true) (words_told words) (word_of words) (λ y ys. refl)
          c.loop-token.names (word_of words (token_at c.args.list.now c.loop-token.token-index)).letters refl c.add_token.new.into _ c.in_ok-add_token.ensures.added c.loop-token.invariant.names;
      again = word_new c.args.list.now c.loop-token.token-index (token_at c.args.list.now c.loop-token.token-index) c.loop-token-test.true (within_same c.args.list.now c.loop-token.token-index _ _ c.loop-token-test.true) (words_told words) (word_of words) (λ y ys. refl)
          c.loop-token.names (word_of words (token_at c.args.list.now c.loop-token.token-index)).letters refl c.add_token.new.into _ c.in_ok-add_token.ensures.added c.in_ok-add_token.ensures.fresh c.loop-token.invariant.again;
    }

pub returns-in_err-add_token-clause-err : goal.returns-in_err-add_token-clause-err
returns-in_err-add_token-clause-err c =
    let words = words_of c.args.tokens.now in
    handed_on (λ f. (is_declared c.loop-token.names (word_of words (token_at c.args.list.now c.loop-token.token-index)).letters ≡ true) × (f.at ≡ (token_at c.args.list.now c.loop-token.token-index).number)) (λ f. IsTold (first_again (words_told words c.args.list.now)) f.at)
    c.from_residual.result c.in_err-add_token.field-0.0 c.from_residual.ensures.1
    (λ f there. word_again c.args.list.now c.loop-token.token-index (token_at c.args.list.now c.loop-token.token-index) c.loop-token-test.true (within_same c.args.list.now c.loop-token.token-index _ _ c.loop-token-test.true) (words_told words) (word_of words) (λ y ys. refl)
    c.loop-token.names (word_of words (token_at c.args.list.now c.loop-token.token-index)).letters refl _ f.at there.1 there.0 c.loop-token.invariant.again)
    c.in_err-add_token.ensures.err

pub returns-clause-ok : goal.returns-clause-ok
returns-clause-ok c =
    words_all c.args.list.now c.loop-token.token-index (omega (arith, c.loop-token-test.false)) (words_told (words_of c.args.tokens.now)) refl c.loop-token.names _ c.loop-token.invariant.names

pub returns-clause-once : goal.returns-clause-once
returns-clause-once c =
    none_again c.args.list.now c.loop-token.token-index (omega (arith, c.loop-token-test.false)) (words_told (words_of c.args.tokens.now)) refl c.loop-token.names _ c.loop-token.invariant.again
