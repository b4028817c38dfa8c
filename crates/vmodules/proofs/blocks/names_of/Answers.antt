use Rattle.std.proofs.Common.{◌+◌, ℕ, List, [], ◌∷◌, get_or, drop, ap, arith}
use Rattle.std.proofs.lemmas.List.{drop_all}
use Rattle.vast.specs.declared.token.Token.{Token}
use Rattle.vexpr_parse.specs.Texts.{words_of}
use Rattle.vmodules.specs.Names.{letters_of}
use Rattle.vmodules.specs.Inner.{words_told}
use Rattle.vmodules.proofs.ListLemmas.{drop_at, within_same}
use Rattle.vmodules.proofs.HierarchyLemmas.{holds_step, holds_all}
use Rattle.vmodules.proofs.blocks.names_of.Goals as goal

abbrev token_at : List Token → ℕ → Token
token_at list i = get_or list i (record { number = 0 })

pub loop-token-preserved : goal.loop-token-preserved
loop-token-preserved c =
    let words = words_of c.args.tokens.now in
    let list = c.args.list.now in
    let at = c.loop-token.token-index in
    holds_step c.loop-token.names c.note.new.into (letters_of (words_told words (token_at list at ∷ [])))
    (letters_of (words_told words (drop (at + 1) list))) _ _
    (ap (λ (l : List Token). letters_of (words_told words l))
    (drop_at list at (token_at list at) c.loop-token-test.true (within_same list at _ _ c.loop-token-test.true)))
    c.in_ok-note.ensures c.loop-token.invariant

pub returns : goal.returns
returns c =
    let words = words_of c.args.tokens.now in
    let list = c.args.list.now in
    let at = c.loop-token.token-index in
    holds_all c.loop-token.names (letters_of (words_told words (drop at list))) _
    (ap (λ (l : List Token). letters_of (words_told words l)) (drop_all at list (omega (arith, c.loop-token-test.false))))
    c.loop-token.invariant
