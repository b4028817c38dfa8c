use Rattle.std.proofs.Common.{◌+◌, ℕ, List, [], ◌∷◌, ◌++◌, drop, ap, ◌∙◌, arith}
use Rattle.std.proofs.lemmas.List.{drop_all}
use Rattle.vast.specs.declared.module.Port.{Port}
use Rattle.vexpr_parse.specs.Texts.{words_of}
use Rattle.vmodules.specs.Names.{is_declared, letters_of}
use Rattle.vmodules.specs.Inner.{listed_words, port_trees}
use Rattle.vmodules.proofs.ListLemmas.{drop_at}
use Rattle.vmodules.proofs.HierarchyLemmas.{holds_added, holds_step, holds_all}
use Rattle.vmodules.proofs.ports.add_names.Goals as goal

pub loop-port-preserved : goal.loop-port-preserved
loop-port-preserved c =
    let words = words_of c.args.tokens.now in
    holds_step c.loop-port.into c.add.new.self (letters_of (listed_words (port_trees words (c.port-item.result ∷ []))))
    (letters_of (listed_words (port_trees words (drop (c.loop-port.port-index + 1) c.args.list.now)))) _ _
    (ap (λ (l : List Port). letters_of (listed_words (port_trees words l))) (drop_at c.args.list.now c.loop-port.port-index c.port-item.result c.loop-port-test.true c.port-item.is))
    (λ text.
    holds_added c.loop-port.into c.add.new.self c.letters.result.now _ c.in_ok-add.ensures.new c.in_ok-add.ensures.added text
    ∙ ap (λ (name : List ℕ). is_declared (c.loop-port.into ++ name ∷ []) text) c.letters.ensures)
    c.loop-port.invariant

pub returns : goal.returns
returns c =
    let words = words_of c.args.tokens.now in
    holds_all c.loop-port.into (letters_of (listed_words (port_trees words (drop c.loop-port.port-index c.args.list.now)))) _
    (ap (λ (l : List Port). letters_of (listed_words (port_trees words l))) (drop_all c.loop-port.port-index c.args.list.now (omega (arith, c.loop-port-test.false))))
    c.loop-port.invariant
