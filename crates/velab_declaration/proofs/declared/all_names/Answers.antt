use Rattle.std.proofs.Common.{◌≡◌, [], ◌++◌, None, List, ap, sym, ◌∙◌}
use Rattle.std.proofs.lemmas.List.{map-append}
use Rattle.std.specs.Option.{option_or}
use Rattle.vwords.specs.Words.{Text}
use Rattle.vast.specs.NumberedWords.{Word}
use Rattle.vexpr_parse.specs.Texts.{words_of}
use Rattle.vmodules.specs.Names.{again_behind, first_again, letters_of}
use Rattle.vmodules.specs.Inner.{own_in, with_words}
use Rattle.vmodules.proofs.NameLemmas.{again_append}
use Rattle.vmodules.proofs.ListLemmas.{handed_on}
use Rattle.velab_expr.specs.declared.fault.Rule.TheVariants.{Doubled}
use Rattle.velab_expr.specs.Rules.{broken_at}
use Rattle.velab_declaration.specs.Inner.{declared_in, port_texts, names_before, DoublesIn}
use Rattle.velab_expr.proofs.FaultLemmas.{part_told}
use Rattle.velab_declaration.proofs.declared.all_names.Goals as goal

-- words in front of others, of which none stands again
behind_first : (xs ys : List Word) (names : List Text) → again_behind [] xs ≡ None → names ≡ letters_of xs → first_again (xs ++ ys) ≡ again_behind names ys
behind_first xs ys names none are =
    again_append [] xs ys ∙ ap (λ o. option_or o (again_behind (letters_of xs) ys)) none ∙ ap (λ (l : List Text). again_behind l ys) (sym are)

pub returns-in_err-add_ports-clause-err : goal.returns-in_err-add_ports-clause-err
returns-in_err-add_ports-clause-err c =
    let words = words_of c.args.tokens.now in
    let ports : List Word = port_texts words c.args.ports.now in
    let items : List Word = declared_in (own_in words c.args.made.now c.args.items.now) in
    handed_on (DoublesIn c.new-names.result ports) (DoublesIn [] (names_before words c.args.made.now c.args.ports.now c.args.items.now))
    c.from_residual.result c.in_err-add_ports.field-0.0 c.from_residual.ensures.1
    (λ f told. part_told Doubled _ _ _ (sym (again_append [] ports items)) f (ap (λ (l : List Text). broken_at Doubled (again_behind l ports)) (sym c.new-names.ensures) ∙ told))
    c.in_err-add_ports.ensures.err

pub returns-in_err-add_items-clause-err : goal.returns-in_err-add_items-clause-err
returns-in_err-add_items-clause-err c =
    let words = words_of c.args.tokens.now in
    let ports : List Word = port_texts words c.args.ports.now in
    let items : List Word = declared_in (own_in words c.args.made.now c.args.items.now) in
    handed_on (DoublesIn c.add_ports.new.into items) (DoublesIn [] (names_before words c.args.made.now c.args.ports.now c.args.items.now))
    c.from_residual-in_err-add_items.result c.in_err-add_items.field-0.0 c.from_residual-in_err-add_items.ensures.1
    (λ f told. ap (broken_at Doubled) (behind_first ports items c.add_ports.new.into
    (ap (λ (l : List Text). again_behind l ports) (sym c.new-names.ensures) ∙ c.in_ok-add_ports.ensures.right)
    (c.in_ok-add_ports.ensures.ok ∙ ap (λ (l : List Text). with_words l ports) c.new-names.ensures)) ∙ told)
    c.in_err-add_items.ensures.err

pub returns-clause-ok : goal.returns-clause-ok
returns-clause-ok c =
    let words = words_of c.args.tokens.now in
    let ports : List Word = port_texts words c.args.ports.now in
    let items : List Word = declared_in (own_in words c.args.made.now c.args.items.now) in
    c.in_ok-add_items.ensures.ok
    ∙ ap (λ (l : List Text). with_words l items) (c.in_ok-add_ports.ensures.ok ∙ ap (λ (l : List Text). with_words l ports) c.new-names.ensures)
    ∙ sym (map-append (λ (w : Word). w.letters) ports items)

pub returns-clause-right : goal.returns-clause-right
returns-clause-right c =
    let words = words_of c.args.tokens.now in
    let ports : List Word = port_texts words c.args.ports.now in
    let items : List Word = declared_in (own_in words c.args.made.now c.args.items.now) in
    behind_first ports items c.add_ports.new.into
    (ap (λ (l : List Text). again_behind l ports) (sym c.new-names.ensures) ∙ c.in_ok-add_ports.ensures.right)
    (c.in_ok-add_ports.ensures.ok ∙ ap (λ (l : List Text). with_words l ports) c.new-names.ensures)
    ∙ c.in_ok-add_items.ensures.right
