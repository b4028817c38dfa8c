use Rattle.std.proofs.Common.{◌≡◌, ◌+◌, ◌++◌, ◌∷◌, [], List, true, not, Some, map, option_map, drop, ap, sym, ◌∙◌, arith}
use Rattle.std.proofs.lemmas.List.{drop_all}
use Rattle.vast.specs.NumberedWords.{Word}
use Rattle.vast.specs.NumberedModules.{ConnectionTree}
use Rattle.vast.specs.NumberedTrees.{connection_tree}
use Rattle.vast.specs.declared.module.Connection.{Connection}
use Rattle.vexpr_parse.specs.Texts.{words_of}
use Rattle.vmodules.specs.Names.{is_declared}
use Rattle.vmodules.specs.Connected.{named_connection, misfit_behind}
use Rattle.vmodules.specs.Inner.{ConnectionEntry, entry_tree, entry_names, entries_tree, IsTold}
use Rattle.vmodules.proofs.ConnectLemmas.{misfit_absent, misfit_again, misfit_next, name_step, names_pushed}
use Rattle.vmodules.proofs.ListLemmas.{drop_at, handed_on}
use Rattle.vmodules.proofs.connect.by_name.Goals as goal

pub returns-then-is_none-clause-err : goal.returns-then-is_none-clause-err
returns-then-is_none-clause-err c =
    let words = words_of c.args.tokens.now in
    let names = c.args.names.now in
    let before = entry_names c.loop-connection.connected in
    let rest : List ConnectionTree = map (connection_tree words) (drop (c.loop-connection.connection-index + 1) c.args.list.now) in
    ap (option_map (λ (w : Word). w.number))
    (sym c.loop-connection.invariant.fits
    ∙ ap (λ (l : List Connection). misfit_behind names before (map (connection_tree words) l))
    (drop_at c.args.list.now c.loop-connection.connection-index c.connection-item.result c.loop-connection-test.true c.connection-item.is)
    ∙ misfit_absent names before (connection_tree words c.connection-item.result) rest
    (ap (is_declared names) (sym c.letters-name.ensures) ∙ sym c.place.ensures.found ∙ c.is_none.ensures ∙ ap not c.if-is_none.true))

pub returns-in_err-add-clause-err : goal.returns-in_err-add-clause-err
returns-in_err-add-clause-err c =
    let words = words_of c.args.tokens.now in
    let names = c.args.names.now in
    let before = entry_names c.loop-connection.connected in
    let rest : List ConnectionTree = map (connection_tree words) (drop (c.loop-connection.connection-index + 1) c.args.list.now) in
    handed_on (λ f. (is_declared before c.letters-name.result.now ≡ true) × (f.at ≡ c.connection-item.result.name.number)) (λ f. IsTold (misfit_behind names [] (map (connection_tree words) c.args.list.now)) f.at)
    c.from_residual.result c.in_err-add.field-0.0 c.from_residual.ensures.1
    (λ f there. ap (option_map (λ (w : Word). w.number))
    (sym c.loop-connection.invariant.fits
    ∙ ap (λ (l : List Connection). misfit_behind names before (map (connection_tree words) l))
    (drop_at c.args.list.now c.loop-connection.connection-index c.connection-item.result c.loop-connection-test.true c.connection-item.is)
    ∙ misfit_again names before (connection_tree words c.connection-item.result) rest
    (ap (is_declared names) (sym c.letters-name.ensures) ∙ sym c.place.ensures.found ∙ c.is_none.ensures ∙ ap not c.if-is_none.false)
    (ap (is_declared before) (sym c.letters-name.ensures) ∙ there.0))
    ∙ ap Some (sym there.1))
    c.in_err-add.ensures.err

pub loop-connection-preserved : goal.loop-connection-preserved
loop-connection-preserved c =
    let words = words_of c.args.tokens.now in
    let connected = c.loop-connection.connected in
    let names = c.args.names.now in
    let rest : List ConnectionTree = map (connection_tree words) (drop (c.loop-connection.connection-index + 1) c.args.list.now) in
    let entry : ConnectionEntry = (c.letters-name.result.now, c.value_of.result) in
    let is : entry_tree words entry ≡ named_connection (connection_tree words c.connection-item.result) = λ j. record { name = c.letters-name.ensures j; value = c.value_of.ensures words j } in
    let same : entries_tree words connected ++ map named_connection (connection_tree words c.connection-item.result ∷ rest) ≡ map named_connection (map (connection_tree words) c.args.list.now) =
    sym (ap (λ (l : List Connection). entries_tree words connected ++ map named_connection (map (connection_tree words) l))
    (drop_at c.args.list.now c.loop-connection.connection-index c.connection-item.result c.loop-connection-test.true c.connection-item.is))
    ∙ c.loop-connection.invariant.connected in
    record {
      connected = name_step words connected c.add.new.self entry (connection_tree words c.connection-item.result) rest (map named_connection (map (connection_tree words) c.args.list.now)) c.in_ok-add.ensures.added is same;
      fits =
          ap (λ (l : List (List _)). misfit_behind names l rest) (names_pushed connected c.add.new.self entry c.in_ok-add.ensures.added ∙ ap (λ t. entry_names connected ++ t ∷ []) c.letters-name.ensures)
          ∙ sym (misfit_next names (entry_names connected) (connection_tree words c.connection-item.result) rest
          (ap (is_declared names) (sym c.letters-name.ensures) ∙ sym c.place.ensures.found ∙ c.is_none.ensures ∙ ap not c.if-is_none.false)
          (ap (is_declared (entry_names connected)) (sym c.letters-name.ensures) ∙ c.in_ok-add.ensures.fresh))
          ∙ sym (ap (λ (l : List Connection). misfit_behind names (entry_names connected) (map (connection_tree words) l))
          (drop_at c.args.list.now c.loop-connection.connection-index c.connection-item.result c.loop-connection-test.true c.connection-item.is))
          ∙ c.loop-connection.invariant.fits;
    }

pub returns-clause-fits : goal.returns-clause-fits
returns-clause-fits c =
    sym c.loop-connection.invariant.fits
    ∙ ap (λ (l : List Connection). misfit_behind c.args.names.now (entry_names c.loop-connection.connected) (map (connection_tree (words_of c.args.tokens.now)) l))
    (drop_all c.loop-connection.connection-index c.args.list.now (omega (arith, c.loop-connection-test.false)))
