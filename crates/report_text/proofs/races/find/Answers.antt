use Rattle.std.proofs.Common.{◌≡◌, ◌∙◌, sym, ap, subst, slice_get, Some}
use Rattle.std.proofs.lemmas.Option.{none-some, same_Some, get_or_from_slice_get}
use Rattle.report_text.proofs.RaceLemmas.{found_at, place_of}
use Rattle.report_text.proofs.races.find.Goals as goal

pub returns-in_err-variable-clause-each : goal.returns-in_err-variable-clause-each
returns-in_err-variable-clause-each c = rw c.from_residual.ensures (λ variable column at is.
    none-some variable (c.in_err-variable.ensures ∙ place_of c.args.columns.now c.args.names.now c.args.name.now variable column c.requires.shown c.requires.differ at is))

pub returns-clause-read : goal.returns-clause-read
returns-clause-read c =
    let f = found_at c.args.columns.now c.args.names.now c.args.name.now c.in_ok-variable.variable c.requires.shown (sym c.in_ok-variable.ensures) in
    (f.0, f.1, f.2, ap (λ x. x.width) (c.column.view_is ∙ c.in_ok-column.ensures.lookup.1 ∙ get_or_from_slice_get c.args.columns.now c.in_ok-variable.variable f.0 c.in_ok-column.column.now f.1))

pub returns-clause-each : goal.returns-clause-each
returns-clause-each c = λ variable column at is.
    let same = same_Some c.in_ok-variable.variable variable (c.in_ok-variable.ensures ∙ place_of c.args.columns.now c.args.names.now c.args.name.now variable column c.requires.shown c.requires.differ at is) in
    let here = subst (λ k. slice_get c.args.columns.now k ≡ Some column) (sym same) at in
    (same, ap (λ x. x.width) (c.column.view_is ∙ c.in_ok-column.ensures.lookup.1 ∙ get_or_from_slice_get c.args.columns.now c.in_ok-variable.variable column c.in_ok-column.column.now here))
