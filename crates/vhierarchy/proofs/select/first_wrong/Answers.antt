use Rattle.std.proofs.Common.{Some, ap, sym, ◌∙◌, arith}
use Rattle.vhierarchy.specs.Instances.{broken_selection}
use Rattle.velab_declaration.proofs.TableLemmas.{breaks_at, breaks_later}
use Rattle.vhierarchy.proofs.select.first_wrong.Goals as goal

pub returns-in-Some : goal.returns-in-Some
returns-in-Some c =
    ap (λ at. Some (record { rule = c.in-Some.rule; at = at })) c.word_at.ensures
    ∙ sym (breaks_at (broken_selection c.args.scopes.now c.args.variables.now) c.args.actions.now c.args.words.now c.loop-place.place c.index-actions-place.result (omega (arith, c.loop-place-test.true)) c.index-actions-place.is
    c.in-Some.rule _ (sym c.action_rule.ensures ∙ c.in-Some.is) c.loop-place.invariant)

pub loop-place-preserved : goal.loop-place-preserved
loop-place-preserved c =
    breaks_later (broken_selection c.args.scopes.now c.args.variables.now) c.args.actions.now c.args.words.now c.loop-place.place c.index-actions-place.result (omega (arith, c.loop-place-test.true)) c.index-actions-place.is
    _ (sym c.action_rule.ensures ∙ c.in_default.is) c.loop-place.invariant
