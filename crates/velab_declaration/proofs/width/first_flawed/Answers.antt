use Rattle.std.proofs.Common.{Some, ap, sym, ◌∙◌, arith}
use Rattle.std.specs.Prelude.{option_map}
use Rattle.velab_expr.specs.Rules.{rule_of}
use Rattle.velab_declaration.specs.ActionFlaws.{flaw_rule}
use Rattle.velab_declaration.proofs.TableLemmas.{breaks_at, breaks_later}
use Rattle.velab_declaration.proofs.width.first_flawed.Goals as goal

pub returns-in-Some : goal.returns-in-Some
returns-in-Some c =
    (λ i. Some (record { rule = c.rule_of.ensures i; at = c.word_at.ensures i }))
    ∙ sym (breaks_at (flaw_rule c.args.environment.now) c.args.actions.now c.args.words.now c.loop-place.place c.index-actions-place.result (omega (arith, c.loop-place-test.true)) c.index-actions-place.is
    (rule_of c.in-Some.flaw) _ (ap (option_map rule_of) (sym c.action_flaw.ensures ∙ c.in-Some.is)) c.loop-place.invariant)

pub loop-place-preserved : goal.loop-place-preserved
loop-place-preserved c =
    breaks_later (flaw_rule c.args.environment.now) c.args.actions.now c.args.words.now c.loop-place.place c.index-actions-place.result (omega (arith, c.loop-place-test.true)) c.index-actions-place.is
    _ (ap (option_map rule_of) (sym c.action_flaw.ensures ∙ c.in_default.is)) c.loop-place.invariant
