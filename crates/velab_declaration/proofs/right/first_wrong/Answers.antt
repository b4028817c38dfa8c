use Rattle.std.proofs.Common.{if◌then◌else◌, Bool, Option, None, Some, ap, sym, ◌∙◌, arith}
use Rattle.velab_expr.specs.declared.fault.Rule.{Rule}
use Rattle.velab_expr.specs.declared.fault.Rule.TheVariants.{Kind}
use Rattle.velab_declaration.specs.Right.{kind_rule}
use Rattle.velab_declaration.proofs.TableLemmas.{breaks_at, breaks_later}
use Rattle.velab_declaration.proofs.right.first_wrong.Goals as goal

rule_by : Bool → Option Rule
rule_by b = if b then None else Some Kind

pub returns-then-not-writes_rightly : goal.returns-then-not-writes_rightly
unfolding rule_by
returns-then-not-writes_rightly c =
    ap (λ at. Some (record { rule = Kind; at = at })) c.word_at.ensures
    ∙ sym (breaks_at (kind_rule c.args.variables.now) c.args.actions.now c.args.words.now c.loop-place.place c.index-actions-place.result (omega (arith, c.loop-place-test.true)) c.index-actions-place.is
    Kind _ (ap rule_by (sym c.writes_rightly.ensures ∙ c.if-not-writes_rightly.true)) c.loop-place.invariant)

pub loop-place-preserved : goal.loop-place-preserved
unfolding rule_by
loop-place-preserved c =
    breaks_later (kind_rule c.args.variables.now) c.args.actions.now c.args.words.now c.loop-place.place c.index-actions-place.result (omega (arith, c.loop-place-test.true)) c.index-actions-place.is
    _ (ap rule_by (sym c.writes_rightly.ensures ∙ c.if-not-writes_rightly.false)) c.loop-place.invariant
