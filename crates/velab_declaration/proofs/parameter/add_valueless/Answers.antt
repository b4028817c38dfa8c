use Rattle.std.proofs.Common.{◌∙◌, ◌+◌, drop}
use Rattle.vast.specs.NumberedTrees.{item_tree}
use Rattle.vexpr_parse.specs.Texts.{words_of}
use Rattle.velab_expr.specs.Symbols.{valueless_by}
use Rattle.velab_declaration.specs.Inner.{valueless_in, overrides_tree}
use Rattle.velab_expr.proofs.AnswerLemmas.{hands_on, still_refused}
use Rattle.velab_declaration.proofs.ParameterLemmas.{valueless_open, more_step, more_refused}
use Rattle.velab_declaration.proofs.parameter.add_valueless.Goals as goal

pub returns-in_err-add_valueless_of-clause-makes : goal.returns-in_err-add_valueless_of-clause-makes
returns-in_err-add_valueless_of-clause-makes c =
    let words = words_of c.args.tokens.now in
    hands_on c.from_residual.result c.in_err-add_valueless_of.field-0.0 c.add_valueless_of.new.into _ c.from_residual.ensures.1
    (still_refused _ _
    (more_refused (overrides_tree words c.args.overrides.now) c.loop-item.into (valueless_by (item_tree words c.item-item.result)) (valueless_in words (drop (c.loop-item.item-index + 1) c.args.items.now)) _
    (valueless_open words c.args.items.now c.loop-item.item-index c.item-item.result c.loop-item-test.true c.item-item.is) _ c.loop-item.invariant.same)
    c.in_err-add_valueless_of.field-0.0 c.in_err-add_valueless_of.ensures.makes)

pub loop-item-preserved : goal.loop-item-preserved
loop-item-preserved c =
    let words = words_of c.args.tokens.now in
    record {
      same = more_step (overrides_tree words c.args.overrides.now) c.loop-item.into (valueless_by (item_tree words c.item-item.result)) (valueless_in words (drop (c.loop-item.item-index + 1) c.args.items.now)) _
          (valueless_open words c.args.items.now c.loop-item.item-index c.item-item.result c.loop-item-test.true c.item-item.is) _ c.loop-item.invariant.same
          c.add_valueless_of.new.into c.in_ok-add_valueless_of.ensures.makes;
      variables = c.add_valueless_of.ensures.variables ∙ c.loop-item.invariant.variables;
    }
