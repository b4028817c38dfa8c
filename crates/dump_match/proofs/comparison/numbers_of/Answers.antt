use Rattle.std.proofs.Common.{ap, sym, ◌∙◌, arith, Some}
use Rattle.vdesign.specs.Design.{Variable}
use Rattle.dump_match.proofs.CountLemmas.{at_place}
use Rattle.dump_match.proofs.ComparedLemmas.{finds_last, finds_more, found}
use Rattle.dump_match.proofs.comparison.numbers_of.Goals as goal

pub loop-number-preserved : goal.loop-number-preserved
loop-number-preserved c = finds_more c.loop-number.numbers c.insert.new.self c.deref.result.now c.loop-number.number c.in_ok-insert.ensures.updates
    c.args.variables.now c.index-variables-number.result
    (at_place c.args.variables.now c.loop-number.number c.index-variables-number.result c.loop-number-test.true ∙ ap (λ (v : Variable). Some v) (sym c.index-variables-number.is))
    (c.deref.ensures.value ∙ ap (λ (v : Variable). v.name) c.variable.view_is) c.loop-number.invariant

pub returns : goal.returns
returns c = finds_last c.args.variables.now c.loop-number.number (found c.loop-number.numbers) (omega arith) c.loop-number.invariant
