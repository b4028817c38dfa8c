use Rattle.std.proofs.Common.{◌≤◌, ℕ, length, sym, subst, ◌∙◌}
use Rattle.vmodel.specs.Choices.{choices}
use Rattle.vmodel.specs.Run.{end_of}
use Rattle.vmachine.proofs.ChoiceLemmas.{none_left, not_there}
use Rattle.vmachine.proofs.RunProgressLemmas.{finishes, too_early, takes_more, no_choice}
use Rattle.vmachine.proofs.run.choose.Goals as goal

pub returns-then-is_empty : goal.returns-then-is_empty
returns-then-is_empty c = λ setting log t here wide.
    finishes setting log c.args.rest.now c.args.steps c.args.n t here (end_of t)
    (sym wide ∙ none_left (length (choices c.args.state.now)) c.goes_on.result c.goes_on.ensures c.if-not-goes_on.true) (sym c.is_empty.ensures ∙ c.if-is_empty.true) (λ i. end_of t)

pub returns-else-is_empty : goal.returns-else-is_empty
returns-else-is_empty c = λ setting log t here wide.
    too_early setting log c.args.rest.now c.args.steps c.args.n t here
    (sym wide ∙ none_left (length (choices c.args.state.now)) c.goes_on.result c.goes_on.ensures c.if-not-goes_on.true) (sym c.is_empty.ensures ∙ c.if-is_empty.false)

pub returns-then-n-steps : goal.returns-then-n-steps
returns-then-n-steps c = λ setting log t here wide.
    takes_more setting log c.args.rest.now c.args.steps c.args.n t here
    (λ none. c.goes_on.ensures.0 c.if-not-goes_on.false (wide ∙ none)) c.if-n-steps.true

pub returns-else-has_choice : goal.returns-else-has_choice
returns-else-has_choice c = λ setting log t here wide.
    no_choice setting log c.args.rest.now c.args.steps c.args.n t here
    c.next_choice-choice.result.0 c.next_choice-choice.result.1.now c.next_choice-choice.ensures.next
    (λ none. c.goes_on.ensures.0 c.if-not-goes_on.false (wide ∙ none)) c.if-n-steps.false
    (subst (λ (width : ℕ). width ≤ c.next_choice-choice.result.0) wide (not_there c.next_choice-choice.result.0 (length (choices c.args.state.now)) c.has_choice.result c.has_choice.ensures c.if-has_choice.false))
