use Rattle.std.proofs.Common.{ap, refl, ◌∙◌}
use Rattle.vdesign.specs.Design.{Design}
use Rattle.vcd_read.specs.Words.{Text}
use Rattle.dump_match.specs.Scopes.{is_wrapped}
use Rattle.dump_match.proofs.ComparedLemmas.{all_at}
use Rattle.dump_match.proofs.comparison.Comparison.new.Goals as goal

pub returns-clause-all : goal.returns-clause-all
returns-clause-all c =
    let design : Design = c.args.design.now in
    let declared = c.args.declared.now in
    all_at c.is_wrapped-wrapped.result (is_wrapped design.top declared) c.deref-2.result.now design.variables declared declared
    c.in_ok-comparison.comparison.pairs.items
    (c.is_wrapped-wrapped.ensures ∙ ap (λ (top : Text). is_wrapped top declared) (c.deref.ensures.value ∙ ap (λ (d : Design). d.top) c.design.view_is))
    (c.deref-2.ensures.value ∙ ap (λ (d : Design). d.variables) c.design.view_is) refl c.in_ok-comparison.ensures.all
