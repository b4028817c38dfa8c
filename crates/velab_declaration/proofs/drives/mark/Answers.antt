use Rattle.velab_declaration.proofs.DriveLemmas.{target_marked}
use Rattle.velab_declaration.proofs.drives.mark.Goals as goal

pub returns : goal.returns
returns c = λ driven variables blanks are.
    target_marked driven variables c.args.environment.now c.args.target.now c.span_of.result c.variable_of.result c.mark_span.result c.mark_span.new.marks
    blanks c.span_of.ensures c.variable_of.ensures (λ fits. c.mark_span.ensures driven variables fits are)
