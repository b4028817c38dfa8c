use Rattle.std.proofs.Common.{sym, ap, ◌∙◌}
use Rattle.vbits.specs.declared.bit4.Bit4.TheVariants.{X}
use Rattle.vbits.specs.Vectors.{filled}
use Rattle.vdesign.specs.Design.{Variable}
use Rattle.velab_declaration.specs.Right.{is_net}
use Rattle.velab_declaration.proofs.DriveLemmas.{start_of_net, start_of_other}
use Rattle.velab_declaration.proofs.drives.start_of.Goals as goal

pub returns-then-is_net : goal.returns-then-is_net
returns-then-is_net c = λ driven n are.
    start_of_net driven c.args.variable.now n c.args.marks (sym (c.is_net.ensures ∙ ap (λ (v : Variable). is_net v.kind) c.variable.view_is) ∙ c.if-is_net.true) are

pub returns-else-is_net : goal.returns-else-is_net
returns-else-is_net c = λ driven n are.
    start_of_other driven c.args.variable.now n c.all_x.result (sym (c.is_net.ensures ∙ ap (λ (v : Variable). is_net v.kind) c.variable.view_is) ∙ c.if-is_net.false)
    (c.all_x.ensures ∙ ap (λ (v : Variable). filled v.length X) c.variable.view_is)
