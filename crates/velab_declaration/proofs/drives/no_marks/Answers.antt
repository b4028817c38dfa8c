use Rattle.std.proofs.Common.{◌+◌, ◌++◌, [], List, drop, ap, ◌∙◌}
use Rattle.vbits.specs.declared.bit4.Bit4.TheVariants.{Z}
use Rattle.vbits.specs.Vectors.{Vector, filled}
use Rattle.vdesign.specs.Design.{Variable}
use Rattle.velab_declaration.specs.DriveMarks.{marks_from}
use Rattle.velab_declaration.proofs.DriveLemmas.{unmarked_step}
use Rattle.velab_declaration.proofs.drives.no_marks.Goals as goal

pub loop-variable-preserved : goal.loop-variable-preserved
loop-variable-preserved c =
    ap (λ (l : List Vector). l ++ marks_from [] (c.loop-variable.variable-index + 1) (drop (c.loop-variable.variable-index + 1) c.args.variables.now)) c.in_ok-push.ensures.items
    ∙ unmarked_step c.args.variables.now c.loop-variable.variable-index c.variable-item.result c.loop-variable-test.true c.variable-item.is c.all_z.result
    (c.all_z.ensures ∙ ap (λ (v : Variable). filled v.length Z) c.variable.view_is) c.loop-variable.marks.items _ c.loop-variable.invariant
