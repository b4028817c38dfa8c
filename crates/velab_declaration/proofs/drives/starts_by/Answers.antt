use Rattle.std.proofs.Common.{◌+◌, ◌++◌, List, drop, ap, ◌∙◌, arith}
use Rattle.vbits.specs.Vectors.{Vector}
use Rattle.velab_declaration.specs.DriveMarks.{starts_from}
use Rattle.velab_declaration.proofs.DriveLemmas.{starts_step}
use Rattle.velab_declaration.proofs.drives.starts_by.Goals as goal

pub loop-place-preserved : goal.loop-place-preserved
loop-place-preserved c = λ driven are.
    ap (λ (l : List Vector). l ++ starts_from driven (c.loop-place.place + 1) (drop (c.loop-place.place + 1) c.args.variables.now)) c.in_ok-push.ensures.items
    ∙ starts_step driven c.args.variables.now c.loop-place.place c.index-variables-place.result (omega (arith, c.loop-place-test.true)) c.index-variables-place.is c.args.marks.now are
    c.mark_at.result c.start_of.result c.mark_at.ensures (c.start_of.ensures driven c.loop-place.place) c.loop-place.starts.items _ (c.loop-place.invariant driven are)
