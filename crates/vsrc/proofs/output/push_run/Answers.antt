use Rattle.std.proofs.Common.{◌+◌, ◌++◌, ◌-◌, ap, ◌∙◌}
use Rattle.std.specs.List.{range_with_len}
use Rattle.vsrc.proofs.MacroText.{run_next}
use Rattle.vsrc.proofs.output.push_run.Goals as goal

pub loop-place-preserved : goal.loop-place-preserved
loop-place-preserved c =
    ap (λ xs. xs ++ range_with_len (c.loop-place.place + 1) (c.args.at + c.args.len - (c.loop-place.place + 1))) c.in_ok-push.ensures.items
    ∙ run_next c.loop-place.origins.items _ c.loop-place.place (c.args.at + c.args.len) c.loop-place-test.true c.loop-place.invariant
