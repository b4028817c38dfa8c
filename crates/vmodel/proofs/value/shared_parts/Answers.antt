use Rattle.std.proofs.Common.{◌≡◌, ◌+◌, ◌-◌, ◌∷◌, drop, ◌∙◌, arith}
use Rattle.vmodel.proofs.PartLemmas.{shared_step, size_step, drop_at}
use Rattle.vmodel.proofs.value.shared_parts.Goals as goal

pub loop-target-preserved : goal.loop-target-preserved
loop-target-preserved c =
    let before = drop c.loop-target.target-index c.args.targets.now in
    let more = drop (c.loop-target.target-index + 1) c.args.targets.now in
    let is : before ≡ c.target-item.result ∷ more = drop_at c.loop-target.target-index c.args.targets.now c.target-item.result c.target-item.is c.loop-target-test.true in
    let fewer = size_step c.args.environment.now before c.target-item.result more c.loop-target.behind c.target_size-size.result is c.loop-target.invariant.0 c.target_size-size.ensures.exact in (
      fewer,
      omega (arith, c.loop-target.invariant.1),
      shared_step c.args.environment.now before c.target-item.result more c.args.value c.select-letters.result (c.loop-target.behind - c.target_size-size.result) c.target_size-size.result
          c.loop-target.parts.items c.put_part.new.parts.items _ is fewer c.target_size-size.ensures.exact c.target_size-size.ensures.some c.select-letters.ensures c.part_of.ensures (c.in_ok-put_part.ensures)
          ∙ c.loop-target.invariant.2,
    )
