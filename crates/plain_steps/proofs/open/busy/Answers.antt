use Rattle.std.proofs.Common.{◌≡◌, ◌≢◌, ◌-◌, ℕ, List, suc, length, drop, subst, arith}
use Rattle.std.proofs.lemmas.Bool.Decides.{nat_tests}
use Rattle.vmodel.specs.Run.{busy_from}
use Rattle.plain_steps.proofs.OpeningLemmas.{busy_more}
use Rattle.plain_steps.proofs.open.busy.Goals as goal

pub loop-i-preserved-then-not-is_empty : goal.loop-i-preserved-then-not-is_empty
loop-i-preserved-then-not-is_empty c =
    let seen : c.as_slice.result.now ≡ c.index-begins-i.result = c.as_slice.ensures in
    let full : length c.as_slice.result.now ≢ 0 = grind (arith, nat_tests) in
    let some : length c.index-begins-i.result ≢ 0 = subst (λ (xs : List ℕ). length xs ≢ 0) seen full in
    let next : c.loop-i.i ≡ suc (c.loop-i.i - 1) = omega arith in
    let so_far = subst (λ (n : ℕ). c.loop-i.set ≡ busy_from n (drop n c.args.begins.now)) next c.loop-i.invariant.1 in (
      omega arith,
      busy_more c.args.begins.now (c.loop-i.i - 1) c.index-begins-i.result c.loop-i.set c.insert.new.self (omega arith)
          c.index-begins-i.is some so_far c.insert.ensures,
    )
