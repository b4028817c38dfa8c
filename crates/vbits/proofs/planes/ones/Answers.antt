use Rattle.std.proofs.Common.{◌∙◌, ◌-◌, ◌≤◌, ◌≡◌, ◌^◌, arith, ap}
use Rattle.std.proofs.lemmas.Nat.Bits.{ones_shr}
use Rattle.vbits.proofs.planes.ones.Goals as goal

pub returns : goal.returns
returns c =
    let within : 64 - c.args.len ≤ 64 = omega arith in
    let back : 64 - (64 - c.args.len) ≡ c.args.len = omega arith in
    ones_shr 64 (64 - c.args.len) within ∙ ap (λ k. 2 ^ k - 1) back
