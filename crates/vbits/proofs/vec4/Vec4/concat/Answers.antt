use Rattle.std.proofs.Common.{◌≤◌, ◌+◌, arith}
use Rattle.vbits.proofs.Views.{len_seen}
use Rattle.vbits.proofs.Parts.{concat-planes, concat-code}
use Rattle.vbits.proofs.vec4.Vec4.concat.Goals as goal

pub invariant_of-result : goal.invariant_of-result
invariant_of-result c =
    let left = len_seen _ _ _ _ _ c.self.view_is in
    let right = len_seen _ _ _ _ _ c.right.view_is in
    let few : c.self.inside.len + c.right.inside.len ≤ 64 = omega (arith, left, right, c.requires) in
    concat-planes _ _ _ _ _ _ c.self.invariant c.right.invariant few

pub returns : goal.returns
returns c =
    let left = len_seen _ _ _ _ _ c.self.view_is in
    let right = len_seen _ _ _ _ _ c.right.view_is in
    let few : c.self.inside.len + c.right.inside.len ≤ 64 = omega (arith, left, right, c.requires) in
    concat-code _ _ _ _ _ _ _ _ _ _ c.self.invariant c.right.invariant c.self.view_is c.right.view_is few
