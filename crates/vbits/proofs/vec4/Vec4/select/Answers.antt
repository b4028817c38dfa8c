use Rattle.std.proofs.Common.{◌<◌, arith}
use Rattle.vbits.proofs.Views.{len_seen}
use Rattle.vbits.proofs.Parts.{select-view}
use Rattle.vbits.proofs.vec4.Vec4.select.Goals as goal

pub returns : goal.returns
returns c =
    let len = len_seen _ _ _ _ _ c.self.view_is in
    let within : c.args.high < c.self.inside.len = omega (arith, len, c.requires.within) in
    rw c.ones-kept.ensures
    (select-view _ _ _ c.args.high c.args.low _ _ c.self.invariant c.self.view_is c.requires.order within)
