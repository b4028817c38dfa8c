use Rattle.std.proofs.Common.{sym}
use Rattle.vbits.proofs.Views.{len_seen}
use Rattle.vbits.proofs.vec4.Vec4.len.Goals as goal

pub returns-clause-letters : goal.returns-clause-letters
returns-clause-letters c = sym (len_seen _ _ _ _ _ c.self.view_is)
