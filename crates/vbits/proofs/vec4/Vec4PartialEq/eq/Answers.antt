use Rattle.std.proofs.Common.{◌∙◌}
use Rattle.std.proofs.lemmas.Bool.Decides.{same_from_decides}
use Rattle.vbits.specs.Equal.{vectors_tell}
use Rattle.vbits.proofs.Views.{seen_alike}
use Rattle.vbits.proofs.vec4.Vec4PartialEq.eq.Goals as goal

pub returns : goal.returns
returns c =
    c.eq.ensures
    ∙ same_from_decides _ _
    (seen_alike c.self.inside.len c.other.inside.len c.self.inside.value c.other.inside.value c.self.inside.unknown c.other.inside.unknown
    c.self.inside.signed c.other.inside.signed c.args.self.now c.args.other.now c.self.invariant c.other.invariant c.self.view_is c.other.view_is)
    (vectors_tell c.args.self.now c.args.other.now)
