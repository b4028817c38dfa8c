use Rattle.std.proofs.Common.{sym, refl, ap, ◌∙◌, ◌<◌, arith}
use Rattle.std.specs.Prelude.{slice_get, Some}
use Rattle.std.proofs.lemmas.Nat.Bits.{shr_and_one}
use Rattle.vbits.proofs.Views.{len_seen}
use Rattle.vbits.proofs.LettersOf.{slice_get-letters_of}
use Rattle.vbits.proofs.vec4.Vec4.bit.Goals as goal

pub returns : goal.returns
returns c =
    let len = len_seen _ _ _ _ _ c.self.view_is in
    let within : c.args.i < c.self.inside.len = omega (arith, len, c.requires) in
    ap (λ v. slice_get v.letters c.args.i) (sym c.self.view_is)
    ∙ slice_get-letters_of c.self.inside.len c.self.inside.value c.self.inside.unknown c.args.i within
    ∙ sym (ap Some (c.letter.ensures ∙ rw (shr_and_one c.self.inside.value c.args.i, shr_and_one c.self.inside.unknown c.args.i) refl))
