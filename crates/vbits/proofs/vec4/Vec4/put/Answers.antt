use Rattle.std.proofs.Common.{◌≡◌, ◌<◌, ◌+◌, ◌-◌, ◌^◌, sym, ◌∙◌, arith, subst}
use Rattle.vbits.proofs.Views.{len_seen}
use Rattle.vbits.proofs.Parts.{put-planes, put-view}
use Rattle.vbits.proofs.vec4.Vec4.put.Goals as goal

pub splice-requires-clause-within : goal.splice-requires-clause-within
splice-requires-clause-within c =
    let len : c.part.inside.len ≡ c.args.high + 1 - c.args.low = sym (len_seen _ _ _ _ _ c.part.view_is) ∙ c.requires.fits in
    subst (λ k. c.part.inside.value < 2 ^ k) len c.part.invariant.value_within

pub splice-requires-2-clause-within : goal.splice-requires-2-clause-within
splice-requires-2-clause-within c =
    let len : c.part.inside.len ≡ c.args.high + 1 - c.args.low = sym (len_seen _ _ _ _ _ c.part.view_is) ∙ c.requires.fits in
    subst (λ k. c.part.inside.unknown < 2 ^ k) len c.part.invariant.unknown_within

pub invariant_of-result : goal.invariant_of-result
invariant_of-result c =
    let len : c.part.inside.len ≡ c.args.high + 1 - c.args.low = sym (len_seen _ _ _ _ _ c.part.view_is) ∙ c.requires.fits in
    let whole = len_seen _ _ _ _ _ c.self.view_is in
    let within : c.args.high < c.self.inside.len = omega (arith, whole, c.requires.within) in
    rw (c.splice.ensures, c.splice-2.ensures)
    (put-planes _ _ _ _ _ _ c.args.high c.args.low c.self.invariant c.part.invariant c.requires.order within len)

pub returns : goal.returns
returns c =
    let len : c.part.inside.len ≡ c.args.high + 1 - c.args.low = sym (len_seen _ _ _ _ _ c.part.view_is) ∙ c.requires.fits in
    let whole = len_seen _ _ _ _ _ c.self.view_is in
    let within : c.args.high < c.self.inside.len = omega (arith, whole, c.requires.within) in
    rw (c.splice.ensures, c.splice-2.ensures)
    (put-view _ _ _ _ _ _ c.args.high c.args.low _ _ _ _ c.self.view_is c.part.view_is c.part.invariant c.requires.order within len)
