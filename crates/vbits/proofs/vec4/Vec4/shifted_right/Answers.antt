use Rattle.std.proofs.Common.{◌≡◌, ◌≤◌, refl, sym, ◌∙◌, arith}
use Rattle.std.specs.Prelude.{Some}
use Rattle.vbits.specs.Numbers.{number}
use Rattle.vbits.specs.Vectors.{filled, with_sign}
use Rattle.vbits.specs.PlanesBack.{length-letters_of}
use Rattle.vbits.proofs.Shifts.{shr-past-bits, shr-within-bits, shr_below_places, shr-planes}
use Rattle.vbits.proofs.vec4.Vec4.shifted_right.Goals as goal

pub returns-in_default : goal.returns-in_default
unfolding filled with_sign
returns-in_default c =
    rw (← c.self.view_is, c.unknowns.ensures, ← c.to_u64.ensures, c.in_default.is, length-letters_of) refl

pub returns-then-places-self : goal.returns-then-places-self
returns-then-places-self c =
    let amount : number c.args.amount.letters ≡ Some c.in-Some.places = sym c.to_u64.ensures ∙ c.in-Some.is in
    rw (← c.self.view_is, amount, c.fill.ensures, c.fill-then-places-self.ensures)
    (λ i. record {
      letters = shr-past-bits c.self.inside.len c.self.inside.value c.self.inside.unknown c.in-Some.places _ _ c.requires.value_bit c.requires.unknown_bit c.if-places-self.true i;
      signed = c.self.inside.signed;
    })

pub extend-requires-clause-within : goal.extend-requires-clause-within
extend-requires-clause-within c =
    let within : c.in-Some.places ≤ c.self.inside.len = omega arith in
    shr_below_places _ _ _ c.self.invariant.value_within within

pub extend-requires-2-clause-within : goal.extend-requires-2-clause-within
extend-requires-2-clause-within c =
    let within : c.in-Some.places ≤ c.self.inside.len = omega arith in
    shr_below_places _ _ _ c.self.invariant.unknown_within within

pub invariant_of-result-2 : goal.invariant_of-result-2
invariant_of-result-2 c =
    rw (c.extend.ensures, c.extend-2.ensures)
    (shr-planes _ _ _ c.in-Some.places _ _ c.self.invariant c.if-places-self.false)

pub returns : goal.returns
returns c =
    let amount : number c.args.amount.letters ≡ Some c.in-Some.places = sym c.to_u64.ensures ∙ c.in-Some.is in
    let within : c.in-Some.places ≤ c.self.inside.len = omega arith in
    rw (← c.self.view_is, amount, c.extend.ensures, c.extend-2.ensures)
    (λ i. record {
      letters = shr-within-bits c.self.inside.len c.self.inside.value c.self.inside.unknown c.in-Some.places _ _ c.requires.value_bit c.requires.unknown_bit c.self.invariant within i;
      signed = c.self.inside.signed;
    })
