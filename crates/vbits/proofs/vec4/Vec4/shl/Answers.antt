use Rattle.std.proofs.Common.{◌≡◌, ◌≤◌, refl, sym, ◌∙◌, arith}
use Rattle.std.specs.Prelude.{Some}
use Rattle.vbits.specs.Numbers.{number}
use Rattle.vbits.specs.Vectors.{shl, filled, with_sign}
use Rattle.vbits.specs.PlanesBack.{length-letters_of}
use Rattle.vbits.proofs.Shifts.{shl-past, shl-within}
use Rattle.vbits.proofs.vec4.Vec4.shl.Goals as goal

pub returns-in_default : goal.returns-in_default
unfolding shl filled with_sign
returns-in_default c =
    rw (← c.self.view_is, c.unknowns.ensures, ← c.to_u64.ensures, c.in_default.is, length-letters_of) refl

pub returns-then-places-self : goal.returns-then-places-self
unfolding shl
returns-then-places-self c =
    let amount : number c.args.amount.letters ≡ Some c.in-Some.places = sym c.to_u64.ensures ∙ c.in-Some.is in
    rw (← c.self.view_is, amount)
    (λ i. record {
      letters = shl-past c.self.inside.len c.self.inside.value c.self.inside.unknown c.in-Some.places c.if-places-self.true i;
      signed = c.self.inside.signed;
    })

pub returns : goal.returns
unfolding shl
returns c =
    let amount : number c.args.amount.letters ≡ Some c.in-Some.places = sym c.to_u64.ensures ∙ c.in-Some.is in
    let within : c.in-Some.places ≤ c.self.inside.len = omega arith in
    rw (← c.self.view_is, amount, c.ones-kept.ensures)
    (λ i. record {
      letters = shl-within c.self.inside.len c.self.inside.value c.self.inside.unknown c.in-Some.places c.self.invariant.few within i;
      signed = c.self.inside.signed;
    })
