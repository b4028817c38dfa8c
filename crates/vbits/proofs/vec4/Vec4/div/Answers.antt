use Rattle.std.proofs.Common.{◌∙◌, sym}
use Rattle.vbits.specs.Vectors.{quotient_of}
use Rattle.vbits.proofs.Arithmetic.{arithmetic-unknown, div-view, div-by_zero, right_below}
use Rattle.vbits.proofs.vec4.Vec4.div.Goals as goal

pub returns-then-self-other-ne0 : goal.returns-then-self-other-ne0
returns-then-self-other-ne0 c =
    c.unknowns.ensures
    ∙ arithmetic-unknown quotient_of _ _ _ _ _ _ _ _ _ _
    (record { left = c.self.invariant; right = c.other.invariant; left_is = c.self.view_is; right_is = c.other.view_is; same_length = c.requires })
    c.if-self-other-ne0.true

pub magnitude-divisor-requires-clause-within : goal.magnitude-divisor-requires-clause-within
magnitude-divisor-requires-clause-within c =
    right_below _ _ _ _ _ _ _ _ _ _
    (record { left = c.self.invariant; right = c.other.invariant; left_is = c.self.view_is; right_is = c.other.view_is; same_length = c.requires })

pub returns-then-divisor-eq0 : goal.returns-then-divisor-eq0
returns-then-divisor-eq0 c =
    c.unknowns-then-divisor-eq0.ensures
    ∙ div-by_zero _ _ _ _ _ _ _ _ _ _
    (record { left = c.self.invariant; right = c.other.invariant; left_is = c.self.view_is; right_is = c.other.view_is; same_length = c.requires })
    c.if-self-other-ne0.false
    (sym c.magnitude-divisor.ensures ∙ c.if-divisor-eq0.true)

pub returns : goal.returns
returns c =
    let digits = rw (c.sign_bit-left_sign.ensures, c.sign_bit-right_sign.ensures, c.magnitude.ensures, c.magnitude-divisor.ensures) at c.wrap.ensures.digits in
    div-view _ _ _ _ _ _ _ _ _ _
    (record { left = c.self.invariant; right = c.other.invariant; left_is = c.self.view_is; right_is = c.other.view_is; same_length = c.requires })
    c.if-self-other-ne0.false
    (λ e. c.if-divisor-eq0.false (c.magnitude-divisor.ensures ∙ e))
    c.wrap.result
    digits
