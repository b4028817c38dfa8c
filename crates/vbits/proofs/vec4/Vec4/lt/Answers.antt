use Rattle.std.proofs.Common.{◌∙◌, refl}
use Rattle.std.specs.Prelude.{int_lt}
use Rattle.vbits.proofs.Arithmetic.{compared-unknown, compared-known, right_below}
use Rattle.vbits.proofs.vec4.Vec4.lt.Goals as goal
use Rattle.vbits.proofs.vec4.Vec4.lt.Goals.{then-is_less, else-is_less}

pub returns-then-self-other-ne0 : goal.returns-then-self-other-ne0
returns-then-self-other-ne0 c =
    c.of_bit.ensures
    ∙ compared-unknown int_lt _ _ _ _ _ _ _ _ _ _
    (record { left = c.self.invariant; right = c.other.invariant; left_is = c.self.view_is; right_is = c.other.view_is; same_length = c.requires })
    c.if-self-other-ne0.true

pub is_less-requires-clause-right_within : goal.is_less-requires-clause-right_within
is_less-requires-clause-right_within c =
    right_below _ _ _ _ _ _ _ _ _ _
    (record { left = c.self.invariant; right = c.other.invariant; left_is = c.self.view_is; right_is = c.other.view_is; same_length = c.requires })

pub returns : goal.returns
returns c =
    let known = compared-known int_lt _ _ _ _ _ _ _ _ _ _
    (record { left = c.self.invariant; right = c.other.invariant; left_is = c.self.view_is; right_is = c.other.view_is; same_length = c.requires })
    c.if-self-other-ne0.false in
    rw (← known, c.of_bit-2.ensures, ← c.is_less.ensures)
    (elim c.if-is_less.branch [
      | then-is_less w ↦ rw (w.of_bit-is, w.if-is_less.true) refl
      | else-is_less w ↦ rw (w.of_bit-is, w.if-is_less.false) refl
    ])
