use Rattle.std.proofs.Common.{refl}
use Rattle.std.proofs.lemmas.Bool.{ne_eqb}
use Rattle.vbits.proofs.Equality.{eq_letter-words}
use Rattle.vbits.proofs.vec4.Vec4.equality.Goals as goal

pub returns-then-self-other-ne0 : goal.returns-then-self-other-ne0
returns-then-self-other-ne0 c =
    rw (
      eq_letter-words _ _ _ _ _ _ _ _ _ _
          (record { left = c.self.invariant; right = c.other.invariant; left_is = c.self.view_is; right_is = c.other.view_is; same_length = c.requires }),
      ne_eqb _ 0 c.if-self-other-ne0.true,
    )
    refl

pub returns-then-unknown-ne0 : goal.returns-then-unknown-ne0
returns-then-unknown-ne0 c =
    rw (
      eq_letter-words _ _ _ _ _ _ _ _ _ _
          (record { left = c.self.invariant; right = c.other.invariant; left_is = c.self.view_is; right_is = c.other.view_is; same_length = c.requires }),
      c.if-self-other-ne0.false,
      ne_eqb _ 0 c.if-unknown-ne0.true,
    )
    refl

pub returns-else-unknown-ne0 : goal.returns-else-unknown-ne0
returns-else-unknown-ne0 c =
    rw (
      eq_letter-words _ _ _ _ _ _ _ _ _ _
          (record { left = c.self.invariant; right = c.other.invariant; left_is = c.self.view_is; right_is = c.other.view_is; same_length = c.requires }),
      c.if-self-other-ne0.false,
      c.if-unknown-ne0.false,
    )
    refl
