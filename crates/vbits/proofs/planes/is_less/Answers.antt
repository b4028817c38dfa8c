use Rattle.std.proofs.Common.{sym, ◌∙◌}
use Rattle.vbits.proofs.Integers.{less-same, less-other}
use Rattle.vbits.proofs.planes.is_less.Goals as goal

pub returns-then-left_sign-right_sign : goal.returns-then-left_sign-right_sign
returns-then-left_sign-right_sign c =
    less-same c.args.signed c.args.len c.args.left c.args.right c.requires.some c.requires.left_within c.requires.right_within
    (sym c.sign_bit-left_sign.ensures ∙ c.if-left_sign-right_sign.true ∙ c.sign_bit-right_sign.ensures)

pub returns-else-left_sign-right_sign : goal.returns-else-left_sign-right_sign
returns-else-left_sign-right_sign c =
    rw (c.sign_bit-left_sign.ensures, c.sign_bit-right_sign.ensures)
    (less-other c.args.signed c.args.len c.args.left c.args.right c.requires.some c.requires.left_within c.requires.right_within
    (λ e. c.if-left_sign-right_sign.false (c.sign_bit-left_sign.ensures ∙ e ∙ sym c.sign_bit-right_sign.ensures)))
