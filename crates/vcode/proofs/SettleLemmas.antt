-- Repeats of which no turn is left are passed.
use Rattle.std.proofs.Common.{◌≡◌, ℕ, ◌<◌, ◌-◌, zero, suc, true, if◌then◌else◌, List, sym, ap, ◌∙◌, arith}
use Rattle.vcode.specs.declared.point.Point.{Point}
use Rattle.vcode.specs.Code.{Code, is_spent, past, pass_spent}

-- one of them is passed
pub settled_past : (code : Code) (turns : List ℕ) (most : ℕ) (point : Point) → 0 < most → is_spent code turns point ≡ true →
    pass_spent code turns (most - 1) (past code point) ≡ pass_spent code turns most point
settled_past code turns zero point some spent = absurd (omega (arith, some))
settled_past code turns (suc most) point some spent =
    let less : suc most - 1 ≡ most = omega arith in
    ap (λ n. pass_spent code turns n (past code point)) less
    ∙ sym (ap (λ b. if b then pass_spent code turns most (past code point) else point) spent)
