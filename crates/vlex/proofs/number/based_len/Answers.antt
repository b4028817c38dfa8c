use Rattle.std.proofs.Common.{◌≡◌, ◌+◌, ◌<◌, ◌||◌, List, ℕ, true, false, nat_eq, get_or, length, arith, refl, ◌∙◌, sym, ap, subst}
use Rattle.vlex.specs.Forms.{is_base_and_digits}
use Rattle.vlex.specs.Inner.{IsLongest, Never}
use Rattle.vlex.proofs.Numbers.{based_unsigned, based_signed_none, based_signed_some}
use Rattle.vlex.proofs.number.based_len.Goals as goal

pub returns-then-not-is_sign : goal.returns-then-not-is_sign
returns-then-not-is_sign c =
    let plain : (nat_eq (get_or c.args.bytes.now 0 0) 115 || nat_eq (get_or c.args.bytes.now 0 0) 83) ≡ false =
    ap (λ b. nat_eq b 115 || nat_eq b 83) (sym c.byte_at.ensures) ∙ sym c.is_sign.ensures ∙ c.if-not-is_sign.true in
    based_unsigned c.args.bytes.now c.base_len.result plain c.base_len.ensures

pub returns-in_default : goal.returns-in_default
returns-in_default c =
    let signed : (nat_eq (get_or c.args.bytes.now 0 0) 115 || nat_eq (get_or c.args.bytes.now 0 0) 83) ≡ true =
    ap (λ b. nat_eq b 115 || nat_eq b 83) (sym c.byte_at.ensures) ∙ sym c.is_sign.ensures ∙ c.if-not-is_sign.false in
    based_signed_none c.args.bytes.now signed (subst (Never is_base_and_digits) c.split_at.ensures.back c.in_default.ensures)

pub returns : goal.returns
returns c =
    let signed : (nat_eq (get_or c.args.bytes.now 0 0) 115 || nat_eq (get_or c.args.bytes.now 0 0) 83) ≡ true =
    ap (λ b. nat_eq b 115 || nat_eq b 83) (sym c.byte_at.ensures) ∙ sym c.is_sign.ensures ∙ c.if-not-is_sign.false in
    let some : 0 < length c.args.bytes.now = omega (arith, c.split_at.ensures.back_len) in
    let P : List ℕ → Type 0 = λ l. IsLongest is_base_and_digits l c.in-Some.len in
    based_signed_some c.args.bytes.now c.in-Some.len (1 + c.in-Some.len) some signed refl (subst P c.split_at.ensures.back c.in-Some.ensures)
