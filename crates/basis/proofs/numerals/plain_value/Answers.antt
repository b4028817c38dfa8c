use Rattle.std.proofs.Common.{◌≡◌, ◌≤◌, arith, length, get_or}
use Rattle.std.specs.Result.{result_ok}
use Rattle.basis.proofs.Digits.{digits_are_text}
use Rattle.basis.proofs.Decimals.{no_leading_zero, parsed, read_some, read_none, IsRead, Fits, parsed_fits}
use Rattle.basis.proofs.numerals.plain_value.Goals as goal
use Rattle.basis.proofs.numerals.plain_value.Goals.{else-digits-gt1-via-then-digits-gt1+else-digits-eq48, else-digits-gt1-via-else-digits-gt1}

pub returns-then-digits-eq48-clause-none : goal.returns-then-digits-eq48-clause-none
returns-then-digits-eq48-clause-none c = λ n h. no_leading_zero c.args.digits.now n (omega arith) c.if-digits-eq48.true h.0 h.1

read : (c : goal.After-ok) → IsRead c.args.digits.now (result_ok c.parse.result)
read c =
    let plain : get_or c.args.digits.now 0 0 ≡ 48 → length c.args.digits.now ≤ 1 = λ z.
    elim c.else-digits-gt1.branch [
      | else-digits-gt1-via-then-digits-gt1+else-digits-eq48 w ↦ omega arith
      | else-digits-gt1-via-else-digits-gt1 w ↦ omega arith
    ] in
    parsed c.args.digits.now c.parse.result c.requires plain (rw c.in-Ok.ensures.cases.0 at c.parse.ensures.value.0)

fits : (c : goal.After-ok) → Fits (result_ok c.parse.result)
fits c = parsed_fits c.args.digits.now c.parse.result c.requires (rw c.in-Ok.ensures.cases.0 at c.parse.ensures.value.0)

pub returns-in-Ok-clause-read : goal.returns-in-Ok-clause-read
returns-in-Ok-clause-read c = rw c.ok.ensures.value (read_some c.args.digits.now _ (read c) (fits c))

pub returns-in-Ok-clause-none : goal.returns-in-Ok-clause-none
returns-in-Ok-clause-none c = rw c.ok.ensures.value (read_none c.args.digits.now _ (read c))

pub returns-in-Err-clause-none : goal.returns-in-Err-clause-none
returns-in-Err-clause-none c = absurd (c.in-Err.ensures.cases.0 (digits_are_text c.args.digits.now c.requires))
