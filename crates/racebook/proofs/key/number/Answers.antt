use Rattle.std.proofs.Common.{◌≡◌, suc, ◌-◌, arith}
use Rattle.racebook.proofs.KeyLemmas.{number_step, rest_small}
use Rattle.racebook.proofs.key.number.Goals as goal

pub overflow_mul-number : goal.overflow_mul-number
overflow_mul-number c =
    let next : c.digits.left ≡ suc (c.digits.left - 1) = omega (arith, c.digits-test.true) in
    let e = number_step c.args.value.letters (c.digits.left - 1) c.digits.left c.digits.number c.digit.result c.bit.result c.bit.ensures next c.digits.invariant.number_is c.digit.ensures in
    let few = c.len-left.ensures in
    let s = rest_small c.args.value.letters (c.digits.left - 1) (omega arith) in
    omega arith

pub overflow_add-number : goal.overflow_add-number
overflow_add-number c =
    let next : c.digits.left ≡ suc (c.digits.left - 1) = omega (arith, c.digits-test.true) in
    let e = number_step c.args.value.letters (c.digits.left - 1) c.digits.left c.digits.number c.digit.result c.bit.result c.bit.ensures next c.digits.invariant.number_is c.digit.ensures in
    let few = c.len-left.ensures in
    let s = rest_small c.args.value.letters (c.digits.left - 1) (omega arith) in
    omega arith

pub digits-preserved : goal.digits-preserved
digits-preserved c =
    let next : c.digits.left ≡ suc (c.digits.left - 1) = omega (arith, c.digits-test.true) in
    record {
      within = omega (arith, c.digits.invariant.within);
      number_is = number_step c.args.value.letters (c.digits.left - 1) c.digits.left c.digits.number c.digit.result c.bit.result c.bit.ensures next c.digits.invariant.number_is c.digit.ensures;
    }
