use Rattle.std.proofs.Common.{◌≡◌, arith, ap, length, ◌∙◌}
use Rattle.std.specs.Char.{is_ascii_digit}
use Rattle.std.specs.List.{prefix_len}
use Rattle.std.specs.Str.{all_ascii_digits}
use Rattle.basis.proofs.Decimals.{are_digits, decimal_digits, only_number, whole_digits}
use Rattle.basis.proofs.numerals.number_in.Goals as goal

pub returns-then-digits_len-word-clause-each : goal.returns-then-digits_len-word-clause-each
returns-then-digits_len-word-clause-each c = λ n h.
    let all : prefix_len is_ascii_digit c.args.word.now ≡ length c.args.word.now =
    whole_digits c.args.word.now (ap all_ascii_digits h.1 ∙ decimal_digits n h.0) in
    absurd (omega (arith, c.if-digits_len-word.true, c.digits_len.ensures.value, all))

pub plain_value-requires : goal.plain_value-requires
plain_value-requires c = are_digits c.args.word.now (omega (arith, c.if-digits_len-word.false, c.digits_len.ensures.value))

pub returns-clause-each : goal.returns-clause-each
returns-clause-each c = λ n h. only_number c.args.word.now c.plain_value.result c.plain_value.ensures.read c.plain_value.ensures.none n h
