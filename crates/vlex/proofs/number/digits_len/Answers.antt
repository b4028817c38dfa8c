use Rattle.std.proofs.Common.{arith, ◌∙◌, sym, ap, ◌+◌}
use Rattle.std.specs.List.{prefix_len}
use Rattle.vlex.specs.Bytes.{is_in}
use Rattle.vlex.proofs.Numbers.{digits_none, digits_some}
use Rattle.vlex.proofs.number.digits_len.Goals as goal

pub returns-in_default : goal.returns-in_default
returns-in_default c = digits_none c.args.base c.args.digits.now (sym c.in_default.ensures)

pub returns : goal.returns
returns c =
    digits_some c.args.base c.args.digits.now c.in-Some.set (1 + c.run_len.result) (omega arith) (sym c.in-Some.ensures)
    (ap (λ n. 1 + n) (c.run_len.ensures.value ∙ ap (prefix_len (is_in c.in-Some.set)) c.split_at.ensures.back))
