use Rattle.std.proofs.Common.{◌≡◌, ℕ, List, take, drop, true, ap, sym, subst, ◌∙◌}
use Rattle.std.specs.Str.{all_ascii_digits}
use Rattle.basis.proofs.Decimals.{front_digits}
use Rattle.sched_core.specs.Inner.Reading.{StartsNoNumber}
use Rattle.sched_core.proofs.TextLemmas.{stops_behind}
use Rattle.sched_core.proofs.log_text.split_digits.Goals as goal

pub returns-clause-digits : goal.returns-clause-digits
returns-clause-digits c =
    ap all_ascii_digits (c.split_at.ensures.front ∙ ap (λ n. take n c.args.text.now) c.digits_len.ensures.value)
    ∙ front_digits c.args.text.now

pub returns-clause-stops : goal.returns-clause-stops
returns-clause-stops c =
    subst StartsNoNumber (sym (c.split_at.ensures.back ∙ ap (λ n. drop n c.args.text.now) c.digits_len.ensures.value)) (stops_behind c.args.text.now)
