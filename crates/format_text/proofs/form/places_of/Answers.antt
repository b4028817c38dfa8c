use Rattle.std.proofs.Common.{arith}
use Rattle.format_text.proofs.FrontLemmas.{places_end}
use Rattle.format_text.proofs.form.places_of.Goals as goal

pub returns-then-places-gt99 : goal.returns-then-places-gt99
returns-then-places-gt99 c =
    places_end c.args.digits.now c.loop-digit.digit-index c.loop-digit.places (omega arith) (omega arith) c.loop-digit.invariant.0
