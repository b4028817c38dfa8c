use Rattle.std.proofs.lemmas.List.{take_rest}
use Rattle.report_text.proofs.FrontLemmas.{cut_at, no_cut, cut_same}
use Rattle.report_text.proofs.front.cut.Goals as goal

pub returns-in_err-place-clause-each : goal.returns-in_err-place-clause-each
returns-in_err-place-clause-each c = rw c.from_residual.ensures (λ l r h. no_cut _ _ l r c.in_err-place.ensures h)

pub returns-clause-read : goal.returns-clause-read
returns-clause-read c = rw take_rest (cut_at c.args.byte c.args.text.now c.in_ok-place.place c.in_ok-place.ensures)

pub returns-clause-each : goal.returns-clause-each
returns-clause-each c = rw take_rest (λ l r h. cut_same _ _ _ l _ r (cut_at c.args.byte c.args.text.now c.in_ok-place.place c.in_ok-place.ensures) h)
