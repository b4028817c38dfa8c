use Rattle.std.proofs.Common.{◌≡◌, ◌≤◌, drop}
use Rattle.format_text.specs.Formats.{places_by}
use Rattle.format_text.proofs.form.places_of.Given as goal

abbrev pub invariant-loop-digit : goal.invariant-loop-digit
invariant-loop-digit l = (places_by l.places (drop l.digit-index l.digits) ≡ places_by 0 l.digits) × (l.places ≤ 1200)
