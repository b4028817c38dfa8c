-- What the lines of a head before its variables hold.
use Rattle.std.proofs.Common.{◌≡◌, ◌≢◌, ℕ, true, false, List, [], ◌∷◌, arith, refl}
use Rattle.std.specs.Prelude.{codes}
use Rattle.std.specs.List.{list_all}
use Rattle.std.specs.Fmt.{decimal}
use Rattle.basis.proofs.Bools.{and_left, and_right, and_both}
use Rattle.sched_core.specs.declared.setting.Departures.{Departures}
use Rattle.sched_core.specs.declared.setting.Departures.TheVariants.{Taking, Holding}
use Rattle.sched_core.specs.declared.setting.Looked.{Looked}
use Rattle.report_text.specs.declared.report.Version.{Version}
use Rattle.report_text.specs.declared.report.Version.TheVariants.{One, Two, Three}
use Rattle.report_text.specs.ReportText.{version_number, departures_word}
use Rattle.report_text.specs.declared.report.Outcome.{Outcome}
use Rattle.report_text.specs.WellFormed.{HasViews}
use Rattle.vwords.specs.Words.{is_printable, are_printable}
use Rattle.report_text.specs.Inner.Fronts.{lacks}
use Rattle.report_text.specs.Inner.Headings.{AreViewsIn, IsNumberLine, label_line_before}
use Rattle.report_text.proofs.LineLemmas.{lacks_by}

name_in : (name : List ℕ) → are_printable name ≡ true → list_all is_printable name ≡ true
name_in [] h = refl
name_in (c ∷ cs) h = h

-- what is printable has no blank and no line feed
pub name_lacks : (b : ℕ) (name : List ℕ) → is_printable b ≡ false → are_printable name ≡ true → lacks b name ≡ true
name_lacks b name other h = lacks_by is_printable b other name (name_in name h)

pub version_front : (v : Version) (text rest : List ℕ) → text ≡ label_line_before (codes "vrace report ") (decimal (version_number v)) rest → IsNumberLine (codes "vrace report ") 1 3 text (version_number v) rest
version_front One text rest e = record { small = omega arith; above = omega arith; below = omega arith; whole = e }
version_front Two text rest e = record { small = omega arith; above = omega arith; below = omega arith; whole = e }
version_front Three text rest e = record { small = omega arith; above = omega arith; below = omega arith; whole = e }

pub is_one : (v : Version) (n : ℕ) → n ≡ version_number v → n ≡ 1 → One ≡ v
is_one One n e h = refl
is_one Two n e h = absurd (omega (arith, e, h))
is_one Three n e h = absurd (omega (arith, e, h))

pub is_two : (v : Version) (n : ℕ) → n ≡ version_number v → n ≡ 2 → Two ≡ v
is_two One n e h = absurd (omega (arith, e, h))
is_two Two n e h = refl
is_two Three n e h = absurd (omega (arith, e, h))

pub is_three : (v : Version) (n : ℕ) → n ≡ version_number v → n ≢ 1 → n ≢ 2 → Three ≡ v
is_three One n e h k = absurd (h e)
is_three Two n e h k = absurd (k e)
is_three Three n e h k = refl

-- what a version tells it has lines for, or it is what a version without them tells
pub views_in : (v : Version) (d : Departures) (l : Looked) (o : Outcome) → HasViews v d l o → AreViewsIn v (d, l)
views_in One d l o h = (h.0, h.1)
views_in Two d l o h = (h.0, h.1)
views_in Three d l o h = tt

pub departures_lacks : (d : Departures) → lacks 10 (departures_word d) ≡ true
departures_lacks Taking = refl
departures_lacks Holding = refl
