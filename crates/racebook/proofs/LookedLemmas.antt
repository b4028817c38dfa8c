-- Where lines aren't looked at no run prints any, so there is no race of lines.
use Rattle.std.proofs.Common.{◌≡◌, ℕ, List, [], ◌∷◌, Option, Some, None, refl, arith}
use Rattle.basis.proofs.Lists.{listed_place}
use Rattle.sched_core.specs.declared.setting.Looked.{Looked}
use Rattle.sched_core.specs.declared.setting.Looked.TheVariants.{Values, Lines}
use Rattle.sched_core.specs.Bags.{HasLines}
use Rattle.statebook.specs.declared.limits.Limits.{Limits}
use Rattle.vmodel.specs.Run.{Setting, state_after}
use Rattle.racebook.specs.LineRaces.{LineRace, Texts, EachLineRace, IsLineRace}

-- lines are there where they are looked at
abbrev pub LooksAsAsked : Setting → Type 0
LooksAsAsked setting = (log : List (ℕ × ℕ)) (n : ℕ) → HasLines setting.looked (state_after setting log n).printed

none_by : (looked : Looked) (printed : Option Texts) (lines : Texts) → looked ≡ Values → printed ≡ Some lines → HasLines looked printed → ⊥
none_by Values None lines is e has = absurd (cc)
none_by Values (Some bag) lines is e has = has
none_by Lines printed lines is e has = absurd (cc)

pub no_line_races : (setting : Setting) (limits : Limits) (races : List LineRace) → setting.looked ≡ Values → LooksAsAsked setting → EachLineRace (IsLineRace setting limits) races → races ≡ []
no_line_races setting limits [] is looks each = refl
no_line_races setting limits (race ∷ races) is looks each = absurd (
    let r = each 0 race refl in
    let two = r.two in
    let first = listed_place race.sides 0 (omega arith) in
    let w = r.seen 0 first.0 first.1 in
    none_by setting.looked (state_after setting first.0.1 w.steps).printed first.0.0 is w.shown.printed (looks first.0.1 w.steps))
