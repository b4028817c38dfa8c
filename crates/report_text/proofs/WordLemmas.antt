-- The words of versions, grains, departures, what is looked at, causes and outcomes tell them.
use Rattle.std.proofs.Common.{◌≡◌, ◌≢◌, ℕ, List, get_or, arith, ap, refl}
use Rattle.std.specs.Prelude.{codes}
use Rattle.sched_core.specs.declared.end.Cause.{Cause}
use Rattle.sched_core.specs.declared.end.Cause.TheVariants.{Finish, Stop, Quiet, Limit}
use Rattle.sched_core.specs.declared.setting.Grain.{Grain}
use Rattle.sched_core.specs.declared.setting.Grain.TheVariants.{Process, Statement}
use Rattle.sched_core.specs.declared.setting.Departures.{Departures}
use Rattle.sched_core.specs.declared.setting.Departures.TheVariants.{Taking, Holding}
use Rattle.sched_core.specs.declared.setting.Looked.{Looked}
use Rattle.sched_core.specs.declared.setting.Looked.TheVariants.{Values, Lines}
use Rattle.report_text.specs.declared.report.Version.{Version}
use Rattle.report_text.specs.declared.report.Version.TheVariants.{One, Two, Three}
use Rattle.report_text.specs.declared.report.Outcome.{Outcome}
use Rattle.report_text.specs.declared.report.Outcome.TheVariants.{Exhausted, CutMemory, CutEntries, CutSteps, CutTime}
use Rattle.report_text.specs.ReportText.{version_number, grain_word, departures_word, looked_word, cause_word, outcome_words}

pub no_grain : (w : List ℕ) → w ≢ codes "process" → w ≢ codes "statement" → (x : Grain) → w ≢ grain_word x
no_grain w a b Process e = a e
no_grain w a b Statement e = b e

pub no_departures : (w : List ℕ) → w ≢ codes "taking" → w ≢ codes "holding" → (x : Departures) → w ≢ departures_word x
no_departures w a b Taking e = a e
no_departures w a b Holding e = b e

pub no_looked : (w : List ℕ) → w ≢ codes "values" → w ≢ codes "lines" → (x : Looked) → w ≢ looked_word x
no_looked w a b Values e = a e
no_looked w a b Lines e = b e

pub no_cause : (w : List ℕ) → w ≢ codes "finish" → w ≢ codes "stop" → w ≢ codes "quiet" → w ≢ codes "limit" → (x : Cause) → w ≢ cause_word x
no_cause w a b c d Finish e = a e
no_cause w a b c d Stop e = b e
no_cause w a b c d Quiet e = c e
no_cause w a b c d Limit e = d e

pub no_outcome : (w : List ℕ) → w ≢ codes "exhausted" → w ≢ codes "cut memory" → w ≢ codes "cut entries" → w ≢ codes "cut steps" → w ≢ codes "cut time" → (x : Outcome) → w ≢ outcome_words x
no_outcome w a b c d k Exhausted e = a e
no_outcome w a b c d k CutMemory e = b e
no_outcome w a b c d k CutEntries e = c e
no_outcome w a b c d k CutSteps e = d e
no_outcome w a b c d k CutTime e = k e

letter : (k : ℕ) (a b : List ℕ) → a ≡ b → get_or a k 0 ≡ get_or b k 0
letter k a b e = ap (λ t. get_or t k 0) e

pub version_injective : (x y : Version) → version_number x ≡ version_number y → x ≡ y
version_injective One One e = refl
version_injective Two Two e = refl
version_injective One Two e = absurd (omega (arith, e))
version_injective Two One e = absurd (omega (arith, e))
version_injective Three Three e = refl
version_injective One Three e = absurd (omega (arith, e))
version_injective Three One e = absurd (omega (arith, e))
version_injective Two Three e = absurd (omega (arith, e))
version_injective Three Two e = absurd (omega (arith, e))

pub grain_injective : (x y : Grain) → grain_word x ≡ grain_word y → x ≡ y
grain_injective Process Process e = refl
grain_injective Process Statement e = let differ : 112 ≡ 115 = letter 0 (codes "process") (codes "statement") e in absurd (omega (arith, differ))
grain_injective Statement Process e = let differ : 115 ≡ 112 = letter 0 (codes "statement") (codes "process") e in absurd (omega (arith, differ))
grain_injective Statement Statement e = refl

pub departures_injective : (x y : Departures) → departures_word x ≡ departures_word y → x ≡ y
departures_injective Taking Taking e = refl
departures_injective Taking Holding e = let differ : 116 ≡ 104 = letter 0 (codes "taking") (codes "holding") e in absurd (omega (arith, differ))
departures_injective Holding Taking e = let differ : 104 ≡ 116 = letter 0 (codes "holding") (codes "taking") e in absurd (omega (arith, differ))
departures_injective Holding Holding e = refl

pub looked_injective : (x y : Looked) → looked_word x ≡ looked_word y → x ≡ y
looked_injective Values Values e = refl
looked_injective Values Lines e = let differ : 118 ≡ 108 = letter 0 (codes "values") (codes "lines") e in absurd (omega (arith, differ))
looked_injective Lines Values e = let differ : 108 ≡ 118 = letter 0 (codes "lines") (codes "values") e in absurd (omega (arith, differ))
looked_injective Lines Lines e = refl

pub cause_injective : (x y : Cause) → cause_word x ≡ cause_word y → x ≡ y
cause_injective Finish Finish e = refl
cause_injective Finish Stop e = let differ : 102 ≡ 115 = letter 0 (codes "finish") (codes "stop") e in absurd (omega (arith, differ))
cause_injective Finish Quiet e = let differ : 102 ≡ 113 = letter 0 (codes "finish") (codes "quiet") e in absurd (omega (arith, differ))
cause_injective Finish Limit e = let differ : 102 ≡ 108 = letter 0 (codes "finish") (codes "limit") e in absurd (omega (arith, differ))
cause_injective Stop Finish e = let differ : 115 ≡ 102 = letter 0 (codes "stop") (codes "finish") e in absurd (omega (arith, differ))
cause_injective Stop Stop e = refl
cause_injective Stop Quiet e = let differ : 115 ≡ 113 = letter 0 (codes "stop") (codes "quiet") e in absurd (omega (arith, differ))
cause_injective Stop Limit e = let differ : 115 ≡ 108 = letter 0 (codes "stop") (codes "limit") e in absurd (omega (arith, differ))
cause_injective Quiet Finish e = let differ : 113 ≡ 102 = letter 0 (codes "quiet") (codes "finish") e in absurd (omega (arith, differ))
cause_injective Quiet Stop e = let differ : 113 ≡ 115 = letter 0 (codes "quiet") (codes "stop") e in absurd (omega (arith, differ))
cause_injective Quiet Quiet e = refl
cause_injective Quiet Limit e = let differ : 113 ≡ 108 = letter 0 (codes "quiet") (codes "limit") e in absurd (omega (arith, differ))
cause_injective Limit Finish e = let differ : 108 ≡ 102 = letter 0 (codes "limit") (codes "finish") e in absurd (omega (arith, differ))
cause_injective Limit Stop e = let differ : 108 ≡ 115 = letter 0 (codes "limit") (codes "stop") e in absurd (omega (arith, differ))
cause_injective Limit Quiet e = let differ : 108 ≡ 113 = letter 0 (codes "limit") (codes "quiet") e in absurd (omega (arith, differ))
cause_injective Limit Limit e = refl

pub outcome_injective : (x y : Outcome) → outcome_words x ≡ outcome_words y → x ≡ y
outcome_injective Exhausted Exhausted e = refl
outcome_injective Exhausted CutMemory e = let differ : 117 ≡ 109 = letter 4 (codes "exhausted") (codes "cut memory") e in absurd (omega (arith, differ))
outcome_injective Exhausted CutEntries e = let differ : 117 ≡ 101 = letter 4 (codes "exhausted") (codes "cut entries") e in absurd (omega (arith, differ))
outcome_injective Exhausted CutSteps e = let differ : 117 ≡ 115 = letter 4 (codes "exhausted") (codes "cut steps") e in absurd (omega (arith, differ))
outcome_injective CutMemory Exhausted e = let differ : 109 ≡ 117 = letter 4 (codes "cut memory") (codes "exhausted") e in absurd (omega (arith, differ))
outcome_injective CutMemory CutMemory e = refl
outcome_injective CutMemory CutEntries e = let differ : 109 ≡ 101 = letter 4 (codes "cut memory") (codes "cut entries") e in absurd (omega (arith, differ))
outcome_injective CutMemory CutSteps e = let differ : 109 ≡ 115 = letter 4 (codes "cut memory") (codes "cut steps") e in absurd (omega (arith, differ))
outcome_injective CutEntries Exhausted e = let differ : 101 ≡ 117 = letter 4 (codes "cut entries") (codes "exhausted") e in absurd (omega (arith, differ))
outcome_injective CutEntries CutMemory e = let differ : 101 ≡ 109 = letter 4 (codes "cut entries") (codes "cut memory") e in absurd (omega (arith, differ))
outcome_injective CutEntries CutEntries e = refl
outcome_injective CutEntries CutSteps e = let differ : 101 ≡ 115 = letter 4 (codes "cut entries") (codes "cut steps") e in absurd (omega (arith, differ))
outcome_injective CutSteps Exhausted e = let differ : 115 ≡ 117 = letter 4 (codes "cut steps") (codes "exhausted") e in absurd (omega (arith, differ))
outcome_injective CutSteps CutMemory e = let differ : 115 ≡ 109 = letter 4 (codes "cut steps") (codes "cut memory") e in absurd (omega (arith, differ))
outcome_injective CutSteps CutEntries e = let differ : 115 ≡ 101 = letter 4 (codes "cut steps") (codes "cut entries") e in absurd (omega (arith, differ))
outcome_injective CutSteps CutSteps e = refl
outcome_injective Exhausted CutTime e = let differ : 117 ≡ 116 = letter 4 (codes "exhausted") (codes "cut time") e in absurd (omega (arith, differ))
outcome_injective CutTime Exhausted e = let differ : 116 ≡ 117 = letter 4 (codes "cut time") (codes "exhausted") e in absurd (omega (arith, differ))
outcome_injective CutMemory CutTime e = let differ : 109 ≡ 116 = letter 4 (codes "cut memory") (codes "cut time") e in absurd (omega (arith, differ))
outcome_injective CutTime CutMemory e = let differ : 116 ≡ 109 = letter 4 (codes "cut time") (codes "cut memory") e in absurd (omega (arith, differ))
outcome_injective CutEntries CutTime e = let differ : 101 ≡ 116 = letter 4 (codes "cut entries") (codes "cut time") e in absurd (omega (arith, differ))
outcome_injective CutTime CutEntries e = let differ : 116 ≡ 101 = letter 4 (codes "cut time") (codes "cut entries") e in absurd (omega (arith, differ))
outcome_injective CutSteps CutTime e = let differ : 115 ≡ 116 = letter 4 (codes "cut steps") (codes "cut time") e in absurd (omega (arith, differ))
outcome_injective CutTime CutSteps e = let differ : 116 ≡ 115 = letter 4 (codes "cut time") (codes "cut steps") e in absurd (omega (arith, differ))
outcome_injective CutTime CutTime e = refl
