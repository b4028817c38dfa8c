-- *internal*: Printed lines, as they are read.
use Rattle.std.specs.Prelude.{◌≡◌, ◌≢◌, ℕ, ◌<◌, ◌-◌, ◌^◌, List, ◌++◌, length, slice_get, Option, Some, None}
use Rattle.std.specs.Ordering.{nat_cmp}
use Rattle.std.specs.Cmp.Lexicographic.{slice_cmp}
use Rattle.std.specs.declared.cmp.Ordering.TheVariants.{Less}
use Rattle.sched_core.specs.declared.setting.Looked.{Looked}
use Rattle.sched_core.specs.Bags.{HasLines}
use Rattle.report_text.specs.ReportText.{counted_text, counted_texts, printed_lines}
use Rattle.report_text.specs.WellFormed.{Each}
use Rattle.report_text.specs.Inner.Lists.{Listed}

-- the bytes of the text can be counted in 64 bits
abbrev pub IsCountable : List ℕ → Type 0
IsCountable text = length text < 2 ^ 64

-- the second isn't less than the first
abbrev pub IsNotAfter : List ℕ → List ℕ → Type 0
IsNotAfter a b = slice_cmp nat_cmp b a ≢ Less

-- the text is this line by the count of its bytes, and then the rest
abbrev pub IsTextTaken : List ℕ → List ℕ → List ℕ → Type 0
IsTextTaken text line rest = IsCountable line × (text ≡ counted_text line ++ rest)

-- the line may stand after the last of these
abbrev pub FollowsLine : List (List ℕ) → List ℕ → Type 0
FollowsLine lines line = (before : List ℕ) → slice_get lines (length lines - 1) ≡ Some before → IsNotAfter before line

-- the text is so many lines in order, and then the rest
abbrev pub AreLinesTaken : ℕ → List ℕ → List (List ℕ) → List ℕ → Type 0
AreLinesTaken count text lines rest = Listed IsCountable IsNotAfter lines × (length lines ≡ count) × (text ≡ counted_texts lines ++ rest)

-- the lines and their bytes can be counted in 64 bits
abbrev pub AreCountable : List (List ℕ) → Type 0
AreCountable lines = Each IsCountable lines × (length lines < 2 ^ 64)

abbrev pub HasCountable : Option (List (List ℕ)) → Type 0
HasCountable None = Unit {0}
HasCountable (Some lines) = AreCountable lines

-- lines where they are looked at, and only then
abbrev pub ArePrinted : Looked → Option (List (List ℕ)) → Type 0
ArePrinted looked printed = HasLines looked printed × HasCountable printed

-- the text is these lines, and then the rest
abbrev pub ArePrintedTaken : Looked → List ℕ → Option (List (List ℕ)) → List ℕ → Type 0
ArePrintedTaken looked text printed rest = ArePrinted looked printed × (text ≡ printed_lines printed ++ rest)
