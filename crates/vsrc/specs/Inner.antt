-- *internal*: What the code keeps and its inner functions answer.
use Rattle.std.specs.Prelude.{◌≡◌, ℕ, ◌+◌, ◌<◌, List, length, drop, slice_index, Option, Some, option_map}
use Rattle.std.specs.List.Sorted.{IsNonDecreasing}
use Rattle.std.specs.Borrow.{Bor}
use Rattle.vsrc.specs.Source.{text_limit}
use Rattle.vsrc.specs.Words.{Named}
use Rattle.basis.specs.declared.timescale.Span.{Span}
use Rattle.basis.specs.declared.timescale.Timescale.{Timescale}
use Rattle.vsrc.specs.Timescales.{Spanned, Timed}
use Rattle.vsrc.specs.Outside.{further, string_end}
use Rattle.vsrc.specs.declared.fault.SrcFault.{SrcFault}
use Rattle.vsrc.specs.declared.fault.SrcFault.TheVariants.{Growth}

-- where the lines of files begin: the line feeds between files, and all of them
pub record LinesOf : Type 0 where
  pub borders : List ℕ
  pub feeds : List ℕ

-- both rise, and the borders stand in a text that isn't too long
pub record AreLines (borders feeds : List ℕ) : Type 0 where
  pub rising : IsNonDecreasing borders
  pub within : (k : ℕ) → k < length borders → slice_index borders k < text_limit
  pub feeds_rising : IsNonDecreasing feeds

-- a fault of files that are too long together, told by the number of the file with which they get so
abbrev pub is_long_with : ℕ → SrcFault
is_long_with number = Growth (record { file = number; line = 1; column = 0 })

abbrev pub IsLong : Option ℕ → SrcFault → Type 0
IsLong first fault = (number : ℕ) × (first ≡ Some number) × (fault ≡ is_long_with number)

-- the text is too long with what leads this file and the file's bytes
abbrev pub IsGrowth : List ℕ → List ℕ → List ℕ → ℕ → SrcFault → Type 0
IsGrowth text lead bytes file fault = (text_limit < length text + length lead + length bytes) × (fault ≡ is_long_with file)

-- where the string that is open at a place ends, told from the head of the text
abbrev pub string_end_from : List ℕ → ℕ → Option ℕ
string_end_from text at = further at (string_end (drop at text))

-- ---- directives

-- a name that was found, with how many bytes it takes
abbrev pub named_of : Option (Bor (List ℕ) × ℕ) → Option Named
named_of = option_map (λ found. record { name = found.0.now; len = found.1 })

-- a length of time and a timescale that were found, with how many bytes they take
abbrev pub spanned_of : Option (Span × ℕ) → Option Spanned
spanned_of = option_map (λ found. record { span = found.0; len = found.1 })

abbrev pub timed_of : Option (Timescale × ℕ) → Option Timed
timed_of = option_map (λ found. record { timescale = found.0; len = found.1 })
