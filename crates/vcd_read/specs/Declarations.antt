-- *trusted*: What a value change dump declares (IEEE 1364-2005, 18.2.3).
use Rattle.std.specs.Prelude.{◌≡◌, ℕ, Bool, true, not, ◌&&◌, ◌||◌, if◌then◌else◌, take, drop, ◌==◌, get_or, List, [], ◌∷◌, ◌++◌, Option, Some, None, codes, ⊤}
use Rattle.std.specs.List.{prefix_len}
use Rattle.std.specs.Str.{bytes_eq}
use Rattle.basis.specs.declared.timescale.Span.{Span}
use Rattle.vcd_read.specs.Words.{Text}
use Rattle.vcd_read.specs.Numbers.{IsDecimal}
use Rattle.vcd_read.specs.Timescale.{span_in}

-- a variable: its name with those of its scopes, its bits, and the code that stands for it
pub record Variable : Type 0 where
  pub name : Text
  pub width : ℕ
  pub code : Text

abbrev pub end_word : Text
end_word = codes "$end"

-- with these declarations end (18.2.3.3)
abbrev pub last_words : List Text
last_words = codes "$enddefinitions" ∷ end_word ∷ []

-- keywords of declarations that tell something, and of what comes behind them
abbrev pub is_declaring : Text → Bool
is_declaring word =
    bytes_eq word (codes "$scope") || (bytes_eq word (codes "$upscope") || (bytes_eq word (codes "$var")
    || (bytes_eq word (codes "$timescale") || bytes_eq word (codes "$enddefinitions"))))

abbrev pub is_telling : Text → Bool
is_telling word =
    bytes_eq word end_word || (bytes_eq word (codes "$dumpvars") || (bytes_eq word (codes "$dumpall")
    || (bytes_eq word (codes "$dumpoff") || bytes_eq word (codes "$dumpon"))))

-- Other keywords are passed over, with the words up to their end: $comment (18.2.3.1), $date (18.2.3.2), $version (18.2.3.7), and those that
-- the standard doesn't have (own).
abbrev pub is_note : Text → Bool
is_note word = get_or word 0 0 == 36 && (not (is_declaring word) && not (is_telling word))

abbrev pub IsNoEnd : Text → Type 0
IsNoEnd word = word ≡ end_word → ⊥

-- none of these words is the end
abbrev pub HaveNoEnd : List Text → Type 0
HaveNoEnd [] = ⊤
HaveNoEnd (word ∷ words) = IsNoEnd word × HaveNoEnd words

-- A reference has its name before its range. One that begins with a backslash is an escaped identifier, and all behind that is the name
-- (3.7.1).
abbrev pub is_no_bracket : ℕ → Bool
is_no_bracket c = not (c == 91)

abbrev pub name_of : Text → Text
name_of reference = if get_or reference 0 0 == 92 then drop 1 reference else take (prefix_len is_no_bracket reference) reference

-- what is declared by this reference, where names begin so
abbrev pub declared_variable : Text → Text → ℕ → Text → Variable
declared_variable prefix reference width code = record { name = prefix ++ name_of reference; width = width; code = code }

-- The words declare this unit of times, if they declare one, and these variables, where the unit before was declared before them, and where
-- the names of variables begin with the prefix, and outside of the open scope with the outer ones.
pub data Declares : Option Span → Text → List Text → List Text → Option Span → List Variable → Type 0 where
  done : (unit : Option Span) (prefix : Text) (outer : List Text) → Declares unit prefix outer last_words unit []
  note : (before unit : Option Span) (prefix : Text) (outer : List Text) (keyword : Text) (words rest : List Text) (variables : List Variable) →
      is_note keyword ≡ true → HaveNoEnd words → Declares before prefix outer rest unit variables →
      Declares before prefix outer (keyword ∷ (words ++ end_word ∷ rest)) unit variables
  -- 18.2.3.4
  scope : (before unit : Option Span) (prefix : Text) (outer : List Text) (kind name : Text) (rest : List Text) (variables : List Variable) →
      Declares before (prefix ++ (name ++ 46 ∷ [])) (prefix ∷ outer) rest unit variables →
      Declares before prefix outer (codes "$scope" ∷ kind ∷ name ∷ end_word ∷ rest) unit variables
  -- 18.2.3.5: it stands once at most
  timescale : (unit : Option Span) (prefix : Text) (outer : List Text) (words rest : List Text) (span : Span) (variables : List Variable) →
      HaveNoEnd words → span_in words ≡ Some span → Declares (Some span) prefix outer rest unit variables →
      Declares None prefix outer (codes "$timescale" ∷ (words ++ end_word ∷ rest)) unit variables
  -- 18.2.3.6
  upscope : (before unit : Option Span) (prefix inner : Text) (outer : List Text) (rest : List Text) (variables : List Variable) →
      Declares before prefix outer rest unit variables → Declares before inner (prefix ∷ outer) (codes "$upscope" ∷ end_word ∷ rest) unit variables
  -- 18.2.3.8: a range, if there is one, may stand behind the name or be a word of its own
  variable : (before unit : Option Span) (prefix : Text) (outer : List Text) (kind size code reference : Text) (range rest : List Text) (width : ℕ)
      (variables : List Variable) → IsDecimal size width → IsNoEnd reference → HaveNoEnd range →
      Declares before prefix outer rest unit variables →
      Declares before prefix outer (codes "$var" ∷ kind ∷ size ∷ code ∷ reference ∷ (range ++ end_word ∷ rest)) unit
      (declared_variable prefix reference width code ∷ variables)
