-- *internal*: The bytes that are still to come from a reader, of which some have come already, and the words that they are.
use Rattle.std.specs.Prelude.{◌≡◌, ℕ, ◌<◌, ◌≤◌, List, [], ◌∷◌, ◌++◌, length, take, drop, Option, None, Some, ⊤}
use Rattle.std.specs.Io.KnownBytes.{prepend_known}
use Rattle.vcd_read.specs.declared.bytes.ByteReader.{ByteReader}
use Rattle.vcd_read.specs.declared.words.WordReader.{WordReader}
use Rattle.vcd_read.specs.Words.{Text, words_of, words_behind}

-- those that have come and weren't taken
abbrev pub waiting : ℕ → ℕ → List ℕ → List ℕ
waiting at end piece = drop at (take end piece)

-- all that are to be taken, where the reader tells what it has left
abbrev pub left : {R : Type 0} → (R → Option (List ℕ)) → ByteReader R → Option (List ℕ)
left remaining b = prepend_known (waiting b.at b.end b.piece.items) (remaining b.reader.inner)

-- the places are within the piece, and the piece has room
pub record IsReady {R : Type 0} (b : ByteReader R) : Type 0 where
  pub ordered : b.at ≤ b.end
  pub within : b.end ≤ length b.piece.items
  pub room : 0 < length b.piece.items

-- Bytes that are known are so many words as others, behind them, and what comes before make.
abbrev pub AreWords : (List ℕ → List Text) → Option (List ℕ) → Option (List ℕ) → Type 0
AreWords words None now = ⊤
AreWords words (Some text) None = ⊥
AreWords words (Some text) (Some rest) = words_of text ≡ words rest

-- these words come next
abbrev pub Come : List Text → Option (List ℕ) → Option (List ℕ) → Type 0
Come words = AreWords (λ rest. words ++ words_of rest)

-- what a reader of words takes are words of which this holds
abbrev pub Takes : {R : Type 0} → (R → Option (List ℕ)) → WordReader R → WordReader R → (List Text → Type 0) → Type 0
Takes remaining old new P = (words : List Text) × Come words (left remaining old.bytes) (left remaining new.bytes) × P words

-- the word comes next
abbrev pub IsNextWord : Text → Option (List ℕ) → Option (List ℕ) → Type 0
IsNextWord word = Come (word ∷ [])

-- no word is left
abbrev pub NoneIsLeft : Option (List ℕ) → Option (List ℕ) → Type 0
NoneIsLeft = AreWords (λ rest. [])

-- letters have come since the blank before
abbrev pub HaveCome : Text → Option (List ℕ) → Option (List ℕ) → Type 0
HaveCome letters = AreWords (λ rest. words_behind rest letters)

-- these words are all that come
abbrev pub AreAll : List Text → Option (List ℕ) → Option (List ℕ) → Type 0
AreAll words = AreWords (λ rest. words)
