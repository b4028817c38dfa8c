-- *internal*: What holds of each reader: one word of lookahead decides, and what was read goes on to something that can be read.
use Rattle.std.specs.Prelude.{◌≡◌, ◌<◌, Bool, true, List, ◌++◌, Option, length}
use Rattle.vwords.specs.Words.{Text}
use Rattle.vexpr_parse.specs.Readers.{Answer, got, stop, Reader, front}

-- the words that an answer leaves, and the same answer that leaves others
abbrev pub rest_of : {A : Type 0} → Answer A → List Text
rest_of (got tree left) = left
rest_of (stop why left) = left

abbrev pub put : {A : Type 0} → Answer A → List Text → Answer A
put (got tree left) other = got tree other
put (stop why left) other = stop why other

-- by the word that follows, if one does, whether a tree may have ended
abbrev pub Ends : Type 0
Ends = Option Text → Bool

-- the words are read as a tree, whatever follows that ends it
abbrev pub IsWhole : {A : Type 0} → Reader A → Ends → List Text → Type 0
IsWhole {A = A} read ends words = (tree : A) × ((rest : List Text) → ends (front rest) ≡ true → read (words ++ rest) ≡ got tree rest)

-- they begin such words
abbrev pub Begins : {A : Type 0} → Reader A → Ends → List Text → Type 0
Begins read ends before = (after : List Text) × IsWhole read ends (before ++ after)

-- what was read ends where another end follows; where a word is refused, those passed begin something that can be read
abbrev pub GoesOn : {A : Type 0} → Reader A → Ends → List Text → Answer A → Type 0
GoesOn read ends before (got tree left) = (other : List Text) → ends (front other) ≡ true → read (before ++ other) ≡ got tree other
GoesOn read ends before (stop why left) = 0 < length before → Begins read ends before

-- what a reader answers of the words: it passed some, and the next one alone decided
pub record Sees {A : Type 0} (read : Reader A) (ends : Ends) (words : List Text) (answer : Answer A) : Type 0 where
  pub before : List Text
  pub whole : words ≡ before ++ rest_of answer
  pub near : (other : List Text) → front other ≡ front (rest_of answer) → read (before ++ other) ≡ put answer other
  pub more : GoesOn read ends before answer

abbrev pub Lawful : {A : Type 0} → Reader A → Ends → Type 0
Lawful read ends = (words : List Text) → Sees read ends words (read words)

-- a lawful reader that these words are enough for, whatever follows that ends it
pub record Rule {A : Type 0} (read : Reader A) (ends : Ends) (text : List Text) : Type 0 where
  pub lawful : Lawful read ends
  pub starts : IsWhole read ends text
