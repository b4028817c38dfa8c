-- *internal*: Readers made of others: a pair, a list, what may be left out, and what is made of what was read.
use Rattle.std.specs.Prelude.{ℕ, nat_le, Bool, if◌then◌else◌, List, [], ◌∷◌, ◌++◌, Option, Some, None}
use Rattle.vwords.specs.Words.{Text}
use Rattle.vexpr_parse.specs.declared.stop.Stop.TheVariants.{TooDeep}
use Rattle.vexpr_parse.specs.Readers.{Reader, Lead, goes, refused, got, stop, and_then, by_word, choose, turns}

-- one thing, and another behind it
pub data Both (A B : Type 0) : Type 0 where
  both : A → B → Both A B

-- one thing or another
pub data Either (A B : Type 0) : Type 0 where
  one_way : A → Either A B
  other_way : B → Either A B

-- what is made of what was read
abbrev pub map_tree : {A B : Type 0} → (A → B) → Reader A → Reader B
map_tree make read words = and_then (read words) (λ tree. got (make tree))

-- one, and then another by what the first one was
abbrev pub bind : {A B : Type 0} → Reader A → (A → Reader B) → Reader (Both A B)
bind read next words = and_then (read words) (λ tree. map_tree (both tree) (next tree))

abbrev pub pair : {A B : Type 0} → Reader A → Reader B → Reader (Both A B)
pair read next = bind read (λ tree. next)

abbrev pub if_meant : {A : Type 0} → Option A → Lead A
if_meant None = refused
if_meant (Some meaning) = goes (got meaning)

-- a word, as what it means
abbrev pub word_as : {A : Type 0} → (Text → Option A) → Reader A
word_as meaning = by_word (λ word. if_meant (meaning word))

abbrev pub one_behind : {A : Type 0} → (List A → Reader A) → List A → Reader (List A)
one_behind read list = map_tree (λ tree. list ++ tree ∷ []) (read list)

-- one behind the other, as long as the first word passes the test
abbrev pub many : {A : Type 0} → (Option Text → Bool) → (List A → Reader A) → Reader (List A)
many test read = turns (one_behind read) test []

-- something where the first word passes the test, or nothing
abbrev pub maybe : {A : Type 0} → (Option Text → Bool) → Reader A → Reader (Option A)
maybe test read = choose test (map_tree Some read) (got None)

-- the one or the other, by the first word
abbrev pub either : {A B : Type 0} → (Option Text → Bool) → Reader A → Reader B → Reader (Either A B)
either test read other = choose test (map_tree one_way read) (map_tree other_way other)

-- where so many levels at least are left below
abbrev pub roomy : {A : Type 0} → ℕ → ℕ → Reader A → Reader A
roomy below levels read words = if nat_le levels below then read words else stop TooDeep words
