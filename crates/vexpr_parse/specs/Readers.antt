-- *product rule*: Readers: what stands at the front of a list of words, and the words after it; or the words from the first one on that
-- can't be read. One word of lookahead decides everywhere, and what was read is never given back. Only `front` has to be believed.
use Rattle.std.specs.Prelude.{ℕ, zero, suc, nat_le, Bool, false, if◌then◌else◌, List, [], ◌∷◌, Option, Some, None, length}
use Rattle.std.specs.Str.{bytes_eq}
use Rattle.vwords.specs.Words.{Text}
use Rattle.vexpr_parse.specs.declared.stop.Stop.{Stop}
use Rattle.vexpr_parse.specs.declared.stop.Stop.TheVariants.{NoTree, TooDeep}

-- what was read and the words behind it; or why a word is refused, and the words from it on
pub data Answer (A : Type 0) : Type 0 where
  got : A → List Text → Answer A
  stop : Stop → List Text → Answer A

abbrev pub Reader : Type 0 → Type 0
Reader A = List Text → Answer A

-- the first word, if there is one
abbrev pub front : List Text → Option Text
front [] = None
front (word ∷ words) = Some word

-- whether this very word stands first
abbrev pub is_front : Text → Option Text → Bool
is_front text None = false
is_front text (Some word) = bytes_eq text word

-- the one reading, and then another of the words behind it
abbrev pub and_then : {A B : Type 0} → Answer A → (A → Reader B) → Answer B
and_then (got tree left) next = next tree left
and_then (stop why left) next = stop why left

-- what a first word begins: what is read behind it, or that it is refused, for good or for want of levels
pub data Lead (A : Type 0) : Type 0 where
  goes : Reader A → Lead A
  refused : Lead A
  lower : Lead A

abbrev pub follow : {A : Type 0} → Lead A → Text → Reader A
follow (goes read) word words = read words
follow refused word words = stop NoTree (word ∷ words)
follow lower word words = stop TooDeep (word ∷ words)

-- by the first word
abbrev pub by_word : {A : Type 0} → (Text → Lead A) → Reader A
by_word lead [] = stop NoTree []
by_word lead (word ∷ words) = follow (lead word) word words

-- where so many levels at least are left below
abbrev pub room : {A : Type 0} → ℕ → ℕ → Lead A → Lead A
room below levels lead = if nat_le levels below then lead else lower

-- this very word, and what is read behind it
abbrev pub past : {A : Type 0} → Text → Reader A → Reader A
past text read = by_word (λ word. if bytes_eq text word then goes read else refused)

-- one reader or another, by what stands first
abbrev pub choose : {A : Type 0} → (Option Text → Bool) → Reader A → Reader A → Reader A
choose test one other words = if test (front words) then one words else other words

-- turn after turn, each from what was read before it, as long as the first word passes the test
abbrev pub rounds : {A : Type 0} → (A → Reader A) → (Option Text → Bool) → ℕ → A → Reader A
rounds turn test zero tree words = stop NoTree words
rounds turn test (suc fuel) tree words =
    if test (front words) then and_then (turn tree words) (λ next left. rounds turn test fuel next left) else got tree words

-- fuel enough for all these words
abbrev pub turns : {A : Type 0} → (A → Reader A) → (Option Text → Bool) → A → Reader A
turns turn test tree words = rounds turn test (suc (length words)) tree words
