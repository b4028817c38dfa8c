-- What the code's loops go on from: a turn of many.
use Rattle.std.specs.Str.{bytes_eq}
use Rattle.std.proofs.Common.{◌≡◌, ℕ, zero, suc, ◌<◌, if◌then◌else◌, Bool, true, false, List, [], ◌∷◌, ◌++◌, codes, length, drop, map, Option, refl, sym, ap, ◌∙◌, arith}
use Rattle.std.proofs.lemmas.List.{map-append}
use Rattle.vwords.specs.Words.{Text}
use Rattle.vexpr_parse.specs.declared.stop.Stop.{Stop}
use Rattle.vexpr_parse.specs.Readers.{Answer, got, stop, Reader, front, is_front, and_then, past, follow, goes, refused, rounds, turns}
use Rattle.vexpr_parse.proofs.ReaderRules.{Eats, stop_got}
use Rattle.vexpr_parse.proofs.ReaderLoops.{turns_on, turns_end}
use Rattle.vexpr_parse.proofs.Turning.{past_on}
use Rattle.vgrammar.specs.Parts.{Both, both, map_tree, pair, one_behind, many}
use Rattle.vgrammar.specs.Statements.{List_of, comma_list, word_only}
use Rattle.vgrammar.proofs.PhraseChoices.{made_eats}
use Rattle.vgrammar.specs.Lists.{all_until, rest_until}

-- what is read from here on, behind a list of what was read
abbrev pub goes_on : {A : Type 0} → (Option Text → Bool) → (List A → Reader A) → List A → Reader (List A)
goes_on test read = turns (one_behind read) test

module _ {A : Type 0} (test : Option Text → Bool) (read : List A → Reader A) (eats : (list : List A) → Eats (read list)) where
  turn_eats : (list : List A) → Eats (one_behind read list)
  turn_eats list = made_eats (λ tree. list ++ tree ∷ []) (read list) (eats list)

  pub one_more : (list : List A) (words : List Text) (tree : A) (left : List Text) → test (front words) ≡ true →
      read list words ≡ got tree left → goes_on test read list words ≡ goes_on test read (list ++ tree ∷ []) left
  one_more list words tree left here e =
      turns_on (one_behind read) test turn_eats list words here
      ∙ ap (λ a. and_then (and_then a (λ tree. got (list ++ tree ∷ []))) (goes_on test read)) e

  pub stopped_at : (list : List A) (words left : List Text) (why : Stop) → test (front words) ≡ true →
      read list words ≡ stop why left → goes_on test read list words ≡ stop why left
  stopped_at list words left why here e =
      turns_on (one_behind read) test turn_eats list words here
      ∙ ap (λ a. and_then (and_then a (λ tree. got (list ++ tree ∷ []))) (goes_on test read)) e

  pub no_more : (list : List A) (words : List Text) → test (front words) ≡ false → goes_on test read list words ≡ got list words
  no_more list words e = turns_end (one_behind read) test turn_eats list words e

-- one of them was read, and pushed to those that the code has in hand
module _ {A T : Type 0} (view : T → A) (test : Option Text → Bool) (read : Reader A) (eats : Eats read) where
  pub pushed : (words : List Text) → test (front words) ≡ true → (items after : List T) (one : T) (left : List Text)
      (all : Answer (List A)) → after ≡ items ++ one ∷ [] → read words ≡ got (view one) left →
      goes_on test (λ list. read) (map view items) words ≡ all → goes_on test (λ list. read) (map view after) left ≡ all
  pushed words here items after one left all same e before =
      ap (λ ts. goes_on test (λ list. read) ts left) (ap (map view) same ∙ map-append view items (one ∷ []))
      ∙ sym (one_more test (λ list. read) (λ list. eats) (map view items) words (view one) left here e)
      ∙ before

-- behind this very word, where it stands first
pub behind_word : {A : Type 0} (text : Text) (read : Reader A) (words : List Text) (a : Answer A) → is_front text (front words) ≡ true →
    read (drop 1 words) ≡ a → past text read words ≡ a
behind_word text read words a here e = past_on text read words here ∙ e

pub past_eats_too : {A : Type 0} (text : Text) (read : Reader A) → Eats read → Eats (past text read)
past_eats_too text read eats [] tree left e = absurd (stop_got e)
past_eats_too text read eats (word ∷ words) tree left e = by_test (bytes_eq text word) e
  where
    fewer : (n m : ℕ) → n < m → n < suc m
    fewer n m e = omega (arith, e)

    by_test : (b : Bool) → follow (if b then goes read else refused) word words ≡ got tree left → length left < length (word ∷ words)
    by_test true e = fewer (length left) (length words) (eats words tree left e)
    by_test false e = absurd (stop_got e)

-- with one before them that was read already
module _ {A : Type 0} (test : Option Text → Bool) (read : Reader A) (x : A) where
  abbrev turn : List A → Reader (List A)
  turn = one_behind (λ list. read)

  abbrev with_first : Answer (List A) → Answer (List A)
  with_first a = and_then a (λ list. got (x ∷ list))

  -- so with so much fuel, whatever was read before
  abbrev First : ℕ → Type 0
  First fuel = (list : List A) (words : List Text) → rounds turn test fuel (x ∷ list) words ≡ with_first (rounds turn test fuel list words)

  by_answer : (fuel : ℕ) → First fuel → (list : List A) (a : Answer A) →
      and_then (and_then a (λ tree. got ((x ∷ list) ++ tree ∷ []))) (λ next left. rounds turn test fuel next left)
      ≡ with_first (and_then (and_then a (λ tree. got (list ++ tree ∷ []))) (λ next left. rounds turn test fuel next left))
  by_answer fuel so list (got tree left) = so (list ++ tree ∷ []) left
  by_answer fuel so list (stop why left) = refl

  by_test : (fuel : ℕ) → First fuel → (list : List A) (words : List Text) (b : Bool) →
      (if b then and_then (turn (x ∷ list) words) (λ next left. rounds turn test fuel next left) else got (x ∷ list) words)
      ≡ with_first (if b then and_then (turn list words) (λ next left. rounds turn test fuel next left) else got list words)
  by_test fuel so list words true = by_answer fuel so list (read words)
  by_test fuel so list words false = refl

  rounds_first : (fuel : ℕ) → First fuel
  rounds_first zero list words = refl
  rounds_first (suc fuel) list words = by_test fuel (rounds_first fuel) list words (test (front words))

  pub goes_on_first : (list : List A) (words : List Text) →
      goes_on test (λ list. read) (x ∷ list) words ≡ with_first (goes_on test (λ list. read) list words)
  goes_on_first list words = rounds_first (suc (length words)) list words

-- a list with commas and what ends it, by what is read behind its first one
module _ {A E B : Type 0} (read : Reader A) (next : Reader E) (make : Both (List_of A) E → B) (whole : List A → E → B)
    (same : (one : A) (list : List A) (end : E) → make (both (both one list) end) ≡ whole (one ∷ list) end) where
  abbrev behind_first : A → Reader (List A)
  behind_first one = goes_on (is_front (codes ",")) (λ list. past (codes ",") read) (one ∷ [])

  abbrev rest_by : A → Reader B
  rest_by one left = and_then (behind_first one left) (λ all. map_tree (whole all) next)

  by_end : (one : A) (list : List A) (a : Answer E) →
      and_then (and_then a (λ end. got (both (both one list) end))) (λ p. got (make p)) ≡ and_then a (λ end. got (whole (one ∷ list) end))
  by_end one list (got end left) = ap (λ b. got b left) (same one list end)
  by_end one list (stop why left) = refl

  by_more : (one : A) (a : Answer (List A)) →
      and_then (and_then (and_then a (λ list. got (both one list))) (λ p. map_tree (both p) next)) (λ p. got (make p))
      ≡ and_then (and_then a (λ list. got (one ∷ list))) (λ all. map_tree (whole all) next)
  by_more one (got list left) = by_end one list (next left)
  by_more one (stop why left) = refl

  by_first : (a : Answer A) →
      and_then (and_then (and_then a (λ one. map_tree (both one) (many (is_front (codes ",")) (λ list. past (codes ",") read))))
      (λ p. map_tree (both p) next)) (λ p. got (make p))
      ≡ and_then a rest_by
  by_first (got one left) =
      by_more one (many (is_front (codes ",")) (λ list. past (codes ",") read) left)
      ∙ ap (λ a. and_then a (λ all. map_tree (whole all) next)) (sym (goes_on_first (is_front (codes ",")) (past (codes ",") read) one [] left))
  by_first (stop why left) = refl

  list_rule : (words : List Text) → map_tree make (pair (comma_list read) next) words ≡ and_then (read words) rest_by
  list_rule words = by_first (read words)

-- a list with commas and what ends it, as the list that is read
module _ {A B : Type 0} (text : Text) (read : Reader A) (make : Both (List_of A) (Unit {0}) → B) (whole : List A → B)
    (same : (one : A) (list : List A) → make (both (both one list) tt) ≡ whole (one ∷ list)) where
  abbrev ending : List A → Reader B
  ending all = map_tree (λ end. whole all) (word_only text)

  by_word : (all : List A) (end : Unit {0}) (word : Text) (words : List Text) (b : Bool) →
      and_then (follow (if b then goes (got end) else refused) word words) (λ end. got (whole all))
      ≡ and_then (follow (if b then goes (got all) else refused) word words) (λ all. got (whole all))
  by_word all end word words true = refl
  by_word all end word words false = refl

  ending_is : (all : List A) (words : List Text) → ending all words ≡ and_then (past text (got all) words) (λ all. got (whole all))
  ending_is all [] = refl
  ending_is all (word ∷ words) = by_word all tt word words (bytes_eq text word)

  by_all : (a : Answer (List A)) → and_then a ending ≡ and_then (and_then a (λ all. past text (got all))) (λ all. got (whole all))
  by_all (got all left) = ending_is all left
  by_all (stop why left) = refl

  by_one : (a : Answer A) → and_then a (λ one left. and_then (goes_on (is_front (codes ",")) (λ list. past (codes ",") read) (one ∷ []) left) ending)
      ≡ and_then (and_then a (λ one left. and_then (goes_on (is_front (codes ",")) (λ list. past (codes ",") read) (one ∷ []) left)
      (λ all. past text (got all)))) (λ all. got (whole all))
  by_one (got one left) = by_all (goes_on (is_front (codes ",")) (λ list. past (codes ",") read) (one ∷ []) left)
  by_one (stop why left) = refl

  pub until_is : (words : List Text) → map_tree make (pair (comma_list read) (word_only text)) words ≡ map_tree whole (all_until text read) words
  until_is words = list_rule read (word_only text) make (λ all end. whole all) (λ one list end. same one list) words ∙ by_one (read words)

  -- so where another reader reads the first one
  pub first_until_is : (first : Reader A) (words : List Text) →
      map_tree make (pair (pair first (many (is_front (codes ",")) (λ list. past (codes ",") read))) (word_only text)) words
      ≡ map_tree whole (λ ws. and_then (first ws) (rest_until text read)) words
  first_until_is first words = by_first read (word_only text) make (λ all end. whole all) (λ one list end. same one list) (first words) ∙ by_one (first words)
