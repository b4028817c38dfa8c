-- With more levels: readers made of others keep what they read and refuse for good, and pass what was too deep.
use Rattle.std.proofs.Common.{◌≡◌, ℕ, suc, ◌<◌, ◌≤◌, Bool, true, false, nat_le, if◌then◌else◌, List, [], ◌∷◌, ◌++◌, Option, None, Some, length, refl, sym, arith, subst}
use Rattle.std.proofs.lemmas.Bool.Decides.{nat_tests}
use Rattle.vwords.specs.Words.{Text}
use Rattle.vexpr_parse.specs.declared.stop.Stop.TheVariants.{NoTree, TooDeep}
use Rattle.vexpr_parse.specs.Readers.{Answer, got, stop, Reader, front, is_front, and_then, Lead, goes, refused, lower, follow, room, past, choose}
use Rattle.vexpr_parse.specs.Lawful.{rest_of, Ends}
use Rattle.vexpr_parse.proofs.ReaderRules.{keeps, IsLead}
use Rattle.vexpr_parse.proofs.Grows.{Keeps, got_keep, then_keep, LeadKeeps, led_keep, past_keep, choose_keep, rounds_keep, Grows, then_grows, LeadGrows, led_grows, past_grows, rounds_grow}
use Rattle.vgrammar.specs.Parts.{both, one_way, other_way, map_tree, bind, pair, if_meant, word_as, one_behind, many, maybe, either, roomy}
use Rattle.vgrammar.proofs.Phrases.{Shape, Phrase}

pub grows_further : {A : Type 0} (a b c : Answer A) → Grows a b → Grows b c → Grows a c
grows_further (got tree left) b c f g = subst (λ x. Grows x c) f g
grows_further (stop NoTree left) b c f g = subst (λ x. Grows x c) f g
grows_further {A = A} (stop TooDeep left) b c f g = by_answer b f g
  where
    fewer : (x y z : ℕ) → x < y → y < z → x < z
    fewer x y z e f = omega arith

    by_answer : (b : Answer A) → length (rest_of b) < length left → Grows b c → length (rest_of c) < length left
    by_answer (got tree ws) e g = subst (λ x. length (rest_of x) < length left) (sym g) e
    by_answer (stop NoTree ws) e g = subst (λ x. length (rest_of x) < length left) (sym g) e
    by_answer (stop TooDeep ws) e g = fewer (length (rest_of c)) (length ws) (length left) g e

-- a reader and the one with more levels
pub record Growth {A : Type 0} (read more : Reader A) : Type 0 where
  pub rises : (words : List Text) → Grows (read words) (more words)
  pub keep : Keeps more

pub phrase_keep : {A : Type 0} {read : Reader A} {ends : Ends} {s : Shape A} → Phrase read ends s → Keeps read
phrase_keep {read = read} {ends = ends} p words = keeps read ends words (read words) (p.lawful words)

pub got_growth : {A : Type 0} (tree : A) → Growth (got tree) (got tree)
got_growth tree = record { rises = λ words. refl; keep = got_keep tree }

pub past_growth : {A : Type 0} (text : Text) {read more : Reader A} → Growth read more → Growth (past text read) (past text more)
past_growth text {read = read} {more = more} g = record {
  rises = past_grows text read more g.rises;
  keep = past_keep text more g.keep;
}

pub made_growth : {A B : Type 0} (make : A → B) {read more : Reader A} → Growth read more →
    Growth (map_tree make read) (map_tree make more)
made_growth make {read = read} {more = more} g = record {
  rises = λ words. then_grows (read words) (more words) (λ t. got (make t)) (λ t. got (make t)) (g.rises words) (λ t left e. refl)
      (λ t. got_keep (make t));
  keep = λ words. then_keep words (more words) (λ t. got (make t)) (g.keep words) (λ t. got_keep (make t));
}

pub made_keep : {A B : Type 0} (make : A → B) (read : Reader A) → Keeps read → Keeps (map_tree make read)
made_keep make read k words = then_keep words (read words) (λ t. got (make t)) (k words) (λ t. got_keep (make t))

pub linked_growth : {A B : Type 0} {read more : Reader A} {next next_more : A → Reader B} → Growth read more →
    ((tree : A) → Growth (next tree) (next_more tree)) → Growth (bind read next) (bind more next_more)
linked_growth {read = read} {more = more} {next = next} {next_more = next_more} g h = record {
  rises = λ words. then_grows (read words) (more words) (λ x. map_tree (both x) (next x)) (λ x. map_tree (both x) (next_more x))
      (g.rises words)
      (λ x left e. (made_growth (both x) (h x)).rises left) (λ x. (made_growth (both x) (h x)).keep);
  keep = λ words. then_keep words (more words) (λ x. map_tree (both x) (next_more x)) (g.keep words)
      (λ x. (made_growth (both x) (h x)).keep);
}

pub paired_growth : {A B : Type 0} {read more : Reader A} {next next_more : Reader B} → Growth read more → Growth next next_more →
    Growth (pair read next) (pair more next_more)
paired_growth g h = linked_growth g (λ x. h)

pub worded_growth : {A : Type 0} (meaning : Text → Option A) → Growth (word_as meaning) (word_as meaning)
worded_growth {A = A} meaning = record {
  rises = led_grows (λ word. if_meant (meaning word)) (λ word. if_meant (meaning word)) (λ word. rising (meaning word));
  keep = led_keep (λ word. if_meant (meaning word)) (λ word. keeping (meaning word));
}
  where
    rising : (m : Option A) → LeadGrows (if_meant m) (if_meant m)
    rising None = tt
    rising (Some tree) = λ words. refl

    keeping : (m : Option A) → LeadKeeps (if_meant m)
    keeping None = tt
    keeping (Some tree) = got_keep tree

-- where the first word passes the test
abbrev pub RisesWhere : {A : Type 0} → (Option Text → Bool) → Reader A → Reader A → Type 0
RisesWhere test read more = (words : List Text) → test (front words) ≡ true → Grows (read words) (more words)

pub choose_growth : {A : Type 0} (test : Option Text → Bool) (one more : Reader A) {other more_other : Reader A} →
    RisesWhere test one more → Keeps more →
    Growth other more_other → Growth (choose test one other) (choose test more more_other)
choose_growth test one more {other = other} {more_other = more_other} g k h = record {
  rises = λ words. by_test words (test (front words)) refl;
  keep = choose_keep test more more_other k h.keep;
}
  where
    by_test : (words : List Text) (b : Bool) → test (front words) ≡ b →
        Grows (if b then one words else other words) (if b then more words else more_other words)
    by_test words true e = g words e
    by_test words false e = h.rises words

pub either_growth : {A B : Type 0} (test : Option Text → Bool) {read more : Reader A} {other more_other : Reader B} →
    Growth read more →
    Growth other more_other → Growth (either test read other) (either test more more_other)
either_growth test {read = read} {more = more} g h =
    choose_growth test (map_tree one_way read) (map_tree one_way more) (λ words e. (made_growth one_way g).rises words)
    (made_growth one_way g).keep (made_growth other_way h)

pub maybe_growth : {A : Type 0} (test : Option Text → Bool) {read more : Reader A} → Growth read more →
    Growth (maybe test read) (maybe test more)
maybe_growth test {read = read} {more = more} g =
    choose_growth test (map_tree Some read) (map_tree Some more) (λ words e. (made_growth Some g).rises words)
    (made_growth Some g).keep (got_growth None)

pub maybe_growth_where : {A : Type 0} (test : Option Text → Bool) (read more : Reader A) → RisesWhere test read more →
    Keeps more →
    Growth (maybe test read) (maybe test more)
maybe_growth_where test read more g k =
    choose_growth test (map_tree Some read) (map_tree Some more)
    (λ words e. then_grows (read words) (more words) (λ t. got (Some t)) (λ t. got (Some t)) (g words e) (λ t left f. refl)
    (λ t. got_keep (Some t)))
    (λ words. then_keep words (more words) (λ t. got (Some t)) (k words) (λ t. got_keep (Some t))) (got_growth None)

pub many_growth : {A : Type 0} (test : Option Text → Bool) {read more : List A → Reader A} →
    ((list : List A) → Growth (read list) (more list)) →
    Growth (many test read) (many test more)
many_growth {A = A} test {read = read} {more = more} g = record {
  rises = λ words. rounds_grow (λ list. Unit {0}) (one_behind read) (one_behind more) test (λ list ws i. (turn list).rises ws)
      (λ list ws next left i e. tt) (λ list. (turn list).keep) (suc (length words)) [] words tt;
  keep = λ words. rounds_keep (one_behind more) test (λ list. (turn list).keep) (suc (length words)) [] words;
}
  where
    turn : (list : List A) → Growth (one_behind read list) (one_behind more list)
    turn list = made_growth (λ tree. list ++ tree ∷ []) (g list)

-- Rooms. What stands deepest asks for three levels: an assignment to parts of a concatenation.

abbrev pub up : ℕ → ℕ
up n = suc (suc (suc n))

pub some_left : (n : ℕ) → nat_le 1 (up n) ≡ true
some_left n = grind (arith, nat_tests)

-- what stands behind an open lead
abbrev pub OpenLead : {A : Type 0} → Lead A → Type 0
OpenLead (goes read) = Keeps read
OpenLead refused = ⊥
OpenLead lower = ⊥

pub open_keeps : {A : Type 0} (l : Lead A) → OpenLead l → LeadKeeps l
open_keeps (goes read) k = k
open_keeps refused k = absurd k
open_keeps lower k = absurd k

pub lead_open : {A : Type 0} (ends : Ends) (read : Reader A) → IsLead ends (goes read) → OpenLead (goes read)
lead_open ends read l words = keeps read ends words (read words) (l.0 words)

pub room_open : {A : Type 0} (ends : Ends) (below : ℕ) (read : Reader A) → nat_le 1 below ≡ true →
    IsLead ends (room below 1 (goes read)) →
    OpenLead (room below 1 (goes read))
room_open ends below read level l = by_test (nat_le 1 below) level l
  where
    by_test : (b : Bool) → b ≡ true → IsLead ends (if b then goes read else lower) → OpenLead (if b then goes read else lower)
    by_test true e l = lead_open ends read l
    by_test false e l = let no : false ≡ true = e in absurd cc

pub room_rises : {A : Type 0} (below : ℕ) (read more : Reader A) →
    (nat_le 1 below ≡ true → (words : List Text) → Grows (read words) (more words)) →
    Keeps more → LeadGrows (room below 1 (goes read)) (room (up below) 1 (goes more))
room_rises below read more g k = by_tests (nat_le 1 below) (nat_le 1 (up below)) (some_left below) g k
  where
    by_tests : (b c : Bool) → c ≡ true → (b ≡ true → (words : List Text) → Grows (read words) (more words)) →
        Keeps more → LeadGrows (if b then goes read else lower) (if c then goes more else lower)
    by_tests true true e g k = g refl
    by_tests false true e g k = k
    by_tests b false e g k = let no : false ≡ true = e in absurd cc

-- where a level is left, what is read behind such a word keeps
pub room_keep : {A : Type 0} (ends : Ends) (below : ℕ) (read : Reader A) → nat_le 1 below ≡ true →
    IsLead ends (room below 1 (goes read)) →
    Keeps read
room_keep {A = A} ends below read level l = by_test (nat_le 1 below) level l
  where
    by_test : (b : Bool) → b ≡ true → IsLead {A = A} ends (if b then goes read else lower) → Keeps read
    by_test true e l = λ words. keeps read ends words (read words) (l.0 words)
    by_test false e l = let no : false ≡ true = e in absurd cc

-- a reader that has room, where what stands first is passed
pub roomy_rises : {A : Type 0} (test : Option Text → Bool) (below : ℕ) (read more : Reader A) →
    (nat_le 1 below ≡ true → (words : List Text) → Grows (read words) (more words)) →
    ((words : List Text) → test (front words) ≡ true → length (rest_of (more words)) < length words) →
    RisesWhere test (roomy below 1 read) (roomy (up below) 1 more)
roomy_rises test below read more g passes words e = by_tests (nat_le 1 below) (nat_le 1 (up below)) (some_left below) g
  where
    by_tests : (b c : Bool) → c ≡ true → (b ≡ true → (ws : List Text) → Grows (read ws) (more ws)) →
        Grows (if b then read words else stop TooDeep words) (if c then more words else stop TooDeep words)
    by_tests true true f g = g refl words
    by_tests false true f g = passes words e
    by_tests b false f g = let no : false ≡ true = f in absurd cc

pub roomy_keep : {A : Type 0} (below : ℕ) (read : Reader A) → Keeps read → Keeps (roomy below 1 read)
roomy_keep below read k words = by_test (nat_le 1 below)
  where
    no_more : (n : ℕ) → n ≤ n
    no_more n = omega arith

    by_test : (b : Bool) → length (rest_of (if b then read words else stop TooDeep words)) ≤ length words
    by_test true = k words
    by_test false = no_more (length words)

-- what is passed

below_next : (a b : ℕ) → a ≤ b → a < suc b
below_next a b e = omega arith

pub past_passes : {A : Type 0} (text : Text) (read : Reader A) → Keeps read → (words : List Text) → is_front text (front words)
    ≡ true →
    length (rest_of (past text read words)) < length words
past_passes text read k [] e = let no : false ≡ true = e in absurd cc
past_passes text read k (word ∷ words) e =
    subst (λ (b : Bool). length (rest_of (follow (if b then goes read else refused) word words)) < suc (length words)) (sym e)
    (below_next (length (rest_of (read words))) (length words) (k words))

pub then_passes : {A B : Type 0} (a : Answer A) (next : A → Reader B) (n : ℕ) → length (rest_of a) < n →
    ((tree : A) → Keeps (next tree)) →
    length (rest_of (and_then a next)) < n
then_passes (got tree left) next n e k = fewer (length (rest_of (next tree left))) (length left) n (k tree left) e
  where
    fewer : (x y z : ℕ) → x ≤ y → y < z → x < z
    fewer x y z e f = omega arith
then_passes (stop why left) next n e k = e

-- a word behind which something is read is passed
pub open_passes : {A : Type 0} (l : Lead A) → OpenLead l → (word : Text) (words : List Text) →
    length (rest_of (follow l word words)) < length (word ∷ words)
open_passes (goes read) k word words = below_next (length (rest_of (read words))) (length words) (k words)
open_passes refused k word words = absurd k
open_passes lower k word words = absurd k
