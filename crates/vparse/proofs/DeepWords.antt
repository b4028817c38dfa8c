-- A word that is refused for want of levels stands inside the profile.
use Rattle.std.proofs.Common.{◌≡◌, ℕ, zero, suc, Bool, true, false, ◌&&◌, ◌||◌, ◌==◌, not, nat_le, if◌then◌else◌, List, [], ◌∷◌, ◌++◌, Option, None, Some, length, codes, refl, ap, ◌∙◌, arith, inl, inr, subst}
use Rattle.std.specs.List.{list_any, list_all}
use Rattle.std.specs.Str.{bytes_eq}
use Rattle.std.proofs.lemmas.Bool.Decides.{nat_tests}
use Rattle.basis.proofs.Bools.{and_left, and_right}
use Rattle.basis.specs.Letters.{begins_name}
use Rattle.vwords.specs.Words.{Text, is_name, is_number, is_reserved, reserved_words}
use Rattle.vast.specs.Expressions.{ExpressionTree, number, name, time, bit, part, parentheses, conversion, apply, combine, conditional, concatenation, replication, unary_word, binary_word, depth, rank, unary_rank}
use Rattle.vwords.specs.declared.operators.BinaryOperator.{BinaryOperator}
use Rattle.vwords.specs.declared.operators.UnaryOperator.{UnaryOperator}
use Rattle.vwords.proofs.NameLemmas.{simple_or_escaped, name_not_reserved}
use Rattle.vexpr_parse.specs.declared.beginning.Beginning.{Beginning}
use Rattle.vexpr_parse.specs.declared.beginning.Beginning.TheVariants as start
use Rattle.vexpr_parse.specs.declared.beginning.Round.{Round}
use Rattle.vexpr_parse.specs.declared.beginning.Round.TheVariants as round
use Rattle.vexpr_parse.specs.declared.stop.Stop.TheVariants.{NoTree, TooDeep}
use Rattle.vexpr_parse.specs.Readers.{Answer, got, stop, Reader, front, is_front, and_then, Lead, goes, refused, lower, follow, by_word, room, past, choose, rounds, turns}
use Rattle.vexpr_parse.specs.Words.{by_spelling, unary_operators, binary_operators, unary_of, binary_of, by_operator, beginning_of, is_joined, is_asked}
use Rattle.vexpr_parse.specs.Reading.{Below, trees_in, one_more, parts, rest_of_replication, rest_of_concatenation, braces, rest_of_parentheses, part_of, rest_of_select, select_lead, rest_of_name, round_by, primary_by, primary, operator_by, operator, branches, question, expression}
use Rattle.vexpr_parse.proofs.ReaderRules.{same_text}
use Rattle.vgrammar.specs.Parts.{both, one_way, other_way, map_tree, bind, pair, if_meant, word_as, one_behind, many, maybe, either, roomy}
use Rattle.vgrammar.specs.Starts.{is_some_meaning}
use Rattle.vparse.specs.Profile.{keywords, system_names, left_out, is_among, is_outside, is_any_outside}

abbrev pub Inside : Text → Type 0
Inside word = is_outside word ≡ false

-- Words

pub same_inside : (text word : Text) → Inside text → bytes_eq text word ≡ true → Inside word
same_inside text word i e = subst Inside (same_text text word e) i

pub written_inside : {A : Type 0} (spell : A → Text) (all : List A) (word : Text) → list_all (λ one. not (is_outside (spell one))) all ≡ true →
    is_some_meaning (by_spelling spell all word) ≡ true → Inside word
written_inside spell [] word i e = let no : false ≡ true = e in absurd cc
written_inside spell (one ∷ more) word i e =
    by_test (bytes_eq (spell one) word) refl (written_inside spell more word (and_right (not (is_outside (spell one))) _ i)) e
  where
    not_true : (b : Bool) → not b ≡ true → b ≡ false
    not_true false n = refl
    not_true true n = let no : false ≡ true = n in absurd cc

    by_test : (b : Bool) → bytes_eq (spell one) word ≡ b → (is_some_meaning (by_spelling spell more word) ≡ true → Inside word) →
        is_some_meaning (if b then Some one else by_spelling spell more word) ≡ true → Inside word
    by_test true same so f = same_inside (spell one) word (not_true (is_outside (spell one)) (and_left (not (is_outside (spell one))) _ i)) same
    by_test false same so f = so f

unnamed : (all : List Text) (word : Text) → list_all (λ other. not (is_name other)) all ≡ true → is_name word ≡ true →
    list_any (λ other. bytes_eq other word) all ≡ false
unnamed [] word n e = refl
unnamed (other ∷ more) word n e = by_test (bytes_eq other word) refl (unnamed more word (and_right (not (is_name other)) _ n) e)
  where
    clash : (b : Bool) → not b ≡ true → b ≡ true → ⊥
    clash true n e = let no : false ≡ true = n in absurd cc
    clash false n e = let no : false ≡ true = e in absurd cc

    by_test : (b : Bool) → bytes_eq other word ≡ b → list_any (λ other. bytes_eq other word) more ≡ false →
        (b || list_any (λ other. bytes_eq other word) more) ≡ false
    by_test true same so = absurd (clash (is_name other) (and_left (not (is_name other)) _ n) (ap is_name (same_text other word same) ∙ e))
    by_test false same so = so

letter_no_dollar : (c : ℕ) → begins_name c ≡ true → (c == 36) ≡ false
letter_no_dollar c e = grind (arith, nat_tests)

no_dollar : (c : ℕ) (cs : Text) → is_name (c ∷ cs) ≡ true → (c == 36) ≡ false
no_dollar c cs e =
    elim (simple_or_escaped c cs e) [ inl simple ↦ letter_no_dollar c simple.first | inr escaped ↦ ap (λ b. b == 36) escaped.backslash ]

left_out_unnamed : list_all (λ other. not (is_name other)) left_out ≡ true
unfolding left_out reserved_words
left_out_unnamed = refl

pub name_inside : (word : Text) → is_name word ≡ true → Inside word
name_inside [] e = let no : false ≡ true = e in absurd cc
name_inside (c ∷ cs) e =
    by_parts (is_reserved (c ∷ cs)) (c == 36) (is_among left_out (c ∷ cs)) (is_among keywords (c ∷ cs)) (is_among system_names (c ∷ cs))
    (name_not_reserved (c ∷ cs) e) (no_dollar c cs e) (unnamed left_out (c ∷ cs) left_out_unnamed e)
  where
    by_parts : (reserved system out keyword known : Bool) → reserved ≡ false → system ≡ false → out ≡ false →
        ((reserved && not keyword) || (system && not known) || out) ≡ false
    by_parts true system out keyword known n f g = let no : true ≡ false = n in absurd cc
    by_parts false true out keyword known n f g = let no : true ≡ false = f in absurd cc
    by_parts false false true keyword known n f g = let no : true ≡ false = g in absurd cc
    by_parts false false false keyword known n f g = refl

-- Answers

abbrev pub Fine : {A : Type 0} → Answer A → Type 0
Fine (got tree left) = Unit {0}
Fine (stop NoTree left) = Unit {0}
Fine (stop TooDeep left) = is_any_outside (front left) ≡ false

pub record Safe {A : Type 0} (read : Reader A) : Type 0 where
  pub fine : (words : List Text) → Fine (read words)

abbrev pub LeadFine : {A : Type 0} → Text → Lead A → Type 0
LeadFine word (goes read) = Safe read
LeadFine word refused = Unit {0}
LeadFine word lower = Inside word

pub got_safe : {A : Type 0} (tree : A) → Safe (got tree)
got_safe tree = record { fine = λ words. tt }

pub then_fine : {A B : Type 0} (a : Answer A) (next : A → Reader B) → Fine a → ((tree : A) → Safe (next tree)) → Fine (and_then a next)
then_fine (got tree left) next f s = (s tree).fine left
then_fine (stop NoTree left) next f s = tt
then_fine (stop TooDeep left) next f s = f

pub then_safe : {A B : Type 0} {read : Reader A} {next : A → Reader B} → Safe read → ((tree : A) → Safe (next tree)) →
    Safe (λ words. and_then (read words) next)
then_safe {read = read} {next = next} r s = record { fine = λ words. then_fine (read words) next (r.fine words) s }

pub led_safe : {A : Type 0} (lead : Text → Lead A) → ((word : Text) → LeadFine word (lead word)) → Safe (by_word lead)
led_safe {A = A} lead s = record { fine = by_words }
  where
    by_lead : (word : Text) (words : List Text) (l : Lead A) → LeadFine word l → Fine (follow l word words)
    by_lead word words (goes read) f = f.fine words
    by_lead word words refused f = tt
    by_lead word words lower f = f

    by_words : (words : List Text) → Fine (by_word lead words)
    by_words [] = tt
    by_words (word ∷ words) = by_lead word words (lead word) (s word)

pub if_fine : {A : Type 0} (word : Text) (b : Bool) (one other : Lead A) → (b ≡ true → LeadFine word one) → LeadFine word other →
    LeadFine word (if b then one else other)
if_fine word true one other p q = p refl
if_fine word false one other p q = q

pub room_fine : {A : Type 0} (word : Text) (below levels : ℕ) (read : Reader A) → Inside word → Safe read → LeadFine word (room below levels (goes read))
room_fine word below levels read i s = if_fine word (nat_le levels below) (goes read) lower (λ e. s) i

pub past_safe : {A : Type 0} (text : Text) {read : Reader A} → Safe read → Safe (past text read)
past_safe text {read = read} s = led_safe _ (λ word. if_fine word (bytes_eq text word) (goes read) refused (λ e. s) tt)

pub choose_where : {A : Type 0} (test : Option Text → Bool) (one : Reader A) {other : Reader A} →
    ((words : List Text) → test (front words) ≡ true → Fine (one words)) → Safe other → Safe (choose test one other)
choose_where test one {other = other} f s = record { fine = λ words. by_test words (test (front words)) refl }
  where
    by_test : (words : List Text) (b : Bool) → test (front words) ≡ b → Fine (if b then one words else other words)
    by_test words true e = f words e
    by_test words false e = s.fine words

pub choose_safe : {A : Type 0} (test : Option Text → Bool) {one other : Reader A} → Safe one → Safe other → Safe (choose test one other)
choose_safe test {one = one} r s = choose_where test one (λ words e. r.fine words) s

pub turns_safe : {A : Type 0} (turn : A → Reader A) (test : Option Text → Bool) → ((tree : A) → Safe (turn tree)) → (tree : A) →
    Safe (turns turn test tree)
turns_safe {A = A} turn test s tree = record { fine = λ words. (by_fuel (suc (length words)) tree).fine words }
  where
    by_fuel : (fuel : ℕ) (tree : A) → Safe (rounds turn test fuel tree)
    by_fuel zero tree = record { fine = λ words. tt }
    by_fuel (suc fuel) tree =
        choose_safe test (then_safe (s tree) (λ next. by_fuel fuel next)) (got_safe tree)

pub made_safe : {A B : Type 0} (make : A → B) {read : Reader A} → Safe read → Safe (map_tree make read)
made_safe make s = then_safe s (λ tree. got_safe (make tree))

pub linked_safe : {A B : Type 0} {read : Reader A} {next : A → Reader B} → Safe read → ((tree : A) → Safe (next tree)) → Safe (bind read next)
linked_safe r s = then_safe r (λ tree. made_safe (both tree) (s tree))

pub paired_safe : {A B : Type 0} {read : Reader A} {next : Reader B} → Safe read → Safe next → Safe (pair read next)
paired_safe r s = linked_safe r (λ tree. s)

pub maybe_safe : {A : Type 0} (test : Option Text → Bool) {read : Reader A} → Safe read → Safe (maybe test read)
maybe_safe test s = choose_safe test (made_safe Some s) (got_safe None)

pub either_safe : {A B : Type 0} (test : Option Text → Bool) {read : Reader A} {other : Reader B} → Safe read → Safe other → Safe (either test read other)
either_safe test r s = choose_safe test (made_safe one_way r) (made_safe other_way s)

pub worded_safe : {A : Type 0} (meaning : Text → Option A) → Safe (word_as meaning)
worded_safe {A = A} meaning = led_safe _ (λ word. by_meaning word (meaning word))
  where
    by_meaning : (word : Text) (m : Option A) → LeadFine word (if_meant m)
    by_meaning word None = tt
    by_meaning word (Some tree) = got_safe tree

pub many_safe : {A : Type 0} (test : Option Text → Bool) {read : List A → Reader A} → ((list : List A) → Safe (read list)) → Safe (many test read)
many_safe test {read = read} s = turns_safe (one_behind read) test (λ list. made_safe (λ tree. list ++ tree ∷ []) (s list)) []

-- where there is room, or a word inside the profile stands first
pub roomy_fine : {A : Type 0} (below : ℕ) {read : Reader A} → Safe read → (words : List Text) → is_any_outside (front words) ≡ false →
    Fine (roomy below 1 read words)
roomy_fine below {read = read} s words i = by_test (nat_le 1 below)
  where
    by_test : (b : Bool) → Fine (if b then read words else stop TooDeep words)
    by_test true = s.fine words
    by_test false = i

pub first_inside : (text : Text) → Inside text → (words : List Text) → is_front text (front words) ≡ true → is_any_outside (front words) ≡ false
first_inside text i [] e = refl
first_inside text i (word ∷ words) e = same_inside text word i e

-- Expressions

pub bracket_inside : Inside (codes "[")
unfolding reserved_words keywords system_names left_out
bracket_inside = refl

pub brace_inside : Inside (codes "{")
unfolding reserved_words keywords system_names left_out
brace_inside = refl

pub parenthesis_inside : Inside (codes "(")
unfolding reserved_words keywords system_names left_out
parenthesis_inside = refl

question_inside : Inside (codes "?")
unfolding reserved_words keywords system_names left_out
question_inside = refl

signed_inside : Inside (codes "$signed")
unfolding reserved_words keywords system_names left_out
signed_inside = refl

unsigned_inside : Inside (codes "$unsigned")
unfolding reserved_words keywords system_names left_out
unsigned_inside = refl

unary_inside : (word : Text) → is_some_meaning (unary_of word) ≡ true → Inside word
unfolding unary_of reserved_words keywords system_names left_out
unary_inside word e = written_inside unary_word unary_operators word refl e

binary_inside : (word : Text) → is_some_meaning (binary_of word) ≡ true → Inside word
unfolding binary_of reserved_words keywords system_names left_out
binary_inside word e = written_inside binary_word binary_operators word refl e

abbrev is_round : Beginning → Bool
is_round start.Number = false
is_round start.Name = false
is_round start.Time = false
is_round (start.Round kind) = true
is_round start.Other = false

if_round : (word : Text) (b : Bool) (one next : Beginning) → (b ≡ true → is_round one ≡ true → Inside word) →
    (is_round next ≡ true → Inside word) → is_round (if b then one else next) ≡ true → Inside word
if_round word true one next p q e = p refl e
if_round word false one next p q e = q e

never : (word : Text) → false ≡ true → Inside word
never word e = absurd cc

begins_inside : (word : Text) → is_round (beginning_of word) ≡ true → Inside word
unfolding beginning_of
begins_inside word =
    if_round word (is_name word) _ _ (λ b e. never word e)
    (if_round word (is_number word) _ _ (λ b e. never word e)
    (if_round word (bytes_eq (codes "(") word) _ _ (λ b e. same_inside (codes "(") word parenthesis_inside b)
    (if_round word (bytes_eq (codes "{") word) _ _ (λ b e. same_inside (codes "{") word brace_inside b)
    (if_round word (bytes_eq (codes "$time") word) _ _ (λ b e. never word e)
    (if_round word (bytes_eq (codes "$signed") word) _ _ (λ b e. same_inside (codes "$signed") word signed_inside b)
    (if_round word (bytes_eq (codes "$unsigned") word) _ _ (λ b e. same_inside (codes "$unsigned") word unsigned_inside b)
    (by_unary (unary_of word) (unary_inside word))))))))
  where
    by_unary : (o : Option UnaryOperator) → (is_some_meaning o ≡ true → Inside word) → is_round (by_operator o) ≡ true → Inside word
    by_unary None f e = never word e
    by_unary (Some o) f e = f refl

module _ (below : ℕ) (read : Below) (s : (least : ℕ) → Safe (read least)) where
  more_safe : (trees : List ExpressionTree) → Safe (one_more read trees)
  more_safe trees = past_safe (codes ",") (then_safe (s 0) (λ tree. got_safe (trees ++ tree ∷ [])))

  all_safe : (tree : ExpressionTree) → Safe (turns (one_more read) (is_front (codes ",")) (tree ∷ []))
  all_safe tree = turns_safe (one_more read) (is_front (codes ",")) more_safe (tree ∷ [])

  parts_safe : Safe (parts read)
  parts_safe = then_safe (s 0) all_safe

  repeated_safe : (count : ExpressionTree) → Safe (rest_of_replication read count)
  repeated_safe count =
      past_safe (codes "{") (then_safe parts_safe (λ trees. past_safe (codes "}") (past_safe (codes "}")
      (got_safe (replication count (trees_in trees))))))

  joined_safe : (tree : ExpressionTree) → Safe (rest_of_concatenation read tree)
  joined_safe tree = then_safe (all_safe tree) (λ trees. past_safe (codes "}") (got_safe (concatenation (trees_in trees))))

  braces_safe : Safe (braces read)
  braces_safe = then_safe (s 0) (λ tree. choose_safe (is_front (codes "{")) (repeated_safe tree) (joined_safe tree))

  enclosed_safe : (make : ExpressionTree → ExpressionTree) → Safe (rest_of_parentheses read make)
  enclosed_safe make = then_safe (s 0) (λ tree. past_safe (codes ")") (got_safe (make tree)))

  part_safe : (letters : Text) (left : ExpressionTree) → Safe (part_of read letters left)
  part_safe letters left = then_safe (s 0) (λ right. past_safe (codes "]") (got_safe (part letters left right)))

  selected_safe : (letters : Text) → Safe (rest_of_select read letters)
  selected_safe letters =
      then_safe (s 0) (λ index. led_safe _ (λ word. if_fine word (bytes_eq (codes "]") word) _ _ (λ e. got_safe (bit letters index))
      (if_fine word (bytes_eq (codes ":") word) _ _ (λ e. part_safe letters index) tt)))

  select_safe : (letters : Text) → Safe (by_word (select_lead below read letters))
  select_safe letters =
      led_safe _ (λ word. if_fine word (bytes_eq (codes "[") word) _ _ (λ e. room_fine word below 1 (rest_of_select read letters)
      (same_inside (codes "[") word bracket_inside e) (selected_safe letters)) tt)

  name_safe : (letters : Text) → Safe (rest_of_name below read letters)
  name_safe letters = choose_safe (is_front (codes "[")) (select_safe letters) (got_safe (name letters))

  round_safe : (kind : Round) → Safe (round_by read kind)
  round_safe round.Parenthesis = enclosed_safe parentheses
  round_safe round.Brace = braces_safe
  round_safe (round.Conversion signed) = past_safe (codes "(") (enclosed_safe (conversion signed))
  round_safe (round.Operator operator) = then_safe (s unary_rank) (λ tree. got_safe (apply operator tree))

  begun_safe : (word : Text) (b : Beginning) → (is_round b ≡ true → Inside word) → LeadFine word (primary_by below read word b)
  begun_safe word start.Number i = got_safe (number word)
  begun_safe word start.Name i = name_safe word
  begun_safe word start.Time i = got_safe (time word)
  begun_safe word (start.Round kind) i = room_fine word below 1 (round_by read kind) (i refl) (round_safe kind)
  begun_safe word start.Other i = tt

  primary_safe : Safe (primary below read)
  primary_safe = led_safe _ (λ word. begun_safe word (beginning_of word) (begins_inside word))

  joins_safe : (least : ℕ) (left : ExpressionTree) (word : Text) (o : Option BinaryOperator) → (is_some_meaning o ≡ true → Inside word) →
      LeadFine word (operator_by below read least left o)
  joins_safe least left word None i = tt
  joins_safe least left word (Some o) i =
      if_fine word (nat_le least (rank o)) _ _ (λ e. room_fine word below (depth left) _ (i refl)
      (then_safe (s (suc (rank o))) (λ right. got_safe (combine o left right)))) tt

  operator_safe : (least : ℕ) (left : ExpressionTree) → Safe (operator below read least left)
  operator_safe least left = led_safe _ (λ word. joins_safe least left word (binary_of word) (binary_inside word))

  branches_safe : (condition : ExpressionTree) → Safe (branches read condition)
  branches_safe condition =
      then_safe (s 0) (λ when_true. past_safe (codes ":") (then_safe (s 0) (λ when_false. got_safe (conditional condition when_true when_false))))

  question_safe : (least : ℕ) (condition : ExpressionTree) → Safe (question below read least condition)
  question_safe least condition =
      choose_safe (is_asked least) (led_safe _ (λ word. if_fine word (is_asked least (Some word)) _ _
      (λ e. room_fine word below (depth condition) (branches read condition)
      (same_inside (codes "?") word question_inside (and_right (nat_le least 0) (bytes_eq (codes "?") word) e)) (branches_safe condition)) tt))
      (got_safe condition)

pub expression_safe : (levels least : ℕ) → Safe (expression levels least)
unfolding expression
expression_safe zero least = record { fine = λ words. tt }
expression_safe (suc below) least =
    then_safe (primary_safe below (expression below) (expression_safe below))
    (λ left. then_safe (turns_safe (operator below (expression below) least) (is_joined least)
    (operator_safe below (expression below) (expression_safe below) least) left)
    (question_safe below (expression below) (expression_safe below) least))
