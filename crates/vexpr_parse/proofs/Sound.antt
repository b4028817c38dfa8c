-- What is read stands at the front of the words, as its tree spells it; the tree fits, and is within the levels.
use Rattle.std.proofs.Common.{◌≡◌, ℕ, zero, suc, ◌+◌, Bool, true, false, ◌&&◌, max, nat_le, nat_lt, if◌then◌else◌, List, [], ◌∷◌, ◌++◌, Option, None, Some, length, refl, sym, ap, ◌∙◌, arith, inl, inr, subst, append_assoc, codes}
use Rattle.std.specs.Str.{bytes_eq}
use Rattle.std.proofs.lemmas.Bool.{cases_Bool}
use Rattle.std.proofs.lemmas.List.{append-nil}
use Rattle.std.proofs.lemmas.Bool.Decides.{nat_tests}
use Rattle.basis.proofs.Bools.{and_left, and_right, and_both}
use Rattle.basis.proofs.Numbers.{one_within}
use Rattle.vwords.specs.Words.{Text, is_name, is_number, is_time}
use Rattle.vast.specs.Expressions.{ExpressionTree, number, name, time, bit, part, parentheses, concatenation, replication, conversion, apply, combine, conditional, spell_expression, spell_parts, spell_more_parts, fits_expression, fits_parts, is_some_part, depth, greatest_depth, rank, rank_of, unary_rank, unary_word, binary_word, conversion_word}
use Rattle.vwords.specs.declared.operators.UnaryOperator.{UnaryOperator}
use Rattle.vwords.specs.declared.operators.BinaryOperator.{BinaryOperator}
use Rattle.vwords.specs.declared.operators.BinaryOperator.TheVariants as binary
use Rattle.vexpr_parse.specs.declared.beginning.Beginning.{Beginning}
use Rattle.vexpr_parse.specs.declared.beginning.Beginning.TheVariants as start
use Rattle.vexpr_parse.specs.declared.beginning.Round.TheVariants as round
use Rattle.vexpr_parse.specs.Readers.{Answer, got, stop, Reader, front, is_front, and_then, Lead, goes, refused, lower, follow, by_word, room, past, choose, rounds, turns}
use Rattle.vexpr_parse.specs.Words.{beginning_of, by_operator, by_spelling, unary_operators, binary_operators, unary_of, binary_of, is_ranked, is_joined, is_asked}
use Rattle.vexpr_parse.specs.Reading.{Below, trees_in, one_more, parts, rest_of_replication, rest_of_concatenation, braces, rest_of_parentheses, part_of, index_lead, rest_of_select, select_lead, rest_of_name, primary_by, primary_lead, primary, operator_by, operator, branches, question_lead, question, onward, expression_by, expression}
use Rattle.vexpr_parse.specs.Found.{IsExpression}
use Rattle.vexpr_parse.proofs.ReaderRules.{same_text, chosen, passed_over, stop_got, got_tree, got_left, parts_of}

-- what was read, where something was: the words before what is left, and what holds of both
abbrev pub Found : {A : Type 0} → (A → List Text → Type 0) → List Text → Answer A → Type 0
Found Q words (got tree left) = (before : List Text) × (words ≡ before ++ left) × Q tree before
Found Q words (stop why left) = Unit {0}

abbrev pub Finds : {A : Type 0} → (A → List Text → Type 0) → Reader A → Type 0
Finds Q read = (words : List Text) → Found Q words (read words)

found_more : {A : Type 0} (Q R : A → List Text → Type 0) → ((tree : A) (before : List Text) → Q tree before → R tree before) →
    (words : List Text) (a : Answer A) → Found Q words a → Found R words a
found_more Q R enough words (got tree left) f = (f.0, f.1, enough tree f.0 f.2)
found_more Q R enough words (stop why left) f = tt

found_got : {A : Type 0} (Q : A → List Text → Type 0) (tree : A) → Q tree [] → Finds Q (got tree)
found_got Q tree q words = ([], refl, q)

then_found_by : {A B : Type 0} (Q : A → List Text → Type 0) (R : B → List Text → Type 0) (next : A → Reader B) (words : List Text)
    (a : Answer A) →
    ((one : A) (before left : List Text) → a ≡ got one left → Q one before →
    Found (λ tree after. R tree (before ++ after)) left (next one left)) → Found Q words a → Found R words (and_then a next)
then_found_by {B = B} Q R next words (got one left) after f = behind (next one left) (after one f.0 left refl f.2)
  where
    behind : (a : Answer B) → Found (λ tree b. R tree (f.0 ++ b)) left a → Found R words a
    behind (got tree last) g = (f.0 ++ g.0, f.1 ∙ ap (λ ws. f.0 ++ ws) g.1 ∙ sym (append_assoc f.0 g.0 last), g.2)
    behind (stop why last) g = tt
then_found_by Q R next words (stop why left) after f = tt

then_found : {A B : Type 0} (Q : A → List Text → Type 0) (R : B → List Text → Type 0) (next : A → Reader B) →
    ((one : A) (before : List Text) → Q one before → Finds (λ tree after. R tree (before ++ after)) (next one)) →
    (words : List Text) (a : Answer A) → Found Q words a → Found R words (and_then a next)
then_found Q R next after words a f = then_found_by Q R next words a (λ one before left is q. after one before q left) f

abbrev pub LeadFinds : {A : Type 0} → (A → List Text → Type 0) → Text → Lead A → Type 0
LeadFinds Q word (goes read) = Finds (λ tree after. Q tree (word ∷ after)) read
LeadFinds Q word refused = Unit {0}
LeadFinds Q word lower = Unit {0}

follow_found : {A : Type 0} (Q : A → List Text → Type 0) (word : Text) (lead : Lead A) → LeadFinds Q word lead → (words : List Text) →
    Found Q (word ∷ words) (follow lead word words)
follow_found {A = A} Q word (goes read) f words = behind (read words) (f words)
  where
    behind : (a : Answer A) → Found (λ tree after. Q tree (word ∷ after)) words a → Found Q (word ∷ words) a
    behind (got tree left) g = (word ∷ g.0, ap (λ ws. word ∷ ws) g.1, g.2)
    behind (stop why left) g = tt
follow_found Q word refused f words = tt
follow_found Q word lower f words = tt

led_found : {A : Type 0} (Q : A → List Text → Type 0) (lead : Text → Lead A) → ((word : Text) → LeadFinds Q word (lead word)) →
    Finds Q (by_word lead)
led_found Q lead leads [] = tt
led_found Q lead leads (word ∷ words) = follow_found Q word (lead word) (leads word) words

lead_found_if : {A : Type 0} (Q : A → List Text → Type 0) (word : Text) (test : Bool) (one other : Lead A) →
    (test ≡ true → LeadFinds Q word one) → LeadFinds Q word other → LeadFinds Q word (if test then one else other)
lead_found_if Q word true one other p q = p refl
lead_found_if Q word false one other p q = q

past_found : {A : Type 0} (Q : A → List Text → Type 0) (text : Text) (read : Reader A) → Finds (λ tree after. Q tree (text ∷ after)) read →
    Finds Q (past text read)
past_found Q text read f = led_found Q (λ word. if bytes_eq text word then goes read else refused)
    (λ word. lead_found_if Q word (bytes_eq text word) (goes read) refused
    (λ e. subst (λ w. Finds (λ tree after. Q tree (w ∷ after)) read) (same_text text word e) f) tt)

room_found : {A : Type 0} (Q : A → List Text → Type 0) (word : Text) (below levels : ℕ) (lead : Lead A) →
    (nat_le levels below ≡ true → LeadFinds Q word lead) → LeadFinds Q word (room below levels lead)
room_found Q word below levels lead enough = lead_found_if Q word (nat_le levels below) lead lower enough tt

choose_found : {A : Type 0} (Q : A → List Text → Type 0) (test : Option Text → Bool) (one other : Reader A) → Finds Q one → Finds Q other →
    Finds Q (choose test one other)
choose_found Q test one other p q words = by_test (test (front words))
  where
    by_test : (b : Bool) → Found Q words (if b then one words else other words)
    by_test true = p words
    by_test false = q words

found_if : {A : Type 0} (Q : A → List Text → Type 0) (words : List Text) (test : Bool) (one other : Answer A) → Found Q words one →
    Found Q words other → Found Q words (if test then one else other)
found_if Q words true one other p q = p
found_if Q words false one other p q = q

module _ {A : Type 0} (Q : A → List Text → Type 0) (K : A → List Text → Type 0) (turn : A → Reader A) (test : Option Text → Bool)
    (kept : (tree : A) (words : List Text) (next : A) (left : List Text) → turn tree words ≡ got next left → K next left)
    (goes_on : (tree : A) (before words : List Text) → Q tree before → K tree words →
    Found (λ next after. Q next (before ++ after)) words (turn tree words)) where
  rounds_found : (fuel : ℕ) (tree : A) (before words : List Text) → Q tree before → K tree words →
      Found (λ last after. Q last (before ++ after)) words (rounds turn test fuel tree words)
  rounds_found zero tree before words q k = tt
  rounds_found (suc fuel) tree before words q k =
      found_if (λ last after. Q last (before ++ after)) words (test (front words)) _ (got tree words)
      (then_found_by (λ next after. Q next (before ++ after)) (λ last after. Q last (before ++ after)) (rounds turn test fuel) words
      (turn tree words)
      (λ next after left is n. found_more (λ last more. Q last ((before ++ after) ++ more))
      (λ last more. Q last (before ++ (after ++ more)))
      (λ last more l. subst (Q last) (append_assoc before after more) l) left (rounds turn test fuel next left)
      (rounds_found fuel next (before ++ after) left n (kept tree words next left is)))
      (goes_on tree before words q k))
      ([], refl, subst (Q tree) (sym (append-nil before)) q)

  kept_turns_found : (tree : A) (before words : List Text) → Q tree before → K tree words →
      Found (λ last after. Q last (before ++ after)) words (turns turn test tree words)
  kept_turns_found tree before words q k = rounds_found (suc (length words)) tree before words q k

turns_found : {A : Type 0} (Q : A → List Text → Type 0) (turn : A → Reader A) (test : Option Text → Bool) →
    ((tree : A) (before : List Text) → Q tree before → Finds (λ next after. Q next (before ++ after)) (turn tree)) →
    (tree : A) (before : List Text) → Q tree before → Finds (λ last after. Q last (before ++ after)) (turns turn test tree)
turns_found Q turn test goes_on tree before q words =
    kept_turns_found Q (λ t ws. Unit {0}) turn test (λ t ws n l e. tt) (λ t b ws q k. goes_on t b q ws) tree before words q tt

-- operators as they are written

operator_written : {A : Type 0} (spell : A → Text) (all : List A) (word : Text) (operator : A) → by_spelling spell all word ≡ Some operator →
    spell operator ≡ word
operator_written spell [] word operator e = let clash : None ≡ Some operator = e in absurd cc
operator_written spell (one ∷ more) word operator e =
    elim (cases_Bool (bytes_eq (spell one) word)) [
      | inl holds ↦
          let same : Some one ≡ Some operator = rw holds at e in
          let is : one ≡ operator = cc in
          sym (ap spell is) ∙ same_text (spell one) word holds
      | inr fails ↦ operator_written spell more word operator (rw fails at e)
    ]

pub unary_written : (word : Text) (operator : UnaryOperator) → unary_of word ≡ Some operator → unary_word operator ≡ word
unfolding unary_of
unary_written word operator e = operator_written unary_word unary_operators word operator e

pub binary_written : (word : Text) (operator : BinaryOperator) → binary_of word ≡ Some operator → binary_word operator ≡ word
unfolding binary_of
binary_written word operator e = operator_written binary_word binary_operators word operator e

-- what a beginning says of its word
abbrev Told : Beginning → Text → Type 0
Told start.Number word = is_number word ≡ true
Told start.Name word = is_name word ≡ true
Told start.Time word = is_time word ≡ true
Told (start.Round round.Parenthesis) word = codes "(" ≡ word
Told (start.Round round.Brace) word = codes "{" ≡ word
Told (start.Round (round.Conversion signed)) word = conversion_word signed ≡ word
Told (start.Round (round.Operator operator)) word = unary_word operator ≡ word
Told start.Other word = Unit {0}

told_by : (test : Bool) (a b : Beginning) (word : Text) → (test ≡ true → Told a word) → Told b word → Told (if test then a else b) word
told_by true a b word p q = p refl
told_by false a b word p q = q

told_operator : (o : Option UnaryOperator) (word : Text) → ((operator : UnaryOperator) → o ≡ Some operator → unary_word operator ≡ word) →
    Told (by_operator o) word
told_operator None word p = tt
told_operator (Some operator) word p = p operator refl

told : (word : Text) → Told (beginning_of word) word
unfolding beginning_of
told word =
    told_by (is_name word) start.Name _ word (λ e. e)
    (told_by (is_number word) start.Number _ word (λ e. e)
    (told_by (bytes_eq (codes "(") word) (start.Round round.Parenthesis) _ word (same_text _ word)
    (told_by (bytes_eq (codes "{") word) (start.Round round.Brace) _ word (same_text _ word)
    (told_by (is_time word) start.Time _ word (λ e. e)
    (told_by (bytes_eq (codes "$signed") word) (start.Round (round.Conversion true)) _ word (same_text _ word)
    (told_by (bytes_eq (codes "$unsigned") word) (start.Round (round.Conversion false)) _ word (same_text _ word)
    (told_operator (unary_of word) word (unary_written word))))))))

-- ranks

pub right_enough : (operator : BinaryOperator) → nat_lt (rank operator) unary_rank ≡ true
right_enough binary.Times = refl
right_enough binary.Divide = refl
right_enough binary.Remainder = refl
right_enough binary.Plus = refl
right_enough binary.Minus = refl
right_enough binary.ShiftLeft = refl
right_enough binary.ShiftRight = refl
right_enough binary.ShiftLeftSigned = refl
right_enough binary.ShiftRightSigned = refl
right_enough binary.Less = refl
right_enough binary.LessOrEqual = refl
right_enough binary.Greater = refl
right_enough binary.GreaterOrEqual = refl
right_enough binary.Equal = refl
right_enough binary.NotEqual = refl
right_enough binary.CaseEqual = refl
right_enough binary.CaseNotEqual = refl
right_enough binary.And = refl
right_enough binary.Xor = refl
right_enough binary.Xnor = refl
right_enough binary.XorNot = refl
right_enough binary.Or = refl
right_enough binary.LogicalAnd = refl
right_enough binary.LogicalOr = refl

joins_not : (least : ℕ) (first : Option Text) → nat_le 11 least ≡ true → is_joined least first ≡ false
joins_not least None e = refl
joins_not least (Some word) e = by_operator (binary_of word)
  where
    lower_rank : (r n : ℕ) → nat_lt r 11 ≡ true → nat_le 11 n ≡ true → nat_le n r ≡ false
    lower_rank r n e f = grind (arith, nat_tests)

    by_operator : (o : Option BinaryOperator) → is_ranked least o ≡ false
    by_operator None = refl
    by_operator (Some operator) = lower_rank (rank operator) least (right_enough operator) e

pub some_rank : (operator : BinaryOperator) → nat_lt 0 (rank operator) ≡ true
some_rank binary.Times = refl
some_rank binary.Divide = refl
some_rank binary.Remainder = refl
some_rank binary.Plus = refl
some_rank binary.Minus = refl
some_rank binary.ShiftLeft = refl
some_rank binary.ShiftRight = refl
some_rank binary.ShiftLeftSigned = refl
some_rank binary.ShiftRightSigned = refl
some_rank binary.Less = refl
some_rank binary.LessOrEqual = refl
some_rank binary.Greater = refl
some_rank binary.GreaterOrEqual = refl
some_rank binary.Equal = refl
some_rank binary.NotEqual = refl
some_rank binary.CaseEqual = refl
some_rank binary.CaseNotEqual = refl
some_rank binary.And = refl
some_rank binary.Xor = refl
some_rank binary.Xnor = refl
some_rank binary.XorNot = refl
some_rank binary.Or = refl
some_rank binary.LogicalAnd = refl
some_rank binary.LogicalOr = refl

-- levels

deeper : (d below : ℕ) → nat_le d below ≡ true → nat_le (1 + d) (suc below) ≡ true
deeper d below e = grind (arith, nat_tests)

both_deeper : (c d below : ℕ) → nat_le c below ≡ true → nat_le d below ≡ true → nat_le (1 + max c d) (suc below) ≡ true
both_deeper c d below e f = grind (arith, nat_tests)

all_deeper : (b c d below : ℕ) → nat_le b below ≡ true → nat_le c below ≡ true → nat_le d below ≡ true →
    nat_le (1 + max b (max c d)) (suc below) ≡ true
all_deeper b c d below e f g = grind (arith, nat_tests)

greatest : (c d below : ℕ) → nat_le c below ≡ true → nat_le d below ≡ true → nat_le (max c d) below ≡ true
greatest c d below e f = grind (arith, nat_tests)

-- lists

record AreExpressions (levels : ℕ) (trees : List ExpressionTree) (words : List Text) : Type 0 where
  spelled : spell_parts (trees_in trees) ≡ words
  fitting : fits_parts (trees_in trees) ≡ true
  some : is_some_part (trees_in trees) ≡ true
  within : nat_le (greatest_depth (trees_in trees)) levels ≡ true

more_spelled : (trees : List ExpressionTree) (tree : ExpressionTree) →
    spell_more_parts (trees_in (trees ++ tree ∷ [])) ≡ spell_more_parts (trees_in trees) ++ codes "," ∷ spell_expression tree
more_spelled [] tree = ap (λ ws. codes "," ∷ ws) (append-nil (spell_expression tree))
more_spelled (one ∷ more) tree =
    ap (λ ws. codes "," ∷ (spell_expression one ++ ws)) (more_spelled more tree)
    ∙ ap (λ ws. codes "," ∷ ws) (sym (append_assoc (spell_expression one) (spell_more_parts (trees_in more))
    (codes "," ∷ spell_expression tree)))

one_behind : (below : ℕ) (trees : List ExpressionTree) (tree : ExpressionTree) (words after : List Text) →
    AreExpressions below trees words → IsExpression below 0 tree after →
    AreExpressions below (trees ++ tree ∷ []) (words ++ codes "," ∷ after)
one_behind below [] tree words after a t = let clash : false ≡ true = a.some in absurd cc
one_behind below (one ∷ more) tree words after a t = record {
  spelled =
      ap (λ ws. spell_expression one ++ ws) (more_spelled more tree)
      ∙ sym (append_assoc (spell_expression one) (spell_more_parts (trees_in more)) (codes "," ∷ spell_expression tree))
      ∙ ap (λ ws. ws ++ codes "," ∷ spell_expression tree) a.spelled ∙ ap (λ ws. words ++ codes "," ∷ ws) t.spelled;
  fitting = fits (one ∷ more) a.fitting;
  some = refl;
  within = nests (one ∷ more) a.within;
}
  where
    fits : (trees : List ExpressionTree) → fits_parts (trees_in trees) ≡ true → fits_parts (trees_in (trees ++ tree ∷ [])) ≡ true
    fits [] e = and_both (fits_expression tree) true t.fitting refl
    fits (one ∷ more) e = and_both (fits_expression one) _ (and_left (fits_expression one) _ e)
        (fits more (and_right (fits_expression one) _ e))

    larger : (a b n : ℕ) → nat_le (max a b) n ≡ true → nat_le a n ≡ true
    larger a b n e = grind (arith, nat_tests)

    larger_too : (a b n : ℕ) → nat_le (max a b) n ≡ true → nat_le b n ≡ true
    larger_too a b n e = grind (arith, nat_tests)

    no_deeper : (n : ℕ) → nat_le 0 n ≡ true
    no_deeper n = grind (arith, nat_tests)

    nests : (trees : List ExpressionTree) → nat_le (greatest_depth (trees_in trees)) below ≡ true →
        nat_le (greatest_depth (trees_in (trees ++ tree ∷ []))) below ≡ true
    nests [] e = greatest (depth tree) 0 below t.within (no_deeper below)
    nests (one ∷ more) e = greatest (depth one) _ below (larger (depth one) _ below e) (nests more (larger_too (depth one) _ below e))

one_alone : (below : ℕ) (tree : ExpressionTree) (words : List Text) → IsExpression below 0 tree words →
    AreExpressions below (tree ∷ []) words
one_alone below tree words t = record {
  spelled = append-nil (spell_expression tree) ∙ t.spelled;
  fitting = and_both (fits_expression tree) true t.fitting refl;
  some = refl;
  within = greatest (depth tree) 0 below t.within (no_deeper below);
}
  where
    no_deeper : (n : ℕ) → nat_le 0 n ≡ true
    no_deeper n = grind (arith, nat_tests)

-- where reading stopped

lead_got : {A : Type 0} (test : Bool) (lead : Lead A) (word : Text) (words : List Text) (tree : A) (left : List Text) →
    follow (if test then lead else refused) word words ≡ got tree left →
    (test ≡ true) × (follow lead word words ≡ got tree left)
lead_got true lead word words tree left e = (refl, e)
lead_got false lead word words tree left e = absurd (stop_got e)

room_got : {A : Type 0} (below levels : ℕ) (lead : Lead A) (word : Text) (words : List Text) (tree : A) (left : List Text) →
    follow (room below levels lead) word words ≡ got tree left →
    follow lead word words ≡ got tree left
room_got below levels lead word words tree left e = by_test (nat_le levels below) e
  where
    by_test : (test : Bool) → follow (if test then lead else lower) word words ≡ got tree left → follow lead word words ≡ got tree left
    by_test true e = e
    by_test false e = absurd (stop_got e)

rounds_stop : {A : Type 0} (turn : A → Reader A) (test : Option Text → Bool) (fuel : ℕ) (tree : A) (words : List Text) (last : A)
    (left : List Text) →
    rounds turn test fuel tree words ≡ got last left → test (front left) ≡ false
rounds_stop turn test zero tree words last left e = absurd (stop_got e)
rounds_stop turn test (suc fuel) tree words last left e =
    elim (cases_Bool (test (front words))) [
      | inl holds ↦
          let p = parts_of (turn tree words) (rounds turn test fuel) last left (sym (chosen (test (front words)) _ _ holds) ∙ e) in
          rounds_stop turn test fuel p.one p.between last left p.second
      | inr fails ↦
          let same = sym (passed_over (test (front words)) (and_then (turn tree words) (rounds turn test fuel)) _ fails) ∙ e in
          subst (λ ws. test (front ws) ≡ false) (got_left same) fails
    ]

abbrev pub Stops : ℕ → Reader ExpressionTree → Type 0
Stops least read = (words : List Text) (tree : ExpressionTree) (left : List Text) → read words ≡ got tree left →
    is_joined least (front left) ≡ false

none_least : (n : ℕ) → nat_le n 0 ≡ true → n ≡ 0
none_least n e = grind (arith, nat_tests)

module _ (below : ℕ) (read : Below) (stops : (least : ℕ) → Stops least (read least)) where
  branches_stop : (condition : ExpressionTree) → Stops 0 (branches read condition)
  branches_stop condition words tree left e =
      let a = parts_of (read 0 words) (λ when_true. past (codes ":")
      (λ left. and_then (read 0 left) (λ when_false. got (conditional condition when_true when_false)))) tree left e in
      by_words a.one a.between a.second
    where
      by_words : (when_true : ExpressionTree) (ws : List Text) →
          past (codes ":") (λ left. and_then (read 0 left) (λ when_false. got
          (conditional condition when_true when_false))) ws ≡ got tree left →
          is_joined 0 (front left) ≡ false
      by_words when_true [] e = absurd (stop_got e)
      by_words when_true (word ∷ ws) e =
          let f = lead_got (bytes_eq (codes ":") word) (goes (λ left. and_then (read 0 left)
          (λ when_false. got (conditional condition when_true when_false)))) word ws tree left e in
          let b = parts_of (read 0 ws) (λ when_false. got (conditional condition when_true when_false)) tree left f.1 in
          subst (λ ws. is_joined 0 (front ws) ≡ false) (got_left b.second) (stops 0 ws b.one b.between b.first)

  question_stops : (least : ℕ) (condition : ExpressionTree) (words : List Text) (tree : ExpressionTree) (left : List Text) →
      is_joined least (front words) ≡ false →
      question below read least condition words ≡ got tree left → is_joined least (front left) ≡ false
  question_stops least condition words tree left ended e =
      elim (cases_Bool (is_asked least (front words))) [
        | inl holds ↦ by_words words (sym (chosen (is_asked least (front words)) _ (got condition words) holds) ∙ e)
        | inr fails ↦
            let same = sym (passed_over (is_asked least (front words)) (by_word (question_lead below read least condition) words) _ fails)
            ∙ e in
            subst (λ ws. is_joined least (front ws) ≡ false) (got_left same) ended
      ]
    where
      by_words : (ws : List Text) → by_word (question_lead below read least condition) ws ≡ got tree left → is_joined least (front left) ≡ false
      by_words [] e = absurd (stop_got e)
      by_words (word ∷ ws) e =
          let f = lead_got (is_asked least (Some word)) (room below (depth condition)
          (goes (branches read condition))) word ws tree left e in
          let g = room_got below (depth condition) (goes (branches read condition)) word ws tree left f.1 in
          subst (λ n. is_joined n (front left) ≡ false) (sym (none_least least (and_left (nat_le least 0) (bytes_eq (codes "?") word) f.0)))
          (branches_stop condition ws tree left g)

  by_stops : (least : ℕ) → Stops least (expression_by below read least)
  by_stops least words tree left e =
      let a = parts_of (primary below read words) (onward below read least) tree left e in
      let b = parts_of (turns (operator below read least) (is_joined least) a.one a.between)
      (question below read least) tree left a.second in
      question_stops least b.one b.between tree left
      (rounds_stop (operator below read least) (is_joined least) (suc (length a.between)) a.one a.between b.one b.between b.first) b.second

pub expression_stops : (levels least : ℕ) → Stops least (expression levels least)
unfolding expression
expression_stops zero least words tree left e = absurd (stop_got e)
expression_stops (suc below) least words tree left e = by_stops below (expression below) (expression_stops below) least words tree left e

-- with readers of a level less

module _ (below : ℕ) (read : Below) (stops : (least : ℕ) → Stops least (read least))
    (sound : (least : ℕ) → nat_le least unary_rank ≡ true → Finds (IsExpression below least) (read least)) where
  abbrev Q : ExpressionTree → List Text → Type 0
  Q = IsExpression (suc below) unary_rank

  abbrev S : ExpressionTree → List Text → Type 0
  S = IsExpression below 0

  enclosed_found : (make : ExpressionTree → ExpressionTree) (head : List Text → List Text) →
      ((tree : ExpressionTree) (words : List Text) → S tree words → Q (make tree) (head (words ++ codes ")" ∷ []))) →
      Finds (λ tree words. Q tree (head words)) (rest_of_parentheses read make)
  enclosed_found make head made words =
      then_found S (λ tree words. Q tree (head words)) (λ tree. past (codes ")") (got (make tree)))
      (λ one before o. past_found (λ tree after. Q tree (head (before ++ after))) (codes ")") (got (make one))
      (found_got (λ tree after. Q tree (head (before ++ codes ")" ∷ after))) (make one) (made one before o)))
      words (read 0 words) (sound 0 refl words)

  selected_found : (letters : Text) → is_name letters ≡ true → Finds
      (λ tree words. Q tree (letters ∷ codes "[" ∷ words)) (rest_of_select read letters)
  selected_found letters is words =
      then_found S (λ tree words. Q tree (letters ∷ codes "[" ∷ words)) (λ index. by_word (index_lead read letters index))
      (λ index before i. led_found (λ tree after. Q tree (letters ∷ codes "[" ∷ (before ++ after))) (index_lead read letters index)
      (λ word. index_found index before i word))
      words (read 0 words) (sound 0 refl words)
    where
      bit_made : (index : ExpressionTree) (before : List Text) → S index before →
          Q (bit letters index) (letters ∷ codes "[" ∷ (before ++ codes "]" ∷ []))
      bit_made index before i = record {
        spelled = ap (λ ws. letters ∷ codes "[" ∷ (ws ++ codes "]" ∷ [])) i.spelled;
        fitting = and_both (is_name letters) (fits_expression index) is i.fitting;
        within = deeper (depth index) below i.within;
        ranked = refl;
      }

      part_made : (left right : ExpressionTree) (before after : List Text) → S left before → S right after →
          Q (part letters left right) (letters ∷ codes "[" ∷ (before ++ codes ":" ∷ (after ++ codes "]" ∷ [])))
      part_made left right before after l r = record {
        spelled =
            ap (λ ws. letters ∷ codes "[" ∷ (ws ++ codes ":" ∷ (spell_expression right ++ codes "]" ∷ []))) l.spelled
            ∙ ap (λ ws. letters ∷ codes "[" ∷ (before ++ codes ":" ∷ (ws ++ codes "]" ∷ []))) r.spelled;
        fitting = and_both (is_name letters && fits_expression left) (fits_expression right)
            (and_both (is_name letters) (fits_expression left) is l.fitting) r.fitting;
        within = both_deeper (depth left) (depth right) below l.within r.within;
        ranked = refl;
      }

      part_found : (left : ExpressionTree) (before : List Text) → S left before →
          Finds (λ tree after. Q tree (letters ∷ codes "[" ∷ (before ++ codes ":" ∷ after))) (part_of read letters left)
      part_found left before l words =
          then_found S (λ tree after. Q tree (letters ∷ codes "[" ∷ (before ++ codes ":" ∷ after))) (λ right. past (codes "]")
          (got (part letters left right)))
          (λ right between r. past_found (λ tree after. Q tree (letters ∷ codes "[" ∷ (before ++ codes ":" ∷ (between ++ after))))
          (codes "]") (got (part letters left right))
          (found_got (λ tree after. Q tree (letters ∷ codes "[" ∷ (before ++ codes ":" ∷ (between ++ codes "]" ∷ after))))
          (part letters left right) (part_made left right before between l r)))
          words (read 0 words) (sound 0 refl words)

      index_found : (index : ExpressionTree) (before : List Text) → S index before → (word : Text) →
          LeadFinds (λ tree after. Q tree (letters ∷ codes "[" ∷ (before ++ after))) word (index_lead read letters index word)
      index_found index before i word =
          lead_found_if (λ tree after. Q tree (letters ∷ codes "[" ∷ (before ++ after))) word (bytes_eq (codes "]") word)
          (goes (got (bit letters index))) _
          (λ e. subst (λ w. LeadFinds (λ tree after. Q tree (letters ∷ codes "[" ∷ (before ++ after))) w (goes (got (bit letters index))))
          (same_text (codes "]") word e)
          (found_got (λ tree after. Q tree (letters ∷ codes "[" ∷ (before ++ codes "]" ∷ after))) (bit letters index)
          (bit_made index before i)))
          (lead_found_if (λ tree after. Q tree (letters ∷ codes "[" ∷ (before ++ after))) word (bytes_eq (codes ":") word)
          (goes (part_of read letters index)) refused
          (λ e. subst (λ w. LeadFinds (λ tree after. Q tree (letters ∷ codes "[" ∷ (before ++ after))) w
          (goes (part_of read letters index))) (same_text (codes ":") word e) (part_found index before i))
          tt)

  leaf : (tree : ExpressionTree) (words : List Text) → spell_expression tree ≡ words → fits_expression tree ≡ true → depth tree ≡ 1 →
      nat_le unary_rank (rank_of tree) ≡ true → Q tree words
  leaf tree words e f d r = record {
    spelled = e;
    fitting = f;
    within = subst (λ n. nat_le n (suc below) ≡ true) (sym d) (one_within below);
    ranked = r;
  }

  named_found : (letters : Text) → is_name letters ≡ true → Finds (λ tree words. Q tree (letters ∷ words)) (rest_of_name below read letters)
  named_found letters is words =
      choose_found (λ tree words. Q tree (letters ∷ words)) (is_front (codes "[")) (by_word (select_lead below read letters))
      (got (name letters))
      (led_found (λ tree words. Q tree (letters ∷ words)) (select_lead below read letters) select_found)
      (found_got (λ tree words. Q tree (letters ∷ words)) (name letters) (leaf (name letters) (letters ∷ []) refl is refl refl)) words
    where
      select_found : (word : Text) → LeadFinds (λ tree words. Q tree (letters ∷ words)) word (select_lead below read letters word)
      select_found word =
          lead_found_if (λ tree words. Q tree (letters ∷ words)) word (bytes_eq (codes "[") word) _ refused
          (λ e. room_found (λ tree words. Q tree (letters ∷ words)) word below 1 (goes (rest_of_select read letters))
          (λ f. subst (λ w. LeadFinds (λ tree words. Q tree (letters ∷ words)) w (goes (rest_of_select read letters)))
          (same_text (codes "[") word e) (selected_found letters is)))
          tt

  abbrev L : List ExpressionTree → List Text → Type 0
  L = AreExpressions below

  one_more_found : (trees : List ExpressionTree) (before : List Text) → L trees before →
      Finds (λ next after. L next (before ++ after)) (one_more read trees)
  one_more_found trees before l =
      past_found (λ next after. L next (before ++ after)) (codes ",") _
      (λ words. then_found S (λ next after. L next (before ++ codes "," ∷ after)) (λ tree. got (trees ++ tree ∷ []))
      (λ tree between t. found_got (λ next after. L next (before ++ codes "," ∷ (between ++ after))) (trees ++ tree ∷ [])
      (subst (λ ws. L (trees ++ tree ∷ []) (before ++ codes "," ∷ ws)) (sym (append-nil between))
      (one_behind below trees tree before between l t)))
      words (read 0 words) (sound 0 refl words))

  parts_found : Finds L (parts read)
  parts_found words =
      then_found S L (λ tree. turns (one_more read) (is_front (codes ",")) (tree ∷ []))
      (λ tree before t. turns_found L (one_more read) (is_front (codes ",")) one_more_found (tree ∷ []) before
      (one_alone below tree before t)) words (read 0 words) (sound 0 refl words)

  braces_found : Finds (λ tree words. Q tree (codes "{" ∷ words)) (braces read)
  braces_found words =
      then_found S (λ tree words. Q tree (codes "{" ∷ words)) (λ tree. choose
      (is_front (codes "{")) (rest_of_replication read tree) (rest_of_concatenation read tree))
      (λ tree before t. choose_found (λ found after. Q found (codes "{" ∷ (before ++ after)))
      (is_front (codes "{")) (rest_of_replication read tree) (rest_of_concatenation read tree) (repeated_found tree before t) (joined_found tree before t))
      words (read 0 words) (sound 0 refl words)
    where
      repeated_made : (count : ExpressionTree) (trees : List ExpressionTree) (before after : List Text) → S count before → L trees after →
          Q (replication count (trees_in trees)) (codes "{" ∷ (before ++ codes "{" ∷ (after ++ codes "}" ∷ codes "}" ∷ [])))
      repeated_made count trees before after c l = record {
        spelled =
            ap (λ ws. codes "{" ∷ (ws ++ codes "{" ∷ (spell_parts (trees_in trees) ++ codes "}" ∷ codes "}" ∷ []))) c.spelled
            ∙ ap (λ ws. codes "{" ∷ (before ++ codes "{" ∷ (ws ++ codes "}" ∷ codes "}" ∷ []))) l.spelled;
        fitting =
            and_both (fits_expression count && is_some_part (trees_in trees)) (fits_parts (trees_in trees))
            (and_both (fits_expression count) (is_some_part (trees_in trees)) c.fitting l.some) l.fitting;
        within = both_deeper (depth count) (greatest_depth (trees_in trees)) below c.within l.within;
        ranked = refl;
      }

      joined_made : (trees : List ExpressionTree) (words : List Text) → L trees words →
          Q (concatenation (trees_in trees)) (codes "{" ∷ (words ++ codes "}" ∷ []))
      joined_made trees words l = record {
        spelled = ap (λ ws. codes "{" ∷ (ws ++ codes "}" ∷ [])) l.spelled;
        fitting = and_both (is_some_part (trees_in trees)) (fits_parts (trees_in trees)) l.some l.fitting;
        within = deeper (greatest_depth (trees_in trees)) below l.within;
        ranked = refl;
      }

      repeated_found : (count : ExpressionTree) (before : List Text) → S count before →
          Finds (λ found after. Q found (codes "{" ∷ (before ++ after))) (rest_of_replication read count)
      repeated_found count before c =
          past_found (λ found after. Q found (codes "{" ∷ (before ++ after))) (codes "{") _
          (λ words. then_found L (λ found after. Q found (codes "{" ∷ (before ++ codes "{" ∷ after))) (λ trees. past (codes "}")
          (past (codes "}") (got (replication count (trees_in trees)))))
          (λ trees between l. past_found (λ found after. Q found (codes "{" ∷ (before ++ codes "{" ∷ (between ++ after)))) (codes "}") _
          (past_found (λ found after. Q found (codes "{" ∷ (before ++ codes "{" ∷ (between ++ codes "}" ∷ after)))) (codes "}") _
          (found_got (λ found after. Q found (codes "{" ∷ (before ++ codes "{" ∷ (between ++ codes "}" ∷ codes "}" ∷ after))))
          (replication count (trees_in trees)) (repeated_made count trees before between c l))))
          words (parts read words) (parts_found words))

      joined_found : (tree : ExpressionTree) (before : List Text) → S tree before →
          Finds (λ found after. Q found (codes "{" ∷ (before ++ after))) (rest_of_concatenation read tree)
      joined_found tree before t words =
          then_found (λ trees between. L trees (before ++ between))
          (λ found after. Q found (codes "{" ∷ (before ++ after))) (λ trees. past (codes "}") (got (concatenation (trees_in trees))))
          (λ trees between l. past_found (λ found after. Q found (codes "{" ∷ (before ++ (between ++ after)))) (codes "}") _
          (found_got (λ found after. Q found (codes "{" ∷ (before ++ (between ++ codes "}" ∷ after)))) (concatenation (trees_in trees))
          (subst (λ ws. Q (concatenation (trees_in trees)) (codes "{" ∷ ws)) (append_assoc before between (codes "}" ∷ []))
          (joined_made trees (before ++ between) l))))
          words _ (turns_found L (one_more read) (is_front (codes ",")) one_more_found (tree ∷ []) before
          (one_alone below tree before t) words)

  primary_found_by : (word : Text) (b : Beginning) → Told b word → LeadFinds Q word (primary_by below read word b)
  primary_found_by word start.Number e = found_got (λ tree after. Q tree (word ∷ after)) (number word)
      (leaf (number word) (word ∷ []) refl e refl refl)
  primary_found_by word start.Name e = named_found word e
  primary_found_by word start.Time e = found_got (λ tree after. Q tree (word ∷ after)) (time word)
      (leaf (time word) (word ∷ []) refl e refl refl)
  primary_found_by word (start.Round round.Parenthesis) e =
      room_found Q word below 1 _
      (λ f. enclosed_found parentheses (λ ws. word ∷ ws)
      (λ tree words s. record {
        spelled = ap (λ ws. codes "(" ∷ (ws ++ codes ")" ∷ [])) s.spelled
            ∙ ap (λ w. w ∷ (words ++ codes ")" ∷ [])) e;
        fitting = s.fitting;
        within = deeper (depth tree) below s.within;
        ranked =
            refl;
      }))
  primary_found_by word (start.Round round.Brace) e = room_found Q word below 1 _
      (λ f. subst (λ w. LeadFinds Q w (goes (braces read))) e braces_found)
  primary_found_by word (start.Round (round.Conversion signed)) e =
      room_found Q word below 1 _
      (λ f. past_found (λ tree after. Q tree (word ∷ after)) (codes "(") (rest_of_parentheses read (conversion signed))
      (enclosed_found (conversion signed) (λ ws. word ∷ codes "(" ∷ ws)
      (λ tree words s. record {
        spelled = ap (λ ws. conversion_word signed ∷ codes "(" ∷ (ws ++ codes ")" ∷ [])) s.spelled
            ∙ ap (λ w. w ∷ codes "(" ∷ (words ++ codes ")" ∷ [])) e;
        fitting = s.fitting;
        within = deeper (depth tree) below s.within;
        ranked = refl;
      })))
  primary_found_by word (start.Round (round.Operator o)) e =
      room_found Q word below 1 _
      (λ f words. then_found (IsExpression below unary_rank) (λ tree after. Q tree (word ∷ after)) (λ tree. got (apply o tree))
      (λ tree before t. found_got (λ found after. Q found (word ∷ (before ++ after))) (apply o tree)
      (record {
        spelled = ap (λ ws. unary_word o ∷ ws) (t.spelled ∙ sym (append-nil before)) ∙ ap (λ w. w ∷ (before ++ [])) e;
        fitting = and_both (nat_le unary_rank (rank_of tree)) (fits_expression tree) t.ranked t.fitting;
        within = deeper (depth tree) below t.within;
        ranked = refl;
      }))
      words (read unary_rank words) (sound unary_rank refl words))
  primary_found_by word start.Other e = tt

  pub primary_found : Finds (IsExpression (suc below) unary_rank) (primary below read)
  primary_found = led_found Q (primary_lead below read) (λ word. primary_found_by word (beginning_of word) (told word))

  -- operators in turn: none that holds more tightly than what was read stands behind it
  abbrev K : ExpressionTree → List Text → Type 0
  K tree words = is_joined (suc (rank_of tree)) (front words) ≡ false

  abbrev O : ℕ → ExpressionTree → List Text → Type 0
  O least tree words = IsExpression (suc below) least tree words × (nat_lt 0 (rank_of tree) ≡ true)

  combined : (least : ℕ) (operator : BinaryOperator) (left right : ExpressionTree) (word : Text) (before after : List Text) →
      binary_word operator ≡ word → nat_le least (rank operator) ≡ true →
      nat_le (suc (rank_of left)) (rank operator) ≡ false → nat_le (depth left) below ≡ true → O least left before →
      IsExpression below (suc (rank operator)) right after →
      O least (combine operator left right) (before ++ word ∷ after)
  combined least operator left right word before after is enough loose within l r = (
    record {
      spelled =
          ap (λ ws. ws ++ binary_word operator ∷ spell_expression right) l.0.spelled
          ∙ ap (λ ws. before ++ binary_word operator ∷ ws) r.spelled ∙ ap (λ w. before ++ w ∷ after) is;
      fitting =
          and_both ((nat_le (rank operator) (rank_of left) && nat_lt (rank operator) (rank_of right)) && fits_expression left)
          (fits_expression right)
          (and_both (nat_le (rank operator) (rank_of left) && nat_lt (rank operator) (rank_of right)) (fits_expression left)
          (and_both (nat_le (rank operator) (rank_of left)) (nat_lt (rank operator) (rank_of right))
          (at_most (rank_of left) (rank operator) loose) (above (rank operator) (rank_of right) r.ranked))
          l.0.fitting)
          r.fitting;
      within = both_deeper (depth left) (depth right) below within r.within;
      ranked = enough;
    },
    some_rank operator,
  )
    where
      at_most : (a b : ℕ) → nat_le (suc a) b ≡ false → nat_le b a ≡ true
      at_most a b e = grind (arith, nat_tests)

      above : (a b : ℕ) → nat_le (suc a) b ≡ true → nat_lt a b ≡ true
      above a b e = grind (arith, nat_tests)

  operator_found : (least : ℕ) (left : ExpressionTree) (before words : List Text) → O least left before → K left words →
      Found (λ next after. O least next (before ++ after)) words (operator below read least left words)
  operator_found least left before [] l k = tt
  operator_found least left before (word ∷ words) l k = by_operator (binary_of word) (binary_written word) k
    where
      R : ExpressionTree → List Text → Type 0
      R next after = O least next (before ++ after)

      by_operator : (o : Option BinaryOperator) → ((operator : BinaryOperator) → o ≡ Some operator → binary_word operator ≡ word) →
          is_ranked (suc (rank_of left)) o ≡ false →
          Found (λ next after. O least next (before ++ after)) (word ∷ words) (follow (operator_by below read least left o) word words)
      by_operator None is loose = tt
      by_operator (Some operator) is loose = follow_found (λ next after. O least next (before ++ after)) word _
          (lead_found_if (λ next after. O least next (before ++ after)) word (nat_le least (rank operator)) _ refused
          (λ e. room_found (λ next after. O least next (before ++ after)) word below (depth left) _
          (λ f words. then_found (IsExpression below (suc (rank operator))) (λ next after. O least next (before ++ word ∷ after))
          (λ right. got (combine operator left right))
          (λ right between r. found_got (λ next after. O least next (before ++ word ∷ (between ++ after)))
          (combine operator left right)
          (subst (λ ws. O least (combine operator left right) (before ++ word ∷ ws)) (sym (append-nil between))
          (combined least operator left right word before between (is operator refl) e loose f l r)))
          words (read (suc (rank operator)) words) (sound (suc (rank operator))
          (within_unary (rank operator) (right_enough operator)) words)))
          tt) words
        where
          within_unary : (r : ℕ) → nat_lt r unary_rank ≡ true → nat_le (suc r) unary_rank ≡ true
          within_unary r e = grind (arith, nat_tests)

  operator_kept : (least : ℕ) (tree : ExpressionTree) (words : List Text) (next : ExpressionTree) (left : List Text) →
      operator below read least tree words ≡ got next left → K next left
  operator_kept least tree [] next left e = absurd (stop_got e)
  operator_kept least tree (word ∷ words) next left e = by_operator (binary_of word) e
    where
      by_operator : (o : Option BinaryOperator) → follow (operator_by below read least tree o) word words ≡ got next left → K next left
      by_operator None e = absurd (stop_got e)
      by_operator (Some operator) e =
          let on : Lead ExpressionTree = goes (λ words. and_then (read (suc (rank operator)) words)
          (λ right. got (combine operator tree right))) in
          let f = lead_got (nat_le least (rank operator)) (room below (depth tree) on) word words next left e in
          let g = room_got below (depth tree) on word words next left f.1 in
          let p = parts_of (read (suc (rank operator)) words) (λ right. got (combine operator tree right)) next left g in
          subst (λ t. is_joined (suc (rank_of t)) (front left) ≡ false) (got_tree p.second)
          (subst (λ ws. is_joined (suc (rank operator)) (front ws) ≡ false) (got_left p.second)
          (stops (suc (rank operator)) words p.one p.between p.first))

  -- a conditional, where it may stand

  abbrev R : ℕ → List Text → ExpressionTree → List Text → Type 0
  R least before tree after = IsExpression (suc below) least tree (before ++ after)

  asked : (least : ℕ) (condition when_true when_false : ExpressionTree) (before between after : List Text) → nat_le least 0 ≡ true →
      nat_le (depth condition) below ≡ true → O least condition before →
      S when_true between → S when_false after → R least before (conditional condition when_true when_false)
      (codes "?" ∷ (between ++ codes ":" ∷ (after ++ [])))
  asked least condition when_true when_false before between after lowest within c t f = record {
    spelled =
        ap (λ ws. ws ++ codes "?" ∷ (spell_expression when_true ++ codes ":" ∷ spell_expression when_false)) c.0.spelled
        ∙ ap (λ ws. before ++ codes "?" ∷ (ws ++ codes ":" ∷ spell_expression when_false)) t.spelled
        ∙ ap (λ ws. before ++ codes "?" ∷ (between ++ codes ":" ∷ ws)) (f.spelled ∙ sym (append-nil after));
    fitting =
        and_both ((nat_lt 0 (rank_of condition) && fits_expression condition) && fits_expression when_true) (fits_expression when_false)
        (and_both (nat_lt 0 (rank_of condition) && fits_expression condition) (fits_expression when_true)
        (and_both (nat_lt 0 (rank_of condition)) (fits_expression condition) c.1 c.0.fitting) t.fitting)
        f.fitting;
    within = all_deeper (depth condition) (depth when_true) (depth when_false) below within t.within f.within;
    ranked = lowest;
  }

  branches_found : (least : ℕ) (condition : ExpressionTree) (before : List Text) → nat_le least 0 ≡ true →
      nat_le (depth condition) below ≡ true → O least condition before →
      Finds (λ tree after. R least before tree (codes "?" ∷ after)) (branches read condition)
  branches_found least condition before lowest within c words =
      then_found S (λ tree after. R least before tree (codes "?" ∷ after))
      (λ when_true. past (codes ":") (λ left. and_then (read 0 left) (λ when_false. got (conditional condition when_true when_false))))
      (λ when_true between t. past_found (λ tree after. R least before tree (codes "?" ∷ (between ++ after))) (codes ":") _
      (λ left. then_found S (λ tree after. R least before tree (codes "?" ∷ (between ++ codes ":" ∷ after)))
      (λ when_false. got (conditional condition when_true when_false))
      (λ when_false last f. found_got (λ tree after. R least before tree (codes "?" ∷ (between ++ codes ":" ∷ (last ++ after))))
      (conditional condition when_true when_false)
      (asked least condition when_true when_false before between last lowest within c t f))
      left (read 0 left) (sound 0 refl left)))
      words (read 0 words) (sound 0 refl words)

  question_lead_found : (least : ℕ) (condition : ExpressionTree) (before : List Text) → O least condition before → (word : Text) →
      LeadFinds (R least before) word (question_lead below read least condition word)
  question_lead_found least condition before c word =
      lead_found_if (R least before) word (is_asked least (Some word)) _ refused
      (λ e. room_found (R least before) word below (depth condition) (goes (branches read condition))
      (λ f. subst (λ w. LeadFinds (R least before) w (goes (branches read condition)))
      (same_text (codes "?") word (and_right (nat_le least 0) (bytes_eq (codes "?") word) e))
      (branches_found least condition before (and_left (nat_le least 0) (bytes_eq (codes "?") word) e) f c)))
      tt

  question_found : (least : ℕ) (condition : ExpressionTree) (before : List Text) → O least condition before →
      Finds (R least before) (question below read least condition)
  question_found least condition before c =
      choose_found (R least before) (is_asked least) (by_word (question_lead below read least condition)) (got condition)
      (led_found (R least before) (question_lead below read least condition) (question_lead_found least condition before c))
      (found_got (R least before) condition (subst (IsExpression (suc below) least condition) (sym (append-nil before)) c.0))

  pub by_found : (least : ℕ) → nat_le least unary_rank ≡ true → Finds (IsExpression (suc below) least) (expression_by below read least)
  by_found least enough words =
      then_found Q (IsExpression (suc below) least) (onward below read least) onward_found words (primary below read words)
      (primary_found words)
    where
      lowest : (n r : ℕ) → nat_le n 11 ≡ true → nat_le 11 r ≡ true → nat_le n r ≡ true
      lowest n r e f = grind (arith, nat_tests)

      positive : (r : ℕ) → nat_le 11 r ≡ true → nat_lt 0 r ≡ true
      positive r e = grind (arith, nat_tests)

      higher : (r : ℕ) → nat_le 11 r ≡ true → nat_le 11 (suc r) ≡ true
      higher r e = grind (arith, nat_tests)

      onward_found : (left : ExpressionTree) (before : List Text) → Q left before →
          Finds (λ tree after. IsExpression (suc below) least tree (before ++ after)) (onward below read least left)
      onward_found left before q words =
          then_found (λ t b. O least t (before ++ b)) (λ tree after. IsExpression (suc below) least tree (before ++ after))
          (question below read least)
          (λ one between o ws. found_more (R least (before ++ between))
          (λ tree after. IsExpression (suc below) least tree (before ++ (between ++ after)))
          (λ tree after r. subst (IsExpression (suc below) least tree) (append_assoc before between after) r) ws
          (question below read least one ws) (question_found least one (before ++ between) o ws))
          words (turns (operator below read least) (is_joined least) left words)
          (kept_turns_found (O least) K (operator below read least) (is_joined least) (operator_kept least)
          (operator_found least) left before words (
            record {
              spelled = q.spelled;
              fitting = q.fitting;
              within = q.within;
              ranked =
                  lowest least (rank_of left) enough q.ranked;
            },
            positive (rank_of left) q.ranked,
          )
          (joins_not (suc (rank_of left)) (front words) (higher (rank_of left) q.ranked)))

-- what is read is an expression
pub expression_found : (levels least : ℕ) → nat_le least unary_rank ≡ true → Finds (IsExpression levels least) (expression levels least)
unfolding expression
expression_found zero least enough words = tt
expression_found (suc below) least enough words = by_found below (expression below) (expression_stops below)
    (expression_found below) least enough words

-- what is read is within the levels
pub expression_depth : (levels least : ℕ) → nat_le least unary_rank ≡ true →
    (words : List Text) (tree : ExpressionTree) (left : List Text) → expression levels least words ≡ got tree left →
    nat_le (depth tree) levels ≡ true
expression_depth levels least enough words tree left e =
    let f : Found (IsExpression levels least) words (got tree left) =
    subst (Found (IsExpression levels least) words) e (expression_found levels least enough words) in
    f.2.within

pub primary_depth : (below : ℕ) (words : List Text) (tree : ExpressionTree) (left : List Text) →
    primary below (expression below) words ≡ got tree left → nat_le (depth tree) (suc below) ≡ true
primary_depth below words tree left e =
    let f : Found (IsExpression (suc below) unary_rank) words (got tree left) =
    subst (Found (IsExpression (suc below) unary_rank) words) e
    (primary_found below (expression below) (expression_stops below) (expression_found below) words) in
    f.2.within
