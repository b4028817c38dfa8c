-- What a tree that fits spells is read as that tree, where the words behind it end it.
use Rattle.std.proofs.Common.{◌≡◌, ℕ, zero, suc, ◌+◌, ◌<◌, Bool, true, false, ◌&&◌, ◌||◌, ◌==◌, not, max, nat_le, nat_lt, List, [], ◌∷◌, ◌++◌, Option, Some, refl, sym, ap, ◌∙◌, arith, inl, inr, subst, append_assoc, codes}
use Rattle.std.specs.List.{list_all}
use Rattle.std.specs.Str.{bytes_eq}
use Rattle.std.specs.Char.{is_ascii_digit}
use Rattle.std.proofs.lemmas.Bool.{cases_Bool, not-true}
use Rattle.std.proofs.lemmas.List.{append-nil}
use Rattle.std.proofs.lemmas.Bool.Decides.{nat_tests}
use Rattle.basis.proofs.Bools.{and_left, and_right, and_both, clash}
use Rattle.basis.specs.Letters.{begins_name, is_in_name}
use Rattle.vwords.specs.Words.{Text, is_name, is_number, is_time, is_reserved, is_escaped_name, are_printable}
use Rattle.vast.specs.Expressions.{ExpressionTree, number, name, time, bit, part, parentheses, concatenation, replication, conversion, apply, combine, conditional, ExpressionTrees, none, first, spell_expression, spell_parts, spell_more_parts, fits_expression, fits_parts, depth, greatest_depth, rank, rank_of, unary_rank, unary_word, binary_word, conversion_word}
use Rattle.vwords.specs.declared.operators.UnaryOperator.{UnaryOperator}
use Rattle.vwords.specs.declared.operators.UnaryOperator.TheVariants as unary
use Rattle.vwords.specs.declared.operators.BinaryOperator.{BinaryOperator}
use Rattle.vwords.specs.declared.operators.BinaryOperator.TheVariants as binary
use Rattle.vast.proofs.ExpressionLemmas.{depth_positive}
use Rattle.vexpr_parse.specs.declared.beginning.Beginning.{Beginning}
use Rattle.vexpr_parse.specs.declared.beginning.Beginning.TheVariants as start
use Rattle.vexpr_parse.specs.declared.beginning.Round.TheVariants as round
use Rattle.vexpr_parse.specs.Readers.{got, Reader, front, is_front, and_then, goes, refused, lower, follow, by_word, room, past, choose, turns}
use Rattle.vexpr_parse.specs.Words.{beginning_of, unary_of, binary_of, is_ranked, is_joined, is_asked, ends_primary, ends_operators, ends}
use Rattle.vexpr_parse.specs.Reading.{trees_in, one_more, parts, rest_of_replication, rest_of_concatenation, braces, rest_of_parentheses, part_of, index_lead, rest_of_select, primary_by, primary, operator_by, operator_lead, operator, branches, question, onward, expression_by, expression}
use Rattle.vexpr_parse.specs.Lawful.{Rule}
use Rattle.vexpr_parse.proofs.ReaderRules.{chosen, passed_over, same_text, text_same, then_got}
use Rattle.vexpr_parse.proofs.ReaderLoops.{turns_end, turns_on}
use Rattle.vexpr_parse.proofs.Sound.{some_rank}
use Rattle.vexpr_parse.proofs.ExpressionRules.{example, ranked_higher, ends_parts, not_joined, not_asked, operators_ended, primary_ended, unary_ends, more_eats, operator_eats, expression_rule}

-- what words begin

no_letter : (c : ℕ) → (is_ascii_digit c || (c == 39)) ≡ true → begins_name c ≡ false
no_letter c e = grind (arith, nat_tests)

no_backslash : (c : ℕ) → (is_ascii_digit c || (c == 39)) ≡ true → (c == 92) ≡ false
no_backslash c e = grind (arith, nat_tests)

number_no_name : (word : Text) → is_number word ≡ true → is_name word ≡ false
number_no_name [] e = refl
number_no_name (c ∷ cs) e =
    ap (λ b. (b && list_all is_in_name cs && not (is_reserved (c ∷ cs))) || is_escaped_name (c ∷ cs)) (no_letter c e)
    ∙ ap (λ b. b && are_printable cs) (no_backslash c e)

start_name : (word : Text) → is_name word ≡ true → beginning_of word ≡ start.Name
unfolding beginning_of
start_name word e = chosen (is_name word) _ _ e

start_number : (word : Text) → is_number word ≡ true → beginning_of word ≡ start.Number
unfolding beginning_of
start_number word e = passed_over (is_name word) _ _ (number_no_name word e) ∙ chosen (is_number word) _ _ e

start_time : (word : Text) → is_time word ≡ true → beginning_of word ≡ start.Time
unfolding beginning_of
start_time word e = subst (λ w. beginning_of w ≡ start.Time) (same_text (codes "$time") word e) refl

start_parenthesis : beginning_of (codes "(") ≡ start.Round round.Parenthesis
unfolding beginning_of
start_parenthesis = refl

start_brace : beginning_of (codes "{") ≡ start.Round round.Brace
unfolding beginning_of
start_brace = refl

start_conversion : (signed : Bool) → beginning_of (conversion_word signed) ≡ start.Round (round.Conversion signed)
unfolding beginning_of
start_conversion true = refl
start_conversion false = refl

start_operator : (operator : UnaryOperator) → beginning_of (unary_word operator) ≡ start.Round (round.Operator operator)
unfolding beginning_of unary_of
start_operator unary.Plus = refl
start_operator unary.Minus = refl
start_operator unary.Not = refl
start_operator unary.Invert = refl
start_operator unary.And = refl
start_operator unary.Nand = refl
start_operator unary.Or = refl
start_operator unary.Nor = refl
start_operator unary.Xor = refl
start_operator unary.Xnor = refl
start_operator unary.XorNot = refl

-- a binary operator is one, and begins no select
record IsOperator (operator : BinaryOperator) : Type 0 where
  found : binary_of (binary_word operator) ≡ Some operator
  other : bytes_eq (codes "[") (binary_word operator) ≡ false

is_operator : (operator : BinaryOperator) → IsOperator operator
unfolding binary_of
is_operator binary.Times = record { found = refl; other = refl }
is_operator binary.Divide = record { found = refl; other = refl }
is_operator binary.Remainder = record { found = refl; other = refl }
is_operator binary.Plus = record { found = refl; other = refl }
is_operator binary.Minus = record { found = refl; other = refl }
is_operator binary.ShiftLeft = record { found = refl; other = refl }
is_operator binary.ShiftRight = record { found = refl; other = refl }
is_operator binary.ShiftLeftSigned = record { found = refl; other = refl }
is_operator binary.ShiftRightSigned = record { found = refl; other = refl }
is_operator binary.Less = record { found = refl; other = refl }
is_operator binary.LessOrEqual = record { found = refl; other = refl }
is_operator binary.Greater = record { found = refl; other = refl }
is_operator binary.GreaterOrEqual = record { found = refl; other = refl }
is_operator binary.Equal = record { found = refl; other = refl }
is_operator binary.NotEqual = record { found = refl; other = refl }
is_operator binary.CaseEqual = record { found = refl; other = refl }
is_operator binary.CaseNotEqual = record { found = refl; other = refl }
is_operator binary.And = record { found = refl; other = refl }
is_operator binary.Xor = record { found = refl; other = refl }
is_operator binary.Xnor = record { found = refl; other = refl }
is_operator binary.XorNot = record { found = refl; other = refl }
is_operator binary.Or = record { found = refl; other = refl }
is_operator binary.LogicalAnd = record { found = refl; other = refl }
is_operator binary.LogicalOr = record { found = refl; other = refl }

-- levels

upper : (d below : ℕ) → nat_le (1 + d) (suc below) ≡ true → nat_le d below ≡ true
upper d below e = grind (arith, nat_tests)

upper_left : (c d below : ℕ) → nat_le (1 + max c d) (suc below) ≡ true → nat_le c below ≡ true
upper_left c d below e = grind (arith, nat_tests)

upper_right : (c d below : ℕ) → nat_le (1 + max c d) (suc below) ≡ true → nat_le d below ≡ true
upper_right c d below e = grind (arith, nat_tests)

left_of : (c d n : ℕ) → nat_le (max c d) n ≡ true → nat_le c n ≡ true
left_of c d n e = grind (arith, nat_tests)

right_of : (c d n : ℕ) → nat_le (max c d) n ≡ true → nat_le d n ≡ true
right_of c d n e = grind (arith, nat_tests)

enough : (tree : ExpressionTree) (below : ℕ) → nat_le (depth tree) below ≡ true → nat_le 1 below ≡ true
enough tree below e = at_least_one (depth tree) below (depth_positive tree) e
  where
    at_least_one : (d b : ℕ) → 0 < d → nat_le d b ≡ true → nat_le 1 b ≡ true
    at_least_one d b p e = grind (arith, nat_tests)

-- What a tree is read as: by the operators that follow it, where it isn't a conditional; and where it ends.
record Complete (tree : ExpressionTree) : Type 0 where
  spine : (below least : ℕ) (rest : List Text) → fits_expression tree ≡ true → nat_le (depth tree) (suc below) ≡ true →
      nat_le least (rank_of tree) ≡ true →
      nat_lt 0 (rank_of tree) ≡ true → ends_operators (suc (rank_of tree)) (front rest) ≡ true →
      expression (suc below) least (spell_expression tree ++ rest) ≡ onward below (expression below) least tree rest
  whole : (levels least : ℕ) (rest : List Text) → fits_expression tree ≡ true → nat_le (depth tree) levels ≡ true →
      nat_le least (rank_of tree) ≡ true →
      ends least (front rest) ≡ true → expression levels least (spell_expression tree ++ rest) ≡ got tree rest

pub by_level : (below least : ℕ) (words : List Text) → expression (suc below) least words ≡ expression_by below (expression below) least words
unfolding expression
by_level below least words = refl

pub below_rule : (below : ℕ) → nat_le 1 below ≡ true → (least : ℕ) → Rule (expression below least) (ends least) example
below_rule zero e least = let clash : false ≡ true = e in absurd cc
below_rule (suc below) e least = expression_rule below least

-- where nothing follows, a tree goes on to itself
onward_ended : (below least : ℕ) (tree : ExpressionTree) (rest : List Text) → ends least (front rest) ≡ true →
    onward below (expression below) least tree rest ≡ got tree rest
onward_ended below least tree rest e =
    then_got (turns (operator below (expression below) least) (is_joined least) tree rest)
    (question below (expression below) least) tree rest
    (turns_end (operator below (expression below) least) (is_joined least)
    (operator_eats below (expression below) (below_rule below) least) tree rest
    (not_joined least (front rest) (operators_ended least (front rest) e)))
    ∙ passed_over (is_asked least (front rest)) _ _ (not_asked least (front rest) e)

-- from the spine of a tree that is no conditional to the whole of it
whole_of : (tree : ExpressionTree) → nat_lt 0 (rank_of tree) ≡ true →
    ((below least : ℕ) (rest : List Text) → fits_expression tree ≡ true → nat_le (depth tree) (suc below) ≡ true →
    nat_le least (rank_of tree) ≡ true →
    nat_lt 0 (rank_of tree) ≡ true → ends_operators (suc (rank_of tree)) (front rest) ≡ true →
    expression (suc below) least (spell_expression tree ++ rest) ≡ onward below (expression below) least tree rest) →
    Complete tree
whole_of tree positive spine = record { spine = spine; whole = whole }
  where
    no_level : (d : ℕ) → 0 < d → nat_le d 0 ≡ true → ⊥
    no_level d p e = clash (nat_le d 0) e (none d p)
      where
        none : (d : ℕ) → 0 < d → nat_le d 0 ≡ false
        none d p = grind (arith, nat_tests)

    higher : (a b : ℕ) → nat_le a b ≡ true → nat_le a (suc b) ≡ true
    higher a b e = grind (arith, nat_tests)

    whole : (levels least : ℕ) (rest : List Text) → fits_expression tree ≡ true → nat_le (depth tree) levels ≡ true →
        nat_le least (rank_of tree) ≡ true →
        ends least (front rest) ≡ true → expression levels least (spell_expression tree ++ rest) ≡ got tree rest
    whole zero least rest fit within ranked ended = absurd (no_level (depth tree) (depth_positive tree) within)
    whole (suc below) least rest fit within ranked ended =
        spine below least rest fit within ranked positive (tight (front rest) (operators_ended least (front rest) ended))
        ∙ onward_ended below least tree rest ended
      where
        tight : (next : Option Text) → ends_operators least next ≡ true → ends_operators (suc (rank_of tree)) next ≡ true
        tight next e =
            and_both (ends_primary next) (not (is_joined (suc (rank_of tree)) next)) (primary_ended least next e)
            (ap not (ranked_higher least (suc (rank_of tree)) next (higher least (rank_of tree) ranked) (not_joined least next e)))

-- a tree that no binary operator makes
primary_complete : (tree : ExpressionTree) → nat_lt 0 (rank_of tree) ≡ true →
    ((below : ℕ) (rest : List Text) → fits_expression tree ≡ true → nat_le (depth tree) (suc below) ≡ true →
    ends_primary (front rest) ≡ true →
    primary below (expression below) (spell_expression tree ++ rest) ≡ got tree rest) → Complete tree
primary_complete tree positive reads = whole_of tree positive
    (λ below least rest fit within ranked p tight.
    by_level below least (spell_expression tree ++ rest)
    ∙ then_got (primary below (expression below) (spell_expression tree ++ rest)) (onward below (expression below) least) tree rest
    (reads below rest fit within (primary_ended (suc (rank_of tree)) (front rest) tight)))

-- what a word that begins a primary goes on to
led_to : (below : ℕ) (word : Text) (words : List Text) (b : Beginning) → beginning_of word ≡ b →
    primary below (expression below) (word ∷ words) ≡ follow (primary_by below (expression below) word b) word words
led_to below word words b e = ap (λ c. follow (primary_by below (expression below) word c) word words) e

roomy : {A : Type 0} (below levels : ℕ) (read : Reader A) (word : Text) (words : List Text) → nat_le levels below ≡ true →
    follow (room below levels (goes read)) word words ≡ read words
roomy below levels read word words e = ap (λ l. follow l word words) (chosen (nat_le levels below) (goes read) lower e)

pub past_word : {A : Type 0} (text : Text) (read : Reader A) (words : List Text) → past text read (text ∷ words) ≡ read words
past_word text read words = ap (λ l. follow l text words) (chosen (bytes_eq text text) (goes read) refused (text_same text))

abbrev closing : List Text → Type 0
closing text = (rest : List Text) → ends 0 (front (text ++ rest)) ≡ true

-- a tree of a level less, before words that end it
module _ (tree : ExpressionTree) (c : Complete tree) where
  inner : {B : Type 0} (below : ℕ) (next : ExpressionTree → Reader B) (after : List Text) → fits_expression tree ≡ true →
      nat_le (depth tree) below ≡ true → ends 0 (front after) ≡ true →
      and_then (expression below 0 (spell_expression tree ++ after)) next ≡ next tree after
  inner below next after fit within ended =
      then_got (expression below 0 (spell_expression tree ++ after)) next tree after
      (c.whole below 0 after fit within (at_least (rank_of tree)) ended)
    where
      at_least : (r : ℕ) → nat_le 0 r ≡ true
      at_least r = grind (arith, nat_tests)

  enclosed_complete : (below : ℕ) (make : ExpressionTree → ExpressionTree) (rest : List Text) → fits_expression tree ≡ true →
      nat_le (depth tree) below ≡ true →
      rest_of_parentheses (expression below) make ((spell_expression tree ++ codes ")" ∷ []) ++ rest) ≡ got (make tree) rest
  unfolding binary_of
  enclosed_complete below make rest fit within =
      ap (rest_of_parentheses (expression below) make) (append_assoc (spell_expression tree) (codes ")" ∷ []) rest)
      ∙ inner below (λ t. past (codes ")") (got (make t))) (codes ")" ∷ rest) fit within refl

leaf_complete_number : (digits : Text) → Complete (number digits)
leaf_complete_number digits = primary_complete (number digits) refl
    (λ below rest fit within ended. led_to below digits rest start.Number (start_number digits fit))

leaf_complete_name : (letters : Text) → Complete (name letters)
leaf_complete_name letters =
    primary_complete (name letters) refl
    (λ below rest fit within ended. led_to below letters rest start.Name (start_name letters fit)
    ∙ passed_over (is_front (codes "[") (front rest)) _ _ (not-true (is_front (codes "[") (front rest)) ended))

leaf_complete_time : (word : Text) → Complete (time word)
leaf_complete_time word =
    primary_complete (time word) refl (λ below rest fit within ended. led_to below word rest start.Time (start_time word fit))

parentheses_complete : (tree : ExpressionTree) → Complete tree → Complete (parentheses tree)
parentheses_complete tree c =
    primary_complete (parentheses tree) refl
    (λ below rest fit within ended.
    led_to below (codes "(") ((spell_expression tree ++ codes ")" ∷ []) ++ rest) (start.Round round.Parenthesis) start_parenthesis
    ∙ roomy below 1 (rest_of_parentheses (expression below) parentheses) (codes "(") ((spell_expression tree ++ codes ")" ∷ []) ++ rest)
    (enough tree below (upper (depth tree) below within))
    ∙ enclosed_complete tree c below parentheses rest fit (upper (depth tree) below within))

conversion_complete : (signed : Bool) (tree : ExpressionTree) → Complete tree → Complete (conversion signed tree)
conversion_complete signed tree c =
    primary_complete (conversion signed tree) refl
    (λ below rest fit within ended.
    let inside = (spell_expression tree ++ codes ")" ∷ []) ++ rest in
    led_to below (conversion_word signed) (codes "(" ∷ inside) (start.Round (round.Conversion signed)) (start_conversion signed)
    ∙ roomy below 1 (past (codes "(") (rest_of_parentheses (expression below) (conversion signed))) (conversion_word signed)
    (codes "(" ∷ inside) (enough tree below (upper (depth tree) below within))
    ∙ past_word (codes "(") (rest_of_parentheses (expression below) (conversion signed)) inside
    ∙ enclosed_complete tree c below (conversion signed) rest fit (upper (depth tree) below within))

apply_complete : (operator : UnaryOperator) (tree : ExpressionTree) → Complete tree → Complete (apply operator tree)
apply_complete operator tree c =
    primary_complete (apply operator tree) refl
    (λ below rest fit within ended.
    led_to below (unary_word operator) (spell_expression tree ++ rest) (start.Round (round.Operator operator)) (start_operator operator)
    ∙ roomy below 1 (λ words. and_then (expression below unary_rank words) (λ t. got (apply operator t))) (unary_word operator)
    (spell_expression tree ++ rest)
    (enough tree below (upper (depth tree) below within))
    ∙ then_got (expression below unary_rank (spell_expression tree ++ rest)) (λ t. got (apply operator t)) tree rest
    (c.whole below unary_rank rest (and_right (nat_le unary_rank (rank_of tree)) (fits_expression tree) fit)
    (upper (depth tree) below within)
    (and_left (nat_le unary_rank (rank_of tree)) (fits_expression tree) fit) (unary_ends (front rest) ended)))

-- selects

selected_to : (below : ℕ) (letters : Text) (after : List Text) → is_name letters ≡ true → nat_le 1 below ≡ true →
    primary below (expression below) (letters ∷ codes "[" ∷ after) ≡ rest_of_select (expression below) letters after
selected_to below letters after is e =
    led_to below letters (codes "[" ∷ after) start.Name (start_name letters is)
    ∙ roomy below 1 (rest_of_select (expression below) letters) (codes "[") after e

bit_complete : (letters : Text) (tree : ExpressionTree) → Complete tree → Complete (bit letters tree)
unfolding binary_of
bit_complete letters tree c =
    primary_complete (bit letters tree) refl
    (λ below rest fit within ended.
    selected_to below letters ((spell_expression tree ++ codes "]" ∷ []) ++ rest)
    (and_left (is_name letters) (fits_expression tree) fit) (enough tree below (upper (depth tree) below within))
    ∙ ap (rest_of_select (expression below) letters) (append_assoc (spell_expression tree) (codes "]" ∷ []) rest)
    ∙ inner tree c below (λ index. by_word (index_lead (expression below) letters index)) (codes "]" ∷ rest)
    (and_right (is_name letters) (fits_expression tree) fit)
    (upper (depth tree) below within) refl)

part_complete : (letters : Text) (left right : ExpressionTree) → Complete left → Complete right → Complete (part letters left right)
unfolding binary_of
part_complete letters left right c d =
    primary_complete (part letters left right) refl
    (λ below rest fit within ended.
    let fits_left = and_left (is_name letters && fits_expression left) (fits_expression right) fit in
    let left_within = upper_left (depth left) (depth right) below within in
    let behind : List Text = codes ":" ∷ (spell_expression right ++ codes "]" ∷ []) in
    selected_to below letters ((spell_expression left ++ behind) ++ rest) (and_left (is_name letters) (fits_expression left) fits_left)
    (enough left below left_within)
    ∙ ap (rest_of_select (expression below) letters) (append_assoc (spell_expression left) behind rest)
    ∙ inner left c below (λ index. by_word (index_lead (expression below) letters index)) (behind ++ rest)
    (and_right (is_name letters) (fits_expression left) fits_left) left_within refl
    ∙ ap (part_of (expression below) letters left) (append_assoc (spell_expression right) (codes "]" ∷ []) rest)
    ∙ inner right d below (λ t. past (codes "]") (got (part letters left t))) (codes "]" ∷ rest)
    (and_right (is_name letters && fits_expression left) (fits_expression right) fit)
    (upper_right (depth left) (depth right) below within) refl)

-- lists

abbrev pub listed : ExpressionTrees → List ExpressionTree
listed none = []
listed (first one more) = one ∷ listed more

trees_listed : (trees : ExpressionTrees) → trees_in (listed trees) ≡ trees
trees_listed none = refl
trees_listed (first one more) = ap (first one) (trees_listed more)

abbrev Each : ExpressionTrees → Type 0
Each none = Unit {0}
Each (first one more) = Complete one × Each more

parts_end : (next : Option Text) → ends_parts next ≡ true → is_front (codes ",") next ≡ false
parts_end next e = not-true (is_front (codes ",") next) (and_right (ends 0 next) (not (is_front (codes ",") next)) e)

-- what follows a part ends it: a comma, or what ends them all
more_ended : (trees : ExpressionTrees) (rest : List Text) → ends 0 (front rest) ≡ true →
    ends 0 (front (spell_more_parts trees ++ rest)) ≡ true
unfolding binary_of
more_ended none rest e = e
more_ended (first one more) rest e = refl

more_complete : (below : ℕ) → nat_le 1 below ≡ true → (trees : ExpressionTrees) → Each trees →
    (so_far : List ExpressionTree) (rest : List Text) → fits_parts trees ≡ true →
    nat_le (greatest_depth trees) below ≡ true → ends_parts (front rest) ≡ true →
    turns (one_more (expression below)) (is_front (codes ",")) so_far (spell_more_parts trees ++ rest) ≡ got (so_far ++ listed trees) rest
more_complete below e none each so_far rest fit within ended =
    turns_end (one_more (expression below)) (is_front (codes ",")) (more_eats (expression below) (below_rule below e)) so_far rest
    (parts_end (front rest) ended)
    ∙ ap (λ ts. got ts rest) (sym (append-nil so_far))
more_complete below e (first one more) each so_far rest fit within ended =
    let after : List Text = spell_more_parts more ++ rest in
    let eats = more_eats (expression below) (below_rule below e) in
    let here = and_left (fits_expression one) (fits_parts more) fit in
    ap (turns (one_more (expression below)) (is_front (codes ",")) so_far)
    (ap (λ ws. codes "," ∷ ws) (append_assoc (spell_expression one) (spell_more_parts more) rest))
    ∙ turns_on (one_more (expression below)) (is_front (codes ",")) eats so_far (codes "," ∷ (spell_expression one ++ after)) refl
    ∙ then_got (one_more (expression below) so_far (codes "," ∷ (spell_expression one ++ after)))
    (turns (one_more (expression below)) (is_front (codes ","))) (so_far ++ one ∷ []) after
    (inner one each.0 below (λ tree. got (so_far ++ tree ∷ [])) after here (left_of (depth one) (greatest_depth more) below within)
    (more_ended more rest (and_left (ends 0 (front rest)) (not (is_front (codes ",") (front rest))) ended)))
    ∙ more_complete below e more each.1 (so_far ++ one ∷ []) rest (and_right (fits_expression one) (fits_parts more) fit)
    (right_of (depth one) (greatest_depth more) below within) ended
    ∙ ap (λ ts. got ts rest) (append_assoc so_far (one ∷ []) (listed more))

-- the first part is read, and what follows it by the next reader
first_complete : {B : Type 0} (below : ℕ) (next : ExpressionTree → Reader B) (one : ExpressionTree) (more : ExpressionTrees) →
    Complete one → (rest : List Text) →
    fits_expression one ≡ true → nat_le (depth one) below ≡ true → ends 0 (front rest) ≡ true →
    and_then (expression below 0 (spell_parts (first one more) ++ rest)) next ≡ next one (spell_more_parts more ++ rest)
first_complete below next one more c rest fit within ended =
    ap (λ ws. and_then (expression below 0 ws) next) (append_assoc (spell_expression one) (spell_more_parts more) rest)
    ∙ inner one c below next (spell_more_parts more ++ rest) fit within (more_ended more rest ended)

concatenation_complete : (trees : ExpressionTrees) → Each trees → Complete (concatenation trees)
unfolding binary_of
concatenation_complete none each = primary_complete (concatenation none) refl
    (λ below rest fit within ended. let clash : false ≡ true = fit in absurd cc)
concatenation_complete (first one more) each =
    primary_complete (concatenation (first one more)) refl
    (λ below rest fit within ended.
    let after : List Text = codes "}" ∷ rest in
    let inside = upper (greatest_depth (first one more)) below within in
    let one_within = left_of (depth one) (greatest_depth more) below inside in
    let level = enough one below one_within in
    led_to below (codes "{") ((spell_parts (first one more) ++ codes "}" ∷ []) ++ rest) (start.Round round.Brace) start_brace
    ∙ roomy below 1 (braces (expression below)) (codes "{") ((spell_parts (first one more) ++ codes "}" ∷ []) ++ rest) level
    ∙ ap (braces (expression below)) (append_assoc (spell_parts (first one more)) (codes "}" ∷ []) rest)
    ∙ first_complete below (λ tree. choose (is_front (codes "{")) (rest_of_replication (expression below) tree)
    (rest_of_concatenation (expression below) tree)) one more each.0 after
    (and_left (fits_expression one) (fits_parts more) fit) one_within refl
    ∙ passed_over (is_front (codes "{") (front (spell_more_parts more ++ after))) _ _ (no_brace more rest)
    ∙ then_got (turns (one_more (expression below)) (is_front (codes ",")) (one ∷ []) (spell_more_parts more ++ after))
    (λ trees. past (codes "}") (got (concatenation (trees_in trees)))) (one ∷ listed more) after
    (more_complete below level more each.1 (one ∷ []) after (and_right (fits_expression one) (fits_parts more) fit)
    (right_of (depth one) (greatest_depth more) below inside) refl)
    ∙ ap (λ ts. got (concatenation (first one ts)) rest) (trees_listed more))
  where
    no_brace : (trees : ExpressionTrees) (rest : List Text) → is_front
        (codes "{") (front (spell_more_parts trees ++ codes "}" ∷ rest)) ≡ false
    no_brace none rest = refl
    no_brace (first one more) rest = refl

replication_complete : (count : ExpressionTree) (trees : ExpressionTrees) → Complete count → Each trees → Complete (replication count trees)
unfolding binary_of
replication_complete count none c each =
    primary_complete (replication count none) refl
    (λ below rest fit within ended.
    let clash : false ≡ true = and_right (fits_expression count) false
    (and_left (fits_expression count && false) true fit) in absurd cc)
replication_complete count (first one more) c each =
    primary_complete (replication count (first one more)) refl
    (λ below rest fit within ended.
    let ending : List Text = codes "}" ∷ codes "}" ∷ [] in
    let after : List Text = ending ++ rest in
    let behind : List Text = codes "{" ∷ (spell_parts (first one more) ++ ending) in
    let count_within = upper_left (depth count) (greatest_depth (first one more)) below within in
    let inside = upper_right (depth count) (greatest_depth (first one more)) below within in
    let one_within = left_of (depth one) (greatest_depth more) below inside in
    let level = enough one below one_within in
    let fits_count = and_left (fits_expression count) true (and_left (fits_expression count && true)
    (fits_parts (first one more)) fit) in
    let fits_all = and_right (fits_expression count && true) (fits_parts (first one more)) fit in
    led_to below (codes "{") ((spell_expression count ++ behind) ++ rest) (start.Round round.Brace) start_brace
    ∙ roomy below 1 (braces (expression below)) (codes "{") ((spell_expression count ++ behind) ++ rest) level
    ∙ ap (braces (expression below)) (append_assoc (spell_expression count) behind rest)
    ∙ inner count c below (λ tree. choose (is_front (codes "{")) (rest_of_replication (expression below) tree) (rest_of_concatenation (expression below) tree))
    (behind ++ rest) fits_count count_within refl
    ∙ ap (λ ws. and_then (parts (expression below) ws) (λ trees. past (codes "}") (past (codes "}")
    (got (replication count (trees_in trees)))))) (append_assoc (spell_parts (first one more)) ending rest)
    ∙ then_got (parts (expression below) (spell_parts (first one more) ++ after)) (λ trees. past (codes "}") (past (codes "}")
    (got (replication count (trees_in trees))))) (one ∷ listed more) after
    (first_complete below (λ tree. turns (one_more (expression below)) (is_front (codes ",")) (tree ∷ [])) one more each.0 after
    (and_left (fits_expression one) (fits_parts more) fits_all) one_within refl
    ∙ more_complete below level more each.1 (one ∷ []) after (and_right (fits_expression one) (fits_parts more) fits_all)
    (right_of (depth one) (greatest_depth more) below inside) refl)
    ∙ ap (λ ts. got (replication count (first one ts)) rest) (trees_listed more))

-- binary operators

combine_complete : (o : BinaryOperator) (left right : ExpressionTree) → Complete left → Complete right → Complete (combine o left right)
combine_complete o left right c d = whole_of (combine o left right) (some_rank o) spine
  where
    lower_rank : (a b r : ℕ) → nat_le a b ≡ true → nat_le b r ≡ true → nat_le a r ≡ true
    lower_rank a b r e f = grind (arith, nat_tests)

    positive : (a r : ℕ) → nat_lt 0 a ≡ true → nat_le a r ≡ true → nat_lt 0 r ≡ true
    positive a r e f = grind (arith, nat_tests)

    loose : (a r : ℕ) → nat_le a r ≡ true → nat_le (suc r) a ≡ false
    loose a r e = grind (arith, nat_tests)

    next_rank : (a r : ℕ) → nat_lt a r ≡ true → nat_le (suc a) r ≡ true
    next_rank a r e = grind (arith, nat_tests)

    not_within : (n : ℕ) → nat_le (suc n) 0 ≡ false
    not_within n = grind (arith, nat_tests)

    first_within : (d c below : ℕ) → nat_le (1 + max d c) (suc below) ≡ true → nat_le d (suc below) ≡ true
    first_within d c below e = grind (arith, nat_tests)

    left_ends : (words : List Text) → nat_le (rank o) (rank_of left) ≡ true →
        ends_operators (suc (rank_of left)) (front (binary_word o ∷ words)) ≡ true
    left_ends words e =
        and_both (ends_primary (Some (binary_word o))) (not (is_joined (suc (rank_of left)) (Some (binary_word o))))
        (ap not (is_operator o).other)
        (ap not (ap (is_ranked (suc (rank_of left))) (is_operator o).found ∙ loose (rank o) (rank_of left) e))

    right_ends : (next : Option Text) → ends_operators (suc (rank o)) next ≡ true → ends (suc (rank o)) next ≡ true
    right_ends next e = and_both (ends_operators (suc (rank o)) next) (not (is_asked (suc (rank o)) next)) e
        (ap (λ b. not (b && is_front (codes "?") next)) (not_within (rank o)))

    spine : (below least : ℕ) (rest : List Text) → fits_expression (combine o left right) ≡ true →
        nat_le (depth (combine o left right)) (suc below) ≡ true → nat_le least (rank o) ≡ true →
        nat_lt 0 (rank o) ≡ true → ends_operators (suc (rank o)) (front rest) ≡ true →
        expression (suc below) least (spell_expression (combine o left right) ++ rest) ≡ onward below (expression below) least
        (combine o left right) rest
    spine below least rest fit within ranked p tight =
        let behind : List Text = spell_expression right ++ rest in
        let three = and_left ((nat_le (rank o) (rank_of left) && nat_lt (rank o) (rank_of right)) && fits_expression left)
        (fits_expression right) fit in
        let fits_right = and_right ((nat_le (rank o) (rank_of left) && nat_lt (rank o) (rank_of right)) && fits_expression left)
        (fits_expression right) fit in
        let fits_left = and_right (nat_le (rank o) (rank_of left) && nat_lt (rank o) (rank_of right)) (fits_expression left) three in
        let ranks = and_left (nat_le (rank o) (rank_of left) && nat_lt (rank o) (rank_of right)) (fits_expression left) three in
        let left_ranked = and_left (nat_le (rank o) (rank_of left)) (nat_lt (rank o) (rank_of right)) ranks in
        let right_ranked = and_right (nat_le (rank o) (rank_of left)) (nat_lt (rank o) (rank_of right)) ranks in
        let left_within = upper_left (depth left) (depth right) below within in
        let turn = operator below (expression below) least in
        let on : Reader ExpressionTree = λ words. and_then (expression below (suc (rank o)) words) (λ t. got (combine o left t)) in
        let lead_is : operator_lead below (expression below) least left (binary_word o) ≡ goes on =
        ap (operator_by below (expression below) least left) (is_operator o).found
        ∙ chosen (nat_le least (rank o)) (room below (depth left) (goes on)) refused ranked
        ∙ chosen (nat_le (depth left) below) (goes on) lower left_within in
        let turned : turn left (binary_word o ∷ behind) ≡ got (combine o left right) rest =
        ap (λ l. follow l (binary_word o) behind) lead_is
        ∙ then_got (expression below (suc (rank o)) behind) (λ t. got (combine o left t)) right rest
        (d.whole below (suc (rank o)) rest fits_right (upper_right (depth left) (depth right) below within)
        (next_rank (rank o) (rank_of right) right_ranked) (right_ends (front rest) tight)) in
        ap (expression (suc below) least) (append_assoc (spell_expression left) (binary_word o ∷ spell_expression right) rest)
        ∙ c.spine below least (binary_word o ∷ behind) fits_left (first_within (depth left) (depth right) below within)
        (lower_rank least (rank o) (rank_of left) ranked left_ranked)
        (positive (rank o) (rank_of left) p left_ranked) (left_ends behind left_ranked)
        ∙ ap (λ a. and_then a (question below (expression below) least))
        (turns_on turn (is_joined least) (operator_eats below (expression below) (below_rule below) least) left (binary_word o ∷ behind)
        (ap (is_ranked least) (is_operator o).found ∙ ranked)
        ∙ then_got (turn left (binary_word o ∷ behind)) (turns turn (is_joined least)) (combine o left right) rest turned)

-- conditionals

conditional_complete : (condition when_true when_false : ExpressionTree) → Complete condition → Complete when_true → Complete when_false →
    Complete (conditional condition when_true when_false)
unfolding binary_of
conditional_complete condition when_true when_false c t f = record {
  spine = λ below least rest fit within ranked positive tight. let clash : false ≡ true = positive in absurd cc;
  whole = whole;
}
  where
    none_least : (n : ℕ) → nat_le n 0 ≡ true → n ≡ 0
    none_least n e = grind (arith, nat_tests)

    no_level : (d : ℕ) → nat_le (1 + d) 0 ≡ false
    no_level d = grind (arith, nat_tests)

    within_condition : (a b c below : ℕ) → nat_le (1 + max a (max b c)) (suc below) ≡ true → nat_le a (suc below) ≡ true
    within_condition a b c below e = grind (arith, nat_tests)

    at_least : (r : ℕ) → nat_le 0 r ≡ true
    at_least r = grind (arith, nat_tests)

    asked_ends : (r : ℕ) (words : List Text) → ends_operators (suc r) (front (codes "?" ∷ words)) ≡ true
    asked_ends r words = refl

    by_least : (levels : ℕ) (rest : List Text) → fits_expression (conditional condition when_true when_false) ≡ true →
        nat_le (depth (conditional condition when_true when_false)) levels ≡ true →
        ends 0 (front rest) ≡ true → expression levels 0 (spell_expression (conditional condition when_true when_false) ++ rest) ≡ got
        (conditional condition when_true when_false) rest
    by_least zero rest fit within ended = absurd (clash
        (nat_le (1 + max (depth condition) (max (depth when_true) (depth when_false))) 0) within (no_level _))
    by_least (suc below) rest fit within ended =
        let otherwise : List Text = spell_expression when_false ++ rest in
        let behind : List Text = codes "?" ∷ (spell_expression when_true ++ codes ":" ∷ spell_expression when_false) in
        let three = and_left ((nat_lt 0 (rank_of condition) && fits_expression condition) && fits_expression when_true)
        (fits_expression when_false) fit in
        let fits_false = and_right ((nat_lt 0 (rank_of condition) && fits_expression condition) && fits_expression when_true)
        (fits_expression when_false) fit in
        let fits_true = and_right (nat_lt 0 (rank_of condition) && fits_expression condition) (fits_expression when_true) three in
        let two = and_left (nat_lt 0 (rank_of condition) && fits_expression condition) (fits_expression when_true) three in
        let condition_within = upper_left (depth condition) (max (depth when_true) (depth when_false)) below within in
        let branches_within = upper_right (depth condition) (max (depth when_true) (depth when_false)) below within in
        let asked : List Text = spell_expression when_true ++ codes ":" ∷ otherwise in
        let turn = operator below (expression below) 0 in
        ap (expression (suc below) 0)
        (append_assoc (spell_expression condition) behind rest
        ∙ ap (λ ws. spell_expression condition ++ codes "?" ∷ ws)
        (append_assoc (spell_expression when_true) (codes ":" ∷ spell_expression when_false) rest))
        ∙ c.spine below 0 (codes "?" ∷ asked) (and_right (nat_lt 0 (rank_of condition)) (fits_expression condition) two)
        (within_condition (depth condition) (depth when_true) (depth when_false) below within) (at_least (rank_of condition))
        (and_left (nat_lt 0 (rank_of condition)) (fits_expression condition) two)
        (asked_ends (rank_of condition) asked)
        ∙ then_got (turns turn (is_joined 0) condition (codes "?" ∷ asked)) (question below (expression below) 0) condition
        (codes "?" ∷ asked)
        (turns_end turn (is_joined 0) (operator_eats below (expression below) (below_rule below) 0) condition (codes "?" ∷ asked) refl)
        ∙ roomy below (depth condition) (branches (expression below) condition) (codes "?") asked condition_within
        ∙ inner when_true t below (λ a. past (codes ":") (λ left. and_then (expression below 0 left)
        (λ b. got (conditional condition a b)))) (codes ":" ∷ otherwise) fits_true
        (left_of (depth when_true) (depth when_false) below branches_within) refl
        ∙ inner when_false f below (λ b. got (conditional condition when_true b)) rest fits_false
        (right_of (depth when_true) (depth when_false) below branches_within) ended

    whole : (levels least : ℕ) (rest : List Text) → fits_expression (conditional condition when_true when_false) ≡ true →
        nat_le (depth (conditional condition when_true when_false)) levels ≡ true → nat_le least 0 ≡ true → ends least (front rest) ≡ true →
        expression levels least (spell_expression (conditional condition when_true when_false) ++ rest) ≡ got
        (conditional condition when_true when_false) rest
    whole levels least rest fit within ranked ended =
        let P : ℕ → Type 0 = λ n. ends n (front rest) ≡ true →
        expression levels n (spell_expression (conditional condition when_true when_false) ++ rest) ≡ got
        (conditional condition when_true when_false) rest in
        subst P (sym (none_least least ranked)) (by_least levels rest fit within) ended

mutual
  complete : (tree : ExpressionTree) → Complete tree
  complete (number digits) = leaf_complete_number digits
  complete (name letters) = leaf_complete_name letters
  complete (time word) = leaf_complete_time word
  complete (bit letters index) = bit_complete letters index (complete index)
  complete (part letters left right) = part_complete letters left right (complete left) (complete right)
  complete (parentheses inside) = parentheses_complete inside (complete inside)
  complete (concatenation trees) = concatenation_complete trees (each_complete trees)
  complete (replication count trees) = replication_complete count trees (complete count) (each_complete trees)
  complete (conversion signed operand) = conversion_complete signed operand (complete operand)
  complete (apply o operand) = apply_complete o operand (complete operand)
  complete (combine o left right) = combine_complete o left right (complete left) (complete right)
  complete (conditional condition when_true when_false) = conditional_complete condition when_true when_false (complete condition)
      (complete when_true) (complete when_false)

  each_complete : (trees : ExpressionTrees) → Each trees
  each_complete none = tt
  each_complete (first one more) = (complete one, each_complete more)

-- what a tree that fits spells is read as that tree
pub expression_complete : (tree : ExpressionTree) (levels least : ℕ) (rest : List Text) → fits_expression tree ≡ true →
    nat_le (depth tree) levels ≡ true → nat_le least (rank_of tree) ≡ true →
    ends least (front rest) ≡ true → expression levels least (spell_expression tree ++ rest) ≡ got tree rest
expression_complete tree = (complete tree).whole
