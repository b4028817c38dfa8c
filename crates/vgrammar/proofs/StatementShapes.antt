-- Statements as a shape: their words, which fit within so many levels, and where an else may follow.
use Rattle.std.proofs.Common.{◌≡◌, ℕ, suc, ◌+◌, ◌<◌, Bool, true, false, ◌&&◌, not, max, nat_le, List, [], ◌∷◌, ◌++◌, Option, length, flat_map, refl, sym, ap, ◌∙◌, arith, append_assoc, codes}
use Rattle.std.specs.List.{list_all}
use Rattle.std.proofs.lemmas.Bool.Decides.{nat_tests}
use Rattle.basis.proofs.Bools.{and_false, and_assoc}
use Rattle.vwords.specs.Words.{Text}
use Rattle.vast.specs.Expressions.{ExpressionTree, spell_expression, spell_more_parts, fits_expression, fits_parts, depth, greatest_depth}
use Rattle.vast.specs.Statements.{whole, bit, part, joined, by_number, by_name, by_value, by_event, by_any, by_any_enclosed, by_terms, print, idle, dump_file, dump_vars, dump, end_run, StatementTree, empty, block, assign, nonblocking, trigger, if_true, if_else, case_of, while_true, repeat_times, forever, for_loop, wait_for, delay, event, task, spell_condition, spell_statement, statement_depth, fits_statement, ends_in_if}
use Rattle.vexpr_parse.specs.Readers.{is_front}
use Rattle.vexpr_parse.specs.Reading.{trees_in}
use Rattle.vexpr_parse.specs.Lawful.{Ends}
use Rattle.vgrammar.specs.Statements.{ends_statement}
use Rattle.vgrammar.proofs.Phrases.{Shape}
use Rattle.vgrammar.proofs.LevelFacts.{larger_two, two_up, and_true, pair_valid, triple_valid}

abbrev pub closes_statement : StatementTree → Ends
closes_statement tree next = not (ends_in_if tree && is_front (codes "else") next)

abbrev pub statement_shape : ℕ → Shape StatementTree
statement_shape n = record {
  spell = spell_statement;
  valid = λ tree. fits_statement tree && nat_le (statement_depth tree) n;
  closes = closes_statement;
  stops = closes_statement;
}

pub statement_closed : (tree : StatementTree) (next : Option Text) → ends_statement next ≡ true → closes_statement tree next
    ≡ true
statement_closed tree next e = by_tests (ends_in_if tree) (is_front (codes "else") next) e
  where
    by_tests : (a b : Bool) → not b ≡ true → not (a && b) ≡ true
    by_tests true b e = e
    by_tests false b e = refl

-- a statement has words
pub statement_worded : (tree : StatementTree) → 0 < length (spell_statement tree)
statement_worded empty = omega arith
statement_worded (block label statements) = omega arith
statement_worded (assign (whole letters) wait right) = omega arith
statement_worded (assign (bit letters index) wait right) = omega arith
statement_worded (assign (part letters one other) wait right) = omega arith
statement_worded (assign (joined targets) wait right) = omega arith
statement_worded (nonblocking (whole letters) wait right) = omega arith
statement_worded (nonblocking (bit letters index) wait right) = omega arith
statement_worded (nonblocking (part letters one other) wait right) = omega arith
statement_worded (nonblocking (joined targets) wait right) = omega arith
statement_worded (trigger letters) = omega arith
statement_worded (if_true condition body) = omega arith
statement_worded (if_else condition body other) = omega arith
statement_worded (case_of kind value branches) = omega arith
statement_worded (while_true condition body) = omega arith
statement_worded (repeat_times count body) = omega arith
statement_worded (forever body) = omega arith
statement_worded (for_loop target right condition next next_right body) = omega arith
statement_worded (wait_for condition body) = omega arith
statement_worded (delay (by_number digits) body) = omega arith
statement_worded (delay (by_name letters) body) = omega arith
statement_worded (delay (by_value amount) body) = omega arith
statement_worded (event (by_event letters) body) = omega arith
statement_worded (event by_any body) = omega arith
statement_worded (event by_any_enclosed body) = omega arith
statement_worded (event (by_terms term more) body) = omega arith
statement_worded (task (print kind arguments)) = omega arith
statement_worded (task (idle kind arguments)) = omega arith
statement_worded (task (dump_file letters)) = omega arith
statement_worded (task (dump_vars selection)) = omega arith
statement_worded (task (dump kind)) = omega arith
statement_worded (task (end_run stops number)) = omega arith

-- a statement has a level
pub statement_deep : (tree : StatementTree) → 0 < statement_depth tree
statement_deep empty = omega arith
statement_deep (block label statements) = omega arith
statement_deep (assign target wait right) = omega arith
statement_deep (nonblocking target wait right) = omega arith
statement_deep (trigger letters) = omega arith
statement_deep (if_true condition body) = omega arith
statement_deep (if_else condition body other) = omega arith
statement_deep (case_of kind value branches) = omega arith
statement_deep (while_true condition body) = omega arith
statement_deep (repeat_times count body) = omega arith
statement_deep (forever body) = omega arith
statement_deep (for_loop target right condition next next_right body) = omega arith
statement_deep (wait_for condition body) = omega arith
statement_deep (delay amount body) = omega arith
statement_deep (event kind body) = omega arith
statement_deep (task call) = omega arith

-- words behind a condition
pub behind_condition : (tree : ExpressionTree) (words : List Text) →
    spell_condition tree ++ words ≡ codes "(" ∷ (spell_expression tree ++ codes ")" ∷ words)
behind_condition tree words = ap (λ ws. codes "(" ∷ ws) (append_assoc (spell_expression tree) (codes ")" ∷ []) words)

-- Trees that fit within a level less

pub two_valid : (f g : Bool) (c d n : ℕ) → ((f && g) && nat_le (1 + max c d) (suc n)) ≡ ((f && nat_le c n) && (g && nat_le d n))
two_valid f g c d n = ap (λ b. (f && g) && b) (two_up c d n) ∙ pair_valid f g (nat_le c n) (nat_le d n)

pub three_valid : (f g h : Bool) (b c d n : ℕ) → (((f && g) && h) && nat_le (1 + max b (max c d)) (suc n))
    ≡ ((f && nat_le b n) && ((g && nat_le c n) && (h && nat_le d n)))
three_valid f g h b c d n =
    ap (λ t. ((f && g) && h) && t) (two_up b (max c d) n ∙ ap (λ t. nat_le b n && t) (larger_two c d n))
    ∙ triple_valid f g h (nat_le b n) (nat_le c n) (nat_le d n)

-- of an if and its else; the test of the body stands behind
pub else_valid : (f e g h : Bool) (b c d n : ℕ) → ((((f && e) && g) && h) && nat_le (1 + max b (max c d)) (suc n))
    ≡ ((f && nat_le b n) && (((g && nat_le c n) && (h && nat_le d n)) && e))
else_valid f e g h b c d n =
    ap (λ t. (((f && e) && g) && h) && t) (two_up b (max c d) n ∙ ap (λ t. nat_le b n && t) (larger_two c d n))
    ∙ regroup f e g h (nat_le b n) (nat_le c n) (nat_le d n)
  where
    regroup : (f e g h p q r : Bool) → ((((f && e) && g) && h) && (p && (q && r))) ≡ ((f && p) && (((g && q) && (h && r)) && e))
    regroup false e g h p q r = refl
    regroup true false g h false q r = refl
    regroup true false g h true q r = sym (and_false ((g && q) && (h && r)))
    regroup true true g h false q r = and_false (g && h)
    regroup true true g h true q r = pair_valid g h q r ∙ sym (and_true ((g && q) && (h && r)))

-- of a for
pub for_valid : (f g h i j k : Bool) (a b c d e m n : ℕ) →
    ((((((f && g) && h) && i) && j) && k) && nat_le (1 + max (max a b) (max c (max (max d e) m))) (suc n))
    ≡ (((f && nat_le a n) && (g && nat_le b n)) &&
    ((h && nat_le c n) && (((i && nat_le d n) && (j && nat_le e n)) && (k && nat_le m n))))
for_valid f g h i j k a b c d e m n =
    ap (λ t. (((((f && g) && h) && i) && j) && k) && t) levels
    ∙ regroup (nat_le a n) (nat_le b n) (nat_le c n) (nat_le d n) (nat_le e n) (nat_le m n)
  where
    levels : nat_le (1 + max (max a b) (max c (max (max d e) m))) (suc n)
        ≡ ((nat_le a n && nat_le b n) && (nat_le c n && ((nat_le d n && nat_le e n) && nat_le m n)))
    levels =
        two_up (max a b) (max c (max (max d e) m)) n
        ∙ ap (λ t. t && nat_le (max c (max (max d e) m)) n) (larger_two a b n)
        ∙ ap (λ t. (nat_le a n && nat_le b n) && t)
        (larger_two c (max (max d e) m) n
        ∙ ap (λ t. nat_le c n && t) (larger_two (max d e) m n ∙ ap (λ t. t && nat_le m n) (larger_two d e n)))

    chain : (((((f && g) && h) && i) && j) && k) ≡ ((f && g) && (h && ((i && j) && k)))
    chain =
        and_assoc ((((f && g) && h) && i)) j k
        ∙ and_assoc ((f && g) && h) i (j && k)
        ∙ and_assoc (f && g) h (i && (j && k))
        ∙ ap (λ t. (f && g) && (h && t)) (sym (and_assoc i j k))

    regroup : (p q r s t u : Bool) → ((((((f && g) && h) && i) && j) && k) && ((p && q) && (r && ((s && t) && u))))
        ≡ (((f && p) && (g && q)) && ((h && r) && (((i && s) && (j && t)) && (k && u))))
    regroup p q r s t u =
        ap (λ x. x && ((p && q) && (r && ((s && t) && u)))) chain
        ∙ pair_valid (f && g) (h && ((i && j) && k)) (p && q) (r && ((s && t) && u))
        ∙ ap (λ x. x && ((h && ((i && j) && k)) && (r && ((s && t) && u)))) (pair_valid f g p q)
        ∙ ap (λ x. ((f && p) && (g && q)) && x)
        (pair_valid h ((i && j) && k) r ((s && t) && u)
        ∙ ap (λ x. (h && r) && x) (pair_valid (i && j) k (s && t) u ∙ ap (λ x. x && (k && u)) (pair_valid i j s t)))

-- all of a list
pub all_within : {A : Type 0} (fits : A → Bool) (deep : A → ℕ) (all : List A → Bool) (most : List A → ℕ) → all [] ≡ true →
    most [] ≡ 0 →
    ((tree : A) (more : List A) → all (tree ∷ more) ≡ (fits tree && all more)) →
    ((tree : A) (more : List A) → most (tree ∷ more) ≡ max (deep tree) (most more)) →
    (n : ℕ) (list : List A) → (all list && nat_le (most list) n) ≡ list_all (λ tree. fits tree && nat_le (deep tree) n) list
all_within fits deep all most no_tree no_depth one one_deep n [] =
    ap (λ b. b && nat_le (most []) n) no_tree ∙ ap (λ d. nat_le d n) no_depth ∙ no_deeper n
  where
    no_deeper : (n : ℕ) → nat_le 0 n ≡ true
    no_deeper n = grind (arith, nat_tests)
all_within fits deep all most no_tree no_depth one one_deep n (tree ∷ more) =
    ap (λ b. b && nat_le (most (tree ∷ more)) n) (one tree more)
    ∙ ap (λ d. (fits tree && all more) && nat_le d n) (one_deep tree more)
    ∙ ap (λ b. (fits tree && all more) && b) (larger_two (deep tree) (most more) n)
    ∙ pair_valid (fits tree) (all more) (nat_le (deep tree) n) (nat_le (most more) n)
    ∙ ap (λ b. (fits tree && nat_le (deep tree) n) && b) (all_within fits deep all most no_tree no_depth one one_deep n more)

-- the parts of a list of expressions
pub parts_spelled : (list : List ExpressionTree) →
    spell_more_parts (trees_in list) ≡ flat_map (λ tree. codes "," ∷ spell_expression tree) list
parts_spelled [] = refl
parts_spelled (tree ∷ more) = ap (λ ws. codes "," ∷ (spell_expression tree ++ ws)) (parts_spelled more)

pub parts_within : (n : ℕ) (list : List ExpressionTree) →
    (fits_parts (trees_in list) && nat_le (greatest_depth (trees_in list)) n)
    ≡ list_all (λ tree. fits_expression tree && nat_le (depth tree) n) list
parts_within = all_within fits_expression depth (λ list. fits_parts (trees_in list))
    (λ list. greatest_depth (trees_in list)) refl refl
    (λ tree more. refl) (λ tree more. refl)
