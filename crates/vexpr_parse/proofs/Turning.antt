-- What the code's loops go on from: a turn of parts, a turn of operators, and what enters a conditional.
use Rattle.std.proofs.Common.{◌≡◌, ◌≢◌, ℕ, zero, suc, ◌+◌, ◌-◌, ◌<◌, ◌≤◌, max, nat_le, Bool, true, false, ◌&&◌, if◌then◌else◌, List, [], ◌∷◌, ◌++◌, length, drop, map, Option, None, Some, Result, refl, sym, ap, ◌∙◌, arith, subst, codes}
use Rattle.std.specs.Str.{bytes_eq}
use Rattle.std.proofs.lemmas.Bool.Decides.{nat_tests}
use Rattle.std.proofs.lemmas.List.{map-append}
use Rattle.vwords.specs.Words.{Text}
use Rattle.vast.specs.Expressions.{ExpressionTree, name, concatenation, replication, first, combine, depth, greatest_depth, rank}
use Rattle.vast.specs.ExpressionTrees.{tree_of, trees_of}
use Rattle.vast.specs.declared.expression.Expression.{Expression}
use Rattle.vwords.specs.declared.operators.BinaryOperator.{BinaryOperator}
use Rattle.basis.specs.declared.memory.OrMemory.{OrMemory}
use Rattle.basis.specs.declared.memory.OrMemory.TheVariants.{Fault, Memory}
use Rattle.vexpr_parse.specs.declared.stop.Stop.{Stop}
use Rattle.vexpr_parse.specs.declared.stop.Stop.TheVariants.{NoTree, TooDeep}
use Rattle.vexpr_parse.specs.Readers.{Answer, got, stop, Reader, front, is_front, and_then, goes, refused, lower, follow, room, past, turns}
use Rattle.vexpr_parse.specs.Words.{binary_of, is_ranked, is_joined, is_asked}
use Rattle.vexpr_parse.specs.Reading.{trees_in, one_more, rest_of_name, rest_of_concatenation, rest_of_replication, operator_by, operator, branches, question, expression_by, expression}
use Rattle.vexpr_parse.specs.declared.found.Found.{Found}
use Rattle.vexpr_parse.specs.Answers.{joining, operator_of_rank, Stops, IsMade, IsMeasured, Finds}
use Rattle.vexpr_parse.proofs.ReaderRules.{Eats, chosen, passed_over, stop_got}
use Rattle.vexpr_parse.proofs.ReaderLoops.{turns_on, turns_end}
use Rattle.vexpr_parse.proofs.ExpressionRules.{more_eats, operator_eats, expression_rule}
use Rattle.vexpr_parse.proofs.Complete.{past_word, by_level, below_rule}

-- a stop of one answer is a stop of what comes to it
pub stops_so : {A B : Type 0} (a : Answer A) (b : Answer B) (left : List Text) (e : OrMemory Stop) →
    ((why : Stop) → a ≡ stop why left → b ≡ stop why left) → Stops a left e → Stops b left e
stops_so a b left (Fault why) same s = same why s
stops_so a b left (Memory m) same s = tt

pub past_on : {A : Type 0} (text : Text) (read : Reader A) (words : List Text) → is_front text (front words) ≡ true →
    past text read words ≡ read (drop 1 words)
past_on text read [] e = let clash : false ≡ true = e in absurd cc
past_on text read (word ∷ words) e = ap (λ l. follow l word words) (chosen (bytes_eq text word) (goes read) refused e)

-- Trees round no other

pub named_alone : (below : ℕ) (letters : Text) (words : List Text) (tree : ExpressionTree) (seen : Bool) →
    seen ≡ is_front (codes "[") (front words) → seen ≡ false → tree ≡ name letters →
    rest_of_name below (expression below) letters words ≡ got tree words
named_alone below letters words tree seen is none made =
    passed_over (is_front (codes "[") (front words)) _ _ (sym is ∙ none) ∙ ap (λ t. got t words) (sym made)

pub one_level : (below : ℕ) → 1 ≤ 1 + below
one_level below = omega arith

-- Parts

no_eats : (trees : List ExpressionTree) → Eats (one_more (expression 0) trees)
unfolding expression
no_eats trees [] tree left e = absurd (stop_got e)
no_eats trees (word ∷ words) tree left e = by_test (bytes_eq (codes ",") word) e
  where
    by_test : (b : Bool) → follow (if b then goes (λ ws. and_then (expression 0 0 ws) (λ one. got (trees ++ one ∷ []))) else refused) word words
        ≡ got tree left → length left < length (word ∷ words)
    by_test true e = absurd (stop_got e)
    by_test false e = absurd (stop_got e)

parts_eat : (below : ℕ) (trees : List ExpressionTree) → Eats (one_more (expression below) trees)
parts_eat zero trees = no_eats trees
parts_eat (suc below) trees = more_eats (expression (suc below)) (expression_rule below) trees

abbrev pub part_turns : ℕ → List ExpressionTree → Reader (List ExpressionTree)
part_turns below trees = turns (one_more (expression below)) (is_front (codes ",")) trees

pub parts_on : (below : ℕ) (trees : List ExpressionTree) (words : List Text) (tree : ExpressionTree) (left : List Text) →
    is_front (codes ",") (front words) ≡ true → expression below 0 (drop 1 words) ≡ got tree left →
    part_turns below trees words ≡ part_turns below (trees ++ tree ∷ []) left
parts_on below trees words tree left here e =
    turns_on (one_more (expression below)) (is_front (codes ",")) (parts_eat below) trees words here
    ∙ ap (λ a. and_then a (part_turns below))
    (past_on (codes ",") (λ ws. and_then (expression below 0 ws) (λ one. got (trees ++ one ∷ []))) words here
    ∙ ap (λ a. and_then a (λ one. got (trees ++ one ∷ []))) e)

pub parts_stop : (below : ℕ) (trees : List ExpressionTree) (words left : List Text) (why : Stop) →
    is_front (codes ",") (front words) ≡ true → expression below 0 (drop 1 words) ≡ stop why left →
    part_turns below trees words ≡ stop why left
parts_stop below trees words left why here e =
    turns_on (one_more (expression below)) (is_front (codes ",")) (parts_eat below) trees words here
    ∙ ap (λ a. and_then a (part_turns below))
    (past_on (codes ",") (λ ws. and_then (expression below 0 ws) (λ one. got (trees ++ one ∷ []))) words here
    ∙ ap (λ a. and_then a (λ one. got (trees ++ one ∷ []))) e)

pub parts_end : (below : ℕ) (trees : List ExpressionTree) (words : List Text) → is_front (codes ",") (front words) ≡ false →
    part_turns below trees words ≡ got trees words
parts_end below trees words = turns_end (one_more (expression below)) (is_front (codes ",")) (parts_eat below) trees words

-- a part that was read leaves fewer words, the comma's too
pub part_fewer : (below : ℕ) (words between left : List Text) (tree : ExpressionTree) (seen : Bool) →
    seen ≡ is_front (codes ",") (front words) → seen ≡ true → between ≡ drop 1 words → expression below 0 between ≡ got tree left →
    length left < length words
part_fewer below words between left tree seen is here passed e =
    parts_eat below [] words (tree ∷ []) left
    (past_on (codes ",") (λ ws. and_then (expression below 0 ws) (λ one. got ([] ++ one ∷ []))) words (sym is ∙ here)
    ∙ ap (λ a. and_then a (λ one. got ([] ++ one ∷ []))) (ap (expression below 0) (sym passed) ∙ e))

-- the list that was read is that of the program's trees
pub trees_same : (text : List Text) (parts : List Expression) → trees_in (map (tree_of text) parts) ≡ trees_of text parts
trees_same text [] = refl
trees_same text (one ∷ more) = ap (first (tree_of text one)) (trees_same text more)

pub deepest_on : (text : List Text) (parts : List Expression) (part : Expression) →
    greatest_depth (trees_of text (parts ++ part ∷ [])) ≡ max (greatest_depth (trees_of text parts)) (depth (tree_of text part))
deepest_on text [] part = sides (depth (tree_of text part))
  where
    sides : (n : ℕ) → max n 0 ≡ max 0 n
    sides n = grind arith
deepest_on text (one ∷ more) part =
    ap (max (depth (tree_of text one))) (deepest_on text more part)
    ∙ regroup (depth (tree_of text one)) (greatest_depth (trees_of text more)) (depth (tree_of text part))
  where
    regroup : (a b c : ℕ) → max a (max b c) ≡ max (max a b) c
    regroup a b c = grind arith

-- Operators

pub joined_here : (least : ℕ) (words : List Text) (operator : BinaryOperator) → joining least (front words) ≡ Some operator →
    is_joined least (front words) ≡ true
joined_here least [] operator e = let clash : None ≡ Some operator = e in absurd cc
joined_here least (word ∷ words) operator e = by_operator (binary_of word) e
  where
    by_test : (b : Bool) (one : BinaryOperator) → (if b then Some one else None) ≡ Some operator → b ≡ true
    by_test true one e = refl
    by_test false one e = let clash : None ≡ Some operator = e in absurd cc

    by_operator : (o : Option BinaryOperator) → operator_of_rank least o ≡ Some operator → is_ranked least o ≡ true
    by_operator None e = let clash : None ≡ Some operator = e in absurd cc
    by_operator (Some one) e = by_test (nat_le least (rank one)) one e

pub joined_not : (least : ℕ) (words : List Text) → joining least (front words) ≡ None → is_joined least (front words) ≡ false
joined_not least [] e = refl
joined_not least (word ∷ words) e = by_operator (binary_of word) e
  where
    by_test : (b : Bool) (one : BinaryOperator) → (if b then Some one else None) ≡ None → b ≡ false
    by_test true one e = let clash : Some one ≡ None = e in absurd cc
    by_test false one e = refl

    by_operator : (o : Option BinaryOperator) → operator_of_rank least o ≡ None → is_ranked least o ≡ false
    by_operator None e = refl
    by_operator (Some one) e = by_test (nat_le least (rank one)) one e

-- Depths that the code tells

pub deepest_so : (text : List Text) (parts after : List Expression) (part : Expression) (deep largest told : ℕ) → after ≡ parts ++ part ∷ [] →
    deep ≡ greatest_depth (trees_of text parts) → told ≡ depth (tree_of text part) → largest ≡ max deep told →
    largest ≡ greatest_depth (trees_of text after)
deepest_so text parts after part deep largest told same d t l =
    l ∙ ap (λ n. max n told) d ∙ ap (max (greatest_depth (trees_of text parts))) t ∙ sym (deepest_on text parts part)
    ∙ sym (ap (λ xs. greatest_depth (trees_of text xs)) same)

pub both_within : (a b largest below : ℕ) → largest ≡ max a b → a ≤ below → b ≤ below → largest ≤ below
both_within a b largest below l p q = grind arith

-- what is read from the parts on, one more among them, is what was read before it
pub parts_pushed : (text : List Text) (below : ℕ) (parts after : List Expression) (part : Expression) (words between left : List Text)
    (seen : Bool) (all : Answer (List ExpressionTree)) →
    after ≡ parts ++ part ∷ [] → seen ≡ is_front (codes ",") (front words) → seen ≡ true → between ≡ drop 1 words →
    expression below 0 between ≡ got (tree_of text part) left → part_turns below (map (tree_of text) parts) words ≡ all →
    part_turns below (map (tree_of text) after) left ≡ all
parts_pushed text below parts after part words between left seen all same is here passed e before =
    ap (λ ts. part_turns below ts left) (ap (map (tree_of text)) same ∙ map-append (tree_of text) parts (part ∷ []))
    ∙ sym (parts_on below (map (tree_of text) parts) words (tree_of text part) left (sym is ∙ here) (ap (expression below 0) (sym passed) ∙ e))
    ∙ before

pub measured : (text : List Text) (tree : ExpressionTree) (deep levels : ℕ) (found : Found) → IsMade text tree deep found → deep ≡ depth tree → deep ≤ levels →
    IsMeasured text levels found
measured text tree deep levels found made d within = (made.1 ∙ d ∙ sym (ap depth made.0), subst (λ n. n ≤ levels) (sym made.1) within)

pub one_more_level : (a b : ℕ) → a ≤ b → 1 + a ≤ 1 + b
one_more_level a b e = omega (arith, e)

pub larger_level : (a b n : ℕ) → a ≤ n → b ≤ n → 1 + max a b ≤ 1 + n
larger_level a b n p q = both_up a b (max a b) n refl p q
  where
    both_up : (a b m n : ℕ) → m ≡ max a b → a ≤ n → b ≤ n → 1 + m ≤ 1 + n
    both_up a b m n e p q = one_more_level m n (both_within a b m n e p q)

pub both_deep : (a b c d : ℕ) → a ≡ c → b ≡ d → 1 + max a b ≡ 1 + max c d
both_deep a b c d p q = ap (λ n. 1 + max n b) p ∙ ap (λ n. 1 + max c n) q

-- What a concatenation and a replication are read as, step by step

pub joined_so : (text : List Text) (below : ℕ) (one made : ExpressionTree) (parts : List Expression) (words between left : List Text) →
    part_turns below (one ∷ []) words ≡ got (map (tree_of text) parts) between → between ≡ codes "}" ∷ left →
    made ≡ concatenation (trees_of text parts) → rest_of_concatenation (expression below) one words ≡ got made left
joined_so text below one made parts words between left e closed same =
    ap (λ a. and_then a (λ trees. past (codes "}") (got (concatenation (trees_in trees))))) (e ∙ ap (got (map (tree_of text) parts)) closed)
    ∙ past_word (codes "}") (got (concatenation (trees_in (map (tree_of text) parts)))) left
    ∙ ap (λ ts. got (concatenation ts) left) (trees_same text parts)
    ∙ ap (λ t. got t left) (sym same)

pub repeated_so : (text : List Text) (below : ℕ) (count one made : ExpressionTree) (parts : List Expression) (words ws xs ys zs left : List Text) →
    words ≡ codes "{" ∷ ws → expression below 0 ws ≡ got one xs → part_turns below (one ∷ []) xs ≡ got (map (tree_of text) parts) ys →
    ys ≡ codes "}" ∷ zs → zs ≡ codes "}" ∷ left → made ≡ replication count (trees_of text parts) →
    rest_of_replication (expression below) count words ≡ got made left
repeated_so text below count one made parts words ws xs ys zs left opened e more closed again same =
    ap (rest_of_replication (expression below) count) opened
    ∙ past_word (codes "{") (λ vs. and_then (and_then (expression below 0 vs) (λ tree. part_turns below (tree ∷ []))) ends_both) ws
    ∙ ap (λ a. and_then (and_then a (λ tree. part_turns below (tree ∷ []))) ends_both) e
    ∙ ap (λ a. and_then a ends_both) (more ∙ ap (got (map (tree_of text) parts)) closed)
    ∙ past_word (codes "}") (past (codes "}") (got (replication count (trees_in (map (tree_of text) parts))))) zs
    ∙ ap (past (codes "}") (got (replication count (trees_in (map (tree_of text) parts))))) again
    ∙ past_word (codes "}") (got (replication count (trees_in (map (tree_of text) parts)))) left
    ∙ ap (λ ts. got (replication count ts) left) (trees_same text parts)
    ∙ ap (λ t. got t left) (sym same)
  where
    ends_both : List ExpressionTree → Reader ExpressionTree
    ends_both trees = past (codes "}") (past (codes "}") (got (replication count (trees_in trees))))

-- Operators, turn after turn

abbrev pub operator_turns : ℕ → ℕ → ExpressionTree → Reader ExpressionTree
operator_turns below least left = turns (operator below (expression below) least) (is_joined least) left

operators_eat : (below least : ℕ) (left : ExpressionTree) → Eats (operator below (expression below) least left)
operators_eat below least = operator_eats below (expression below) (below_rule below) least

-- what is read from the next left side on is what was read before it
pub operators_on : (below least : ℕ) (left next : ExpressionTree) (words rest : List Text) (here : Option BinaryOperator)
    (one : BinaryOperator) (all : Answer ExpressionTree) →
    here ≡ joining least (front words) → here ≡ Some one → operator below (expression below) least left words ≡ got next rest →
    operator_turns below least left words ≡ all → operator_turns below least next rest ≡ all
operators_on below least left next words rest here one all is some e before =
    sym (turns_on (operator below (expression below) least) (is_joined least) (operators_eat below least) left words
    (joined_here least words one (sym is ∙ some))
    ∙ ap (λ a. and_then a (operator_turns below least)) e)
    ∙ before

pub operators_stop : (below least : ℕ) (left : ExpressionTree) (words rest : List Text) (one : BinaryOperator) (why : Stop) →
    joining least (front words) ≡ Some one → operator below (expression below) least left words ≡ stop why rest →
    operator_turns below least left words ≡ stop why rest
operators_stop below least left words rest one why here e =
    turns_on (operator below (expression below) least) (is_joined least) (operators_eat below least) left words
    (joined_here least words one here)
    ∙ ap (λ a. and_then a (operator_turns below least)) e

pub operators_end : (below least : ℕ) (left : ExpressionTree) (words : List Text) → joining least (front words) ≡ None →
    operator_turns below least left words ≡ got left words
operators_end below least left words none =
    turns_end (operator below (expression below) least) (is_joined least) (operators_eat below least) left words
    (joined_not least words none)

pub operator_fewer : (below least : ℕ) (left next : ExpressionTree) (words rest : List Text) →
    operator below (expression below) least left words ≡ got next rest → length rest < length words
operator_fewer below least left next words rest e = operators_eat below least left words next rest e

-- An operator that stands here, and a conditional

pub turn_enters : (below least : ℕ) (left : ExpressionTree) (words : List Text) (one : BinaryOperator) →
    joining least (front words) ≡ Some one → nat_le (depth left) below ≡ true →
    operator below (expression below) least left words
    ≡ and_then (expression below (suc (rank one)) (drop 1 words)) (λ right. got (combine one left right))
turn_enters below least left [] one e fits = let clash : None ≡ Some one = e in absurd cc
turn_enters below least left (word ∷ words) one e fits = by_operator (binary_of word) e
  where
    by_test : (b : Bool) (other : BinaryOperator) → (if b then Some other else None) ≡ Some one →
        follow (if b then room below (depth left) (goes (λ ws. and_then (expression below (suc (rank other)) ws) (λ right. got (combine other left right)))) else refused) word words
        ≡ and_then (expression below (suc (rank one)) words) (λ right. got (combine one left right))
    by_test true other e =
        let same : Some other ≡ Some one = e in
        let is : other ≡ one = cc in
        ap (λ l. follow l word words) (chosen (nat_le (depth left) below) _ lower fits)
        ∙ ap (λ o. and_then (expression below (suc (rank o)) words) (λ right. got (combine o left right))) is
    by_test false other e = let clash : None ≡ Some one = e in absurd cc

    by_operator : (o : Option BinaryOperator) → operator_of_rank least o ≡ Some one →
        follow (operator_by below (expression below) least left o) word words
        ≡ and_then (expression below (suc (rank one)) words) (λ right. got (combine one left right))
    by_operator None e = let clash : None ≡ Some one = e in absurd cc
    by_operator (Some other) e = by_test (nat_le least (rank other)) other e

pub turn_low : (below least : ℕ) (left : ExpressionTree) (words : List Text) (one : BinaryOperator) →
    joining least (front words) ≡ Some one → nat_le (depth left) below ≡ false →
    operator below (expression below) least left words ≡ stop TooDeep words
turn_low below least left [] one e fits = let clash : None ≡ Some one = e in absurd cc
turn_low below least left (word ∷ words) one e fits = by_operator (binary_of word) e
  where
    by_test : (b : Bool) (other : BinaryOperator) → (if b then Some other else None) ≡ Some one →
        follow (if b then room below (depth left) (goes (λ ws. and_then (expression below (suc (rank other)) ws) (λ right. got (combine other left right)))) else refused) word words
        ≡ stop TooDeep (word ∷ words)
    by_test true other e = ap (λ l. follow l word words) (passed_over (nat_le (depth left) below) _ lower fits)
    by_test false other e = let clash : None ≡ Some one = e in absurd cc

    by_operator : (o : Option BinaryOperator) → operator_of_rank least o ≡ Some one →
        follow (operator_by below (expression below) least left o) word words ≡ stop TooDeep (word ∷ words)
    by_operator None e = let clash : None ≡ Some one = e in absurd cc
    by_operator (Some other) e = by_test (nat_le least (rank other)) other e

-- where a conditional goes on, a word is left
asked_left : (least : ℕ) (words : List Text) → is_asked least (front words) ≡ true → 0 < length words
asked_left least [] e = none (nat_le least 0) e
  where
    none : (b : Bool) → (b && false) ≡ true → 0 < 0
    none true e = let clash : false ≡ true = e in absurd cc
    none false e = let clash : false ≡ true = e in absurd cc
asked_left least (word ∷ words) e = omega arith

pub asked_enters : (below least : ℕ) (condition : ExpressionTree) (words : List Text) → is_asked least (front words) ≡ true →
    nat_le (depth condition) below ≡ true →
    question below (expression below) least condition words ≡ branches (expression below) condition (drop 1 words)
asked_enters below least condition [] e fits = absurd (none (asked_left least [] e))
  where
    none : 0 < 0 → ⊥
    none e = omega (arith, e)
asked_enters below least condition (word ∷ words) e fits =
    chosen (is_asked least (Some word)) _ _ e
    ∙ ap (λ l. follow l word words) (chosen (is_asked least (Some word)) _ refused e ∙ chosen (nat_le (depth condition) below) _ lower fits)

pub asked_low : (below least : ℕ) (condition : ExpressionTree) (words : List Text) → is_asked least (front words) ≡ true →
    nat_le (depth condition) below ≡ false →
    question below (expression below) least condition words ≡ stop TooDeep words
asked_low below least condition [] e fits = absurd (none (asked_left least [] e))
  where
    none : 0 < 0 → ⊥
    none e = omega (arith, e)
asked_low below least condition (word ∷ words) e fits =
    chosen (is_asked least (Some word)) _ _ e
    ∙ ap (λ l. follow l word words) (chosen (is_asked least (Some word)) _ refused e ∙ passed_over (nat_le (depth condition) below) _ lower fits)

pub turn_so : (below least level : ℕ) (left right made : ExpressionTree) (words between rest : List Text) (one : BinaryOperator) →
    joining least (front words) ≡ Some one → nat_le (depth left) below ≡ true → between ≡ drop 1 words → level ≡ suc (rank one) →
    expression below level between ≡ got right rest → made ≡ combine one left right →
    operator below (expression below) least left words ≡ got made rest
turn_so below least level left right made words between rest one here fits passed same e is =
    turn_enters below least left words one here fits
    ∙ ap (λ a. and_then a (λ right. got (combine one left right)))
    (ap (expression below (suc (rank one))) (sym passed) ∙ ap (λ n. expression below n between) (sym same) ∙ e)
    ∙ ap (λ t. got t rest) (sym is)

pub low_enough : (depth deep below : ℕ) → depth ≡ deep → nat_le depth below ≡ true → nat_le deep below ≡ true
low_enough depth deep below same e = ap (λ n. nat_le n below) (sym same) ∙ e

pub le_so : (a b : ℕ) → nat_le a b ≡ true → a ≤ b
le_so a b e = grind (arith, nat_tests)

-- Levels

pub none_at_zero : (levels least : ℕ) (words : List Text) → levels ≡ 0 → expression levels least words ≡ stop NoTree words
unfolding expression
none_at_zero levels least words none = ap (λ n. expression n least words) none

-- what is read with a level less below is what is read
pub finds_up : (text : List Text) (levels least : ℕ) (words left : List Text) (result : Result Found (OrMemory Stop)) → levels ≢ 0 →
    Finds text (1 + (levels - 1)) (expression_by (levels - 1) (expression (levels - 1)) least words) left result →
    Finds text levels (expression levels least words) left result
finds_up text zero least words left result some f = absurd (some refl)
finds_up text (suc below) least words left result some f = by_lower (suc below - 1) (1 + (suc below - 1)) (omega arith) (omega arith) f
  where
    by_lower : (n up : ℕ) → n ≡ below → up ≡ suc below → Finds text up (expression_by n (expression n) least words) left result →
        Finds text (suc below) (expression (suc below) least words) left result
    by_lower n up same one f =
        subst (λ a. Finds text (suc below) a left result) (sym (by_level below least words))
        (subst (λ u. Finds text u (expression_by below (expression below) least words) left result) one
        (subst (λ m. Finds text up (expression_by m (expression m) least words) left result) same f))
