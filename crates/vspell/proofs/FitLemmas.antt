-- A tree stands, level by level, where it fits and has no more levels.
use Rattle.std.proofs.Common.{◌≡◌, ◌≢◌, ℕ, suc, ◌+◌, ◌-◌, Bool, true, false, not, List, [], ◌∷◌, Vec, Box, Global, length, nat_eq, ◌&&◌, max, nat_le, nat_lt, true≢false, refl, sym, ap, ◌∙◌, arith}
use Rattle.std.proofs.lemmas.Bool.Decides.{nat_tests}
use Rattle.vwords.specs.Words.{Text, is_name, is_number, is_time}
use Rattle.vast.specs.Expressions.{ExpressionTree, number, name, time, bit, part, parentheses, concatenation, replication, conversion, apply, combine, conditional, ExpressionTrees, none, first, rank, rank_of, unary_rank, is_some_part, fits_expression, fits_parts, depth, greatest_depth}
use Rattle.vast.specs.Modules.{fits_value}
use Rattle.vspell.specs.Within.{stands, all_stand, parts_within}
use Rattle.vast.specs.ExpressionTrees.{tree_of, trees_of}
use Rattle.vast.proofs.ExpressionLemmas.{tree_of_concatenation, tree_of_replication}
use Rattle.vast.specs.declared.expression.Expression.{Expression, Concatenation, Replication}

-- one more level
lower : (n d : ℕ) → (nat_le 1 n && nat_le d (n - 1)) ≡ nat_le (1 + d) n
lower n d = grind (arith, nat_tests)

largest : (a b n : ℕ) → (nat_le a n && nat_le b n) ≡ nat_le (max a b) n
largest a b n = grind (arith, nat_tests)

pub one_deeper : (n d : ℕ) (a f : Bool) → (nat_le 1 n && (a && (f && nat_le d (n - 1)))) ≡ ((a && f) && nat_le (1 + d) n)
one_deeper n d a f = grind (arith, nat_tests)

pub two_deeper : (n a b : ℕ) (f g h : Bool) → (nat_le 1 n && (h && ((f && nat_le a (n - 1)) && (g && nat_le b (n - 1))))) ≡ (((h && f) && g) && nat_le (1 + max a b) n)
two_deeper n a b f g h = grind (arith, nat_tests)

three_deeper : (n a b c : ℕ) (f g h k : Bool) →
    (nat_le 1 n && (k && (f && nat_le a (n - 1)) && ((g && nat_le b (n - 1)) && (h && nat_le c (n - 1))))) ≡ ((((k && f) && g) && h) && nat_le (1 + max a (max b c)) n)
three_deeper n a b c f g h k = grind (arith, nat_tests)

pub some_parts : (words : List Text) (parts : List Expression) → is_some_part (trees_of words parts) ≡ not (nat_eq (length parts) 0)
some_parts words [] = refl
some_parts words (one ∷ more) = not_empty (length more)
  where
    not_empty : (n : ℕ) → true ≡ not (nat_eq (suc n) 0)
    not_empty n = grind (arith, nat_tests)

-- nothing stands where there is no level
pub stands_nowhere : (tree : ExpressionTree) → stands 0 tree ≡ false
stands_nowhere (number digits) = refl
stands_nowhere (name letters) = refl
stands_nowhere (time word) = refl
stands_nowhere (bit letters index) = refl
stands_nowhere (part letters left right) = refl
stands_nowhere (parentheses inner) = refl
stands_nowhere (concatenation parts) = refl
stands_nowhere (replication count parts) = refl
stands_nowhere (conversion signed operand) = refl
stands_nowhere (apply operator operand) = refl
stands_nowhere (combine operator left right) = refl
stands_nowhere (conditional condition when_true when_false) = refl

pub leaf : (n : ℕ) (a : Bool) → (nat_le 1 n && a) ≡ (a && nat_le 1 n)
leaf n a = grind (arith, nat_tests)

pub bare : (n d : ℕ) (f : Bool) → (nat_le 1 n && (f && nat_le d (n - 1))) ≡ (f && nat_le (1 + d) n)
bare n d f = grind (arith, nat_tests)

pub first_deeper : (n a b : ℕ) (f g : Bool) → ((f && nat_le a n) && (g && nat_le b n)) ≡ ((f && g) && nat_le (max a b) n)
first_deeper n a b f g = grind (arith, nat_tests)

two_ranked : (n a b : ℕ) (f g h k : Bool) →
    (nat_le 1 n && ((h && k) && ((f && nat_le a (n - 1)) && (g && nat_le b (n - 1))))) ≡ ((((h && k) && f) && g) && nat_le (1 + max a b) n)
two_ranked n a b f g h k = grind (arith, nat_tests)

replicated : (n a b : ℕ) (f g h : Bool) →
    (nat_le 1 n && ((f && nat_le a (n - 1)) && (h && (g && nat_le b (n - 1))))) ≡ (((f && h) && g) && nat_le (1 + max a b) n)
replicated n a b f g h = grind (arith, nat_tests)

mutual
  pub stands_is : (n : ℕ) (tree : ExpressionTree) → stands n tree ≡ fits_value n tree
  stands_is n (number digits) = leaf n (is_number digits)
  stands_is n (name letters) = leaf n (is_name letters)
  stands_is n (time word) = leaf n (is_time word)
  stands_is n (bit letters index) =
      ap (λ b. nat_le 1 n && (is_name letters && b)) (stands_is (n - 1) index) ∙ one_deeper n (depth index) (is_name letters) (fits_expression index)
  stands_is n (part letters left right) =
      (λ i. nat_le 1 n && (is_name letters && (stands_is (n - 1) left i && stands_is (n - 1) right i)))
      ∙ two_deeper n (depth left) (depth right) (fits_expression left) (fits_expression right) (is_name letters)
  stands_is n (parentheses inner) =
      ap (λ b. nat_le 1 n && b) (stands_is (n - 1) inner) ∙ bare n (depth inner) (fits_expression inner)
  stands_is n (concatenation parts) =
      ap (λ b. nat_le 1 n && (is_some_part parts && b)) (all_stand_is (n - 1) parts)
      ∙ one_deeper n (greatest_depth parts) (is_some_part parts) (fits_parts parts)
  stands_is n (replication count parts) =
      (λ i. nat_le 1 n && (stands_is (n - 1) count i && (is_some_part parts && all_stand_is (n - 1) parts i)))
      ∙ replicated n (depth count) (greatest_depth parts) (fits_expression count) (fits_parts parts) (is_some_part parts)
  stands_is n (conversion signed operand) =
      ap (λ b. nat_le 1 n && b) (stands_is (n - 1) operand) ∙ bare n (depth operand) (fits_expression operand)
  stands_is n (apply operator operand) =
      ap (λ b. nat_le 1 n && (nat_le unary_rank (rank_of operand) && b)) (stands_is (n - 1) operand)
      ∙ one_deeper n (depth operand) (nat_le unary_rank (rank_of operand)) (fits_expression operand)
  stands_is n (combine operator left right) =
      (λ i. nat_le 1 n && ((nat_le (rank operator) (rank_of left) && nat_lt (rank operator) (rank_of right))
      && (stands_is (n - 1) left i && stands_is (n - 1) right i)))
      ∙ two_ranked n (depth left) (depth right) (fits_expression left) (fits_expression right) (nat_le (rank operator) (rank_of left))
      (nat_lt (rank operator) (rank_of right))
  stands_is n (conditional condition when_true when_false) =
      (λ i. nat_le 1 n && ((nat_lt 0 (rank_of condition) && stands_is (n - 1) condition i)
      && (stands_is (n - 1) when_true i && stands_is (n - 1) when_false i)))
      ∙ three_deeper n (depth condition) (depth when_true) (depth when_false) (fits_expression condition) (fits_expression when_true)
      (fits_expression when_false) (nat_lt 0 (rank_of condition))

  pub all_stand_is : (n : ℕ) (trees : ExpressionTrees) → all_stand n trees ≡ parts_within n trees
  all_stand_is n none = no_level n
    where
      no_level : (n : ℕ) → true ≡ nat_le 0 n
      no_level n = grind (arith, nat_tests)
  all_stand_is n (first one more) =
      (λ i. stands_is n one i && all_stand_is n more i)
      ∙ first_deeper n (depth one) (greatest_depth more) (fits_expression one) (fits_parts more)

-- what is found where both parts of a test hold, and where the first doesn't
pub goes_on : (a b : Bool) → a ≡ true → b ≡ (a && b)
goes_on true b e = refl
goes_on false b e = absurd (true≢false (sym e))

pub ends_here : (a b : Bool) → a ≡ false → a ≡ (a && b)
ends_here false b e = refl
ends_here true b e = absurd (true≢false e)

pub some_level : (n : ℕ) (b : Bool) → n ≢ 0 → b ≡ (nat_le 1 n && b)
some_level n b positive = grind (arith, nat_tests)

module _ (words : List Text) (n : ℕ) (positive : n ≢ 0) (e : Expression) where
  pub concatenation_stands : (at : ℕ) (parts : Vec Expression Global) (one two : List Expression) → e ≡ Concatenation at parts →
      one ≡ parts.items → two ≡ parts.items →
      (is_some_part (trees_of words one) && all_stand (n - 1) (trees_of words two)) ≡ stands n (tree_of words e)
  concatenation_stands at parts one two is same same_too =
      (λ i. is_some_part (trees_of words (same i)) && all_stand (n - 1) (trees_of words (same_too i)))
      ∙ some_level n (is_some_part (trees_of words parts.items) && all_stand (n - 1) (trees_of words parts.items)) positive
      ∙ sym (ap (stands n) (ap (tree_of words) is ∙ tree_of_concatenation words at parts))

  pub replication_stands : (at : ℕ) (count : Box Expression Global) (parts : Vec Expression Global) (amount : Expression) (one two : List Expression) →
      e ≡ Replication at count parts → amount ≡ count.value → one ≡ parts.items → two ≡ parts.items →
      (stands (n - 1) (tree_of words amount) && (is_some_part (trees_of words one) && all_stand (n - 1) (trees_of words two)))
      ≡ stands n (tree_of words e)
  replication_stands at count parts amount one two is counted same same_too =
      (λ i. stands (n - 1) (tree_of words (counted i)) && (is_some_part (trees_of words (same i)) && all_stand (n - 1) (trees_of words (same_too i))))
      ∙ some_level n
      (stands (n - 1) (tree_of words count.value) && (is_some_part (trees_of words parts.items) && all_stand (n - 1) (trees_of words parts.items)))
      positive
      ∙ sym (ap (stands n) (ap (tree_of words) is ∙ tree_of_replication words at count parts))
