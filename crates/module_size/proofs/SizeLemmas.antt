-- What is left behind lists, and behind the trees whose parts stand in a list.
use Rattle.std.proofs.Common.{◌≡◌, ◌<◌, ℕ, ◌+◌, ◌-◌, ◌^◌, min, List, ◌∷◌, length, drop, get_or, Vec, Global, Box, refl, sym, ap, ◌∙◌, arith, Option}
use Rattle.std.specs.Option.{option_map}
use Rattle.basis.proofs.Lists.{left_from}
use Rattle.vwords.specs.Words.{Text}
use Rattle.vast.specs.NumberedWords.{word_of}
use Rattle.vast.specs.NumberedStatements.{StatementTree, empty, block, assign, nonblocking, trigger, if_true, if_else, case_of, while_true, repeat_times, forever, for_loop, wait_for, delay, event, task}
use Rattle.vast.specs.NumberedTrees.{tree_of, trees_of, target_tree, target_trees, statement_tree, statement_trees, branch_trees}
use Rattle.vast.specs.declared.expression.Expression.{Expression, Concatenation, Replication}
use Rattle.vast.specs.declared.statement.Target.{Target, Joined}
use Rattle.vwords.specs.declared.cases.CaseKind.{CaseKind}
use Rattle.vast.specs.declared.statement.Branch.{Branch}
use Rattle.vast.specs.declared.statement.Statement.{Statement, Block, Case}
use Rattle.vast.proofs.ToldTrees.{told_concatenation, told_replication, told_joined, told_block, told_case}
use Rattle.module_size.specs.Sizes.{expression_size, expressions_size, target_size, targets_size, size_inside, statement_size, statements_size, branches_size}
use Rattle.module_size.specs.Inner.{own_size, inner_size}
use Rattle.module_size.proofs.PathLemmas.{saturated, statements_same}
use Rattle.vast.specs.declared.token.Token.{Token}

-- a loop over a list: what this one leaves, the others take from
pub taken : {A : Type 0} (xs : List A) (i : ℕ) (x : A) → i < length xs → x ≡ get_or xs i x → (F : List A → ℕ) (size : A → ℕ) → ((y : A) (ys : List A) → F (y ∷ ys) ≡ size y + F ys) →
    (left next whole : ℕ) → next ≡ left - size x → left - F (drop i xs) ≡ whole → next - F (drop (i + 1) xs) ≡ whole
taken xs i x within is F size splits left next whole put same =
    let opened : F (drop i xs) ≡ size x + F (drop (i + 1) xs) = ap F (sym (left_from xs i x is within)) ∙ splits x (drop (i + 1) xs) in
    omega (arith, put, same, opened)

-- three, one after another
pub in_turn : (left a b result x y z : ℕ) → a ≡ left - x → b ≡ a - y → result ≡ b - z → result ≡ left - (x + (y + z))
in_turn left a b result x y z f g h = omega (arith, f, g, h)

module _ (words : List Text) (left result : ℕ) where
  pub concatenation_left : (e : Expression) (at : ℕ) (parts : Vec Expression Global) (items : List Expression) → e ≡ Concatenation at parts → items ≡ parts.items →
      result ≡ (left - 1) - expressions_size (trees_of words items) → result ≡ left - expression_size (tree_of words e)
  concatenation_left e at parts items is same h =
      let size : expression_size (tree_of words e) ≡ 1 + expressions_size (trees_of words items) =
      ap expression_size (ap (tree_of words) is ∙ told_concatenation (word_of words) at parts) ∙ ap (λ (xs : List Expression). 1 + expressions_size (trees_of words xs)) (sym same) in
      omega (arith, h, size)

  pub replication_left : (e : Expression) (at : ℕ) (count : Box Expression Global) (parts : Vec Expression Global) (amount : Expression) (items : List Expression) (between : ℕ) →
      e ≡ Replication at count parts → amount ≡ count.value → items ≡ parts.items →
      between ≡ (left - 1) - expression_size (tree_of words amount) → result ≡ between - expressions_size (trees_of words items) → result ≡ left - expression_size (tree_of words e)
  replication_left e at count parts amount items between is counted same h g =
      let size : expression_size (tree_of words e) ≡ 1 + (expression_size (tree_of words amount) + expressions_size (trees_of words items)) =
      ap expression_size (ap (tree_of words) is ∙ told_replication (word_of words) at count parts)
      ∙ (λ i. 1 + (expression_size (tree_of words (sym counted i)) + expressions_size (trees_of words (sym same i)))) in
      omega (arith, h, g, size)

  pub joined_left : (t : Target) (at : ℕ) (targets : Vec Target Global) (items : List Target) (between : ℕ) → t ≡ Joined at targets → items ≡ targets.items →
      between ≡ left - 1 → result ≡ between - targets_size (target_trees words items) → result ≡ left - target_size (target_tree words t)
  joined_left t at targets items between is same g h =
      let size : target_size (target_tree words t) ≡ 1 + targets_size (target_trees words items) =
      ap target_size (ap (target_tree words) is ∙ told_joined (word_of words) at targets) ∙ ap (λ (ts : List Target). 1 + targets_size (target_trees words ts)) (sym same) in
      omega (arith, g, h, size)

  pub block_left : (path inner : ℕ) (s : Statement) (label : Option Token) (list : Vec Statement Global) (items : List Statement) → s ≡ Block label list → items ≡ list.items →
      left < 2 ^ 64 → inner ≡ min (size_inside path (option_map (word_of words) label)) (2 ^ 64 - 1) →
      result ≡ left - statements_size inner (statement_trees words items) → result ≡ left - inner_size path (statement_tree words s)
  block_left path inner s label list items is same small counted h =
      let whole : ℕ = size_inside path (option_map (word_of words) label) in
      let size : inner_size path (statement_tree words s) ≡ statements_size whole (statement_trees words items) =
      ap (inner_size path) (ap (statement_tree words) is ∙ told_block (word_of words) label list) ∙ ap (λ (ss : List Statement). statements_size whole (statement_trees words ss)) (sym same) in
      let alike : left - statements_size inner (statement_trees words items) ≡ left - statements_size whole (statement_trees words items) =
      statements_same left inner whole (saturated left inner whole small counted) (statement_trees words items) left (omega arith) in
      omega (arith, h, size, alike)

  pub case_left : (path : ℕ) (s : Statement) (at : ℕ) (kind : CaseKind) (value : Box Expression Global) (branches : Vec Branch Global) (items : List Branch) →
      s ≡ Case at kind value branches → items ≡ branches.items →
      result ≡ left - branches_size path (branch_trees words items) → result ≡ left - inner_size path (statement_tree words s)
  case_left path s at kind value branches items is same h =
      let size : inner_size path (statement_tree words s) ≡ branches_size path (branch_trees words items) =
      ap (inner_size path) (ap (statement_tree words) is ∙ told_case (word_of words) at kind value branches)
      ∙ ap (λ (bs : List Branch). branches_size path (branch_trees words bs)) (sym same) in
      omega (arith, h, size)

  pub case_value_left : (path : ℕ) (s : Statement) (at : ℕ) (kind : CaseKind) (value : Box Expression Global) (branches : Vec Branch Global) (amount : Expression) →
      s ≡ Case at kind value branches → amount ≡ value.value →
      result ≡ left - expression_size (tree_of words amount) → result ≡ left - own_size path (statement_tree words s)
  case_value_left path s at kind value branches amount is counted h =
      let size : own_size path (statement_tree words s) ≡ expression_size (tree_of words amount) =
      ap (own_size path) (ap (statement_tree words) is ∙ told_case (word_of words) at kind value branches)
      ∙ ap (λ (e : Expression). expression_size (tree_of words e)) (sym counted) in
      omega (arith, h, size)

-- a statement is itself, and then the statements in it
both_sizes : (path : ℕ) (s : StatementTree) → 1 + (own_size path s + inner_size path s) ≡ statement_size path s
both_sizes path empty = refl
both_sizes path (block label list) = omega arith
both_sizes path (assign target amount value) = omega arith
both_sizes path (nonblocking target amount value) = omega arith
both_sizes path (trigger letters) = refl
both_sizes path (if_true condition body) = refl
both_sizes path (if_else condition body other) = refl
both_sizes path (case_of kind value branches) = refl
both_sizes path (while_true condition body) = refl
both_sizes path (repeat_times count body) = refl
both_sizes path (forever body) = omega arith
both_sizes path (for_loop target value condition next_target next_value body) = omega arith
both_sizes path (wait_for condition body) = refl
both_sizes path (delay amount body) = refl
both_sizes path (event control body) = refl
both_sizes path (task call) = omega arith

pub both_left : (path : ℕ) (s : StatementTree) (left between result : ℕ) → between ≡ (left - 1) - own_size path s → result ≡ between - inner_size path s →
    result ≡ left - statement_size path s
both_left path s left between result h g = let parts = both_sizes path s in omega (arith, h, g, parts)
