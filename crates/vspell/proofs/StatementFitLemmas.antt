-- A statement stands, level by level, where it fits and has no more levels.
use Rattle.std.proofs.Common.{◌≡◌, ◌≢◌, ℕ, suc, ◌+◌, ◌-◌, Bool, true, false, not, List, [], ◌∷◌, Vec, Box, Global, length, map, nat_eq, ◌&&◌, max, nat_le, refl, sym, ap, ◌∙◌, arith, Option}
use Rattle.std.specs.List.{list_all}
use Rattle.std.proofs.lemmas.Bool.Decides.{nat_tests}
use Rattle.std.proofs.Math.Bool.{and-true}
use Rattle.vwords.specs.Words.{Text, is_name}
use Rattle.vast.specs.Expressions.{fits_expression, depth, fits_parts, greatest_depth, is_some_part}
use Rattle.vast.specs.Statements.{TargetTree, whole, bit, part, joined, TargetTrees, none, first, target_depth, greatest_target_depth, fits_target, fits_targets, is_some_target, fits_delay, delay_depth, fits_optional_delay, optional_delay_depth, fits_event, event_depth, ArgumentTree, argument_depth, arguments_depth, fits_argument, fits_print, fits_task, task_depth, StatementTree, empty, block, assign, nonblocking, trigger, if_true, if_else, case_of, while_true, repeat_times, forever, for_loop, wait_for, delay, event, task, StatementTrees, no_statement, first_statement, BranchTree, labelled, default, BranchTrees, no_branch, first_branch, ends_in_if, is_some_branch, defaults, fits_statement, fits_statements, statement_depth, statements_depth, fits_branch, branch_depth, fits_branches, branches_depth, fits_block_name}
use Rattle.vast.specs.StatementTrees.{argument_tree, task_tree, target_tree, target_trees, statement_tree, statement_trees, branch_trees}
use Rattle.vast.specs.ExpressionTrees.{tree_of, boxed_tree}
use Rattle.vast.specs.Modules.{fits_value, fits_body}
use Rattle.vspell.specs.Within.{target_stands, targets_stand, target_within, argument_within, arguments_within, task_within, case_within, setting_within, assignment_within, statement_stands, statements_stand, branch_stands, branches_stand, own_parts_stand, inner_stands}
use Rattle.vast.specs.declared.expression.Expression.{Expression}
use Rattle.vwords.specs.declared.cases.CaseKind.{CaseKind}
use Rattle.vast.specs.declared.statement.Printing.{Printing}
use Rattle.vast.specs.declared.statement.Idle.{Idle}
use Rattle.vast.specs.declared.statement.Argument.{Argument}
use Rattle.vast.specs.declared.statement.Task.{Task}
use Rattle.vast.specs.declared.statement.Task.TheVariants.{Print}
use Rattle.vast.specs.declared.statement.Task.TheVariants as tasks
use Rattle.vast.specs.declared.statement.Branch.{Branch}
use Rattle.vast.specs.declared.statement.Statement.{Statement, Block, Case}
use Rattle.vast.specs.declared.statement.Target.{Target, Joined}
use Rattle.vast.specs.TokenTexts.{token_text}
use Rattle.vast.proofs.ToldTrees.{told_joined}
use Rattle.vast.proofs.WholeTreeLemmas.{tree_of_whole_block, tree_of_case}
use Rattle.vspell.proofs.FitLemmas.{leaf, bare, one_deeper, two_deeper, first_deeper, some_level}
use Rattle.std.specs.Option.{option_map}
use Rattle.vast.specs.declared.token.Token.{Token}

pub target_nowhere : (tree : TargetTree) → target_stands 0 tree ≡ false
target_nowhere (whole letters) = refl
target_nowhere (bit letters index) = refl
target_nowhere (part letters left right) = refl
target_nowhere (joined targets) = refl

at_least : (n : ℕ) → true ≡ nat_le 0 n
at_least n = grind (arith, nat_tests)

mutual
  pub target_stands_is : (n : ℕ) (tree : TargetTree) → target_stands n tree ≡ target_within n tree
  target_stands_is n (whole letters) = leaf n (is_name letters)
  target_stands_is n (bit letters index) = one_deeper n (depth index) (is_name letters) (fits_expression index)
  target_stands_is n (part letters left right) =
      two_deeper n (depth left) (depth right) (fits_expression left) (fits_expression right) (is_name letters)
  target_stands_is n (joined targets) =
      ap (λ b. nat_le 1 n && (is_some_target targets && b)) (targets_stand_is (n - 1) targets)
      ∙ one_deeper n (greatest_target_depth targets) (is_some_target targets) (fits_targets targets)

  targets_stand_is : (n : ℕ) (trees : TargetTrees) → targets_stand n trees ≡ (fits_targets trees && nat_le (greatest_target_depth trees) n)
  targets_stand_is n none = at_least n
  targets_stand_is n (first one more) =
      (λ i. target_stands_is n one i && targets_stand_is n more i)
      ∙ first_deeper n (target_depth one) (greatest_target_depth more) (fits_target one) (fits_targets more)

pub arguments_are : (n : ℕ) (arguments : List ArgumentTree) → list_all (argument_within n) arguments ≡ arguments_within n arguments
arguments_are n [] = at_least n
arguments_are n (one ∷ more) =
    ap (λ b. argument_within n one && b) (arguments_are n more)
    ∙ first_deeper n (argument_depth one) (arguments_depth more) (fits_argument one) (list_all fits_argument more)

pub stands_nowhere : (tree : StatementTree) → statement_stands 0 tree ≡ false
stands_nowhere empty = refl
stands_nowhere (block label statements) = refl
stands_nowhere (assign target amount value) = refl
stands_nowhere (nonblocking target amount value) = refl
stands_nowhere (trigger letters) = refl
stands_nowhere (if_true condition body) = refl
stands_nowhere (if_else condition body other) = refl
stands_nowhere (case_of kind value branches) = refl
stands_nowhere (while_true condition body) = refl
stands_nowhere (repeat_times count body) = refl
stands_nowhere (forever body) = refl
stands_nowhere (for_loop target value condition next_target next_value body) = refl
stands_nowhere (wait_for condition body) = refl
stands_nowhere (delay amount body) = refl
stands_nowhere (event control body) = refl
stands_nowhere (task call) = refl

name_last : (n : ℕ) (a : Bool) → (nat_le 2 n && a) ≡ (a && nat_le 2 n)
name_last n a = grind (arith, nat_tests)

assigned : (n a b c : ℕ) (f g h : Bool) →
    (nat_le 1 n && (((f && nat_le a (n - 1)) && (g && nat_le b (n - 1))) && (h && nat_le c (n - 1)))) ≡ (((f && g) && h) && nat_le (1 + max a (max b c)) n)
assigned n a b c f g h = grind (arith, nat_tests)

chosen : (n a b c : ℕ) (f e g h : Bool) →
    (nat_le 1 n && ((f && nat_le a (n - 1)) && ((g && nat_le b (n - 1)) && (e && (h && nat_le c (n - 1))))))
    ≡ ((((f && e) && g) && h) && nat_le (1 + max a (max b c)) n)
chosen n a b c f e g h = grind (arith, nat_tests)

cased : (n a b : ℕ) (f s o g : Bool) →
    (nat_le 1 n && (((f && nat_le a (n - 1)) && (s && o)) && (g && nat_le b (n - 1)))) ≡ ((((f && s) && o) && g) && nat_le (1 + max a b) n)
cased n a b f s o g = grind (arith, nat_tests)

labels_first : (n a b : ℕ) (s f g : Bool) → (s && ((f && nat_le a n) && (g && nat_le b n))) ≡ (((s && f) && g) && nat_le (max a b) n)
labels_first n a b s f g = grind (arith, nat_tests)

and_assoc : (a b c : Bool) → (a && (b && c)) ≡ ((a && b) && c)
and_assoc true b c = refl
and_assoc false b c = refl

-- what stands before a body, and the body
around : (n a b : ℕ) (f g : Bool) → (nat_le 1 n && ((f && nat_le a (n - 1)) && (g && nat_le b (n - 1)))) ≡ ((f && g) && nat_le (1 + max a b) n)
around n a b f g = ap (λ x. nat_le 1 n && x) (first_deeper (n - 1) a b f g) ∙ bare n (max a b) (f && g)

counted : (n a b c d e m : ℕ) (f g h k l o : Bool) →
    (nat_le 1 n && (((f && nat_le a (n - 1)) && (g && nat_le b (n - 1))) && ((h && nat_le c (n - 1))
    && (((k && nat_le d (n - 1)) && (l && nat_le e (n - 1))) && (o && nat_le m (n - 1))))))
    ≡ ((((((f && g) && h) && k) && l) && o) && nat_le (1 + max (max a b) (max c (max (max d e) m))) n)
counted n a b c d e m f g h k l o =
    (λ i. nat_le 1 n && (first_deeper (n - 1) a b f g i && ((h && nat_le c (n - 1)) && (first_deeper (n - 1) d e k l i && (o && nat_le m (n - 1))))))
    ∙ ap (λ x. nat_le 1 n && (((f && g) && nat_le (max a b) (n - 1)) && ((h && nat_le c (n - 1)) && x))) (first_deeper (n - 1) (max d e) m (k && l) o)
    ∙ ap (λ x. nat_le 1 n && (((f && g) && nat_le (max a b) (n - 1)) && x)) (first_deeper (n - 1) c (max (max d e) m) h ((k && l) && o))
    ∙ around n (max a b) (max c (max (max d e) m)) (f && g) (h && ((k && l) && o))
    ∙ ap (λ x. x && nat_le (1 + max (max a b) (max c (max (max d e) m))) n) flat
  where
    flat : ((f && g) && (h && ((k && l) && o))) ≡ (((((f && g) && h) && k) && l) && o)
    flat =
        and_assoc (f && g) h ((k && l) && o)
        ∙ and_assoc ((f && g) && h) (k && l) o
        ∙ ap (λ x. x && o) (and_assoc ((f && g) && h) k l)

named : (n : ℕ) (a : Bool) → (nat_le 1 n && ((nat_le 1 (n - 1) && a) && true)) ≡ (nat_le 2 n && a)
named n a = grind (arith, nat_tests)

-- what stands in a statement itself, and the statements in it
both_parts : (n : ℕ) (tree : StatementTree) → (nat_le 1 n && (own_parts_stand (n - 1) tree && inner_stands (n - 1) tree)) ≡ statement_stands n tree
both_parts n empty = and-true (nat_le 1 n)
both_parts n (block label list) = refl
both_parts n (assign target amount value) = ap (λ b. nat_le 1 n && b) (and-true (assignment_within (n - 1) target amount value))
both_parts n (nonblocking target amount value) = ap (λ b. nat_le 1 n && b) (and-true (assignment_within (n - 1) target amount value))
both_parts n (trigger letters) = named n (is_name letters)
both_parts n (if_true condition body) = refl
both_parts n (if_else condition body other) = refl
both_parts n (case_of kind value branches) = refl
both_parts n (while_true condition body) = refl
both_parts n (repeat_times count body) = refl
both_parts n (forever body) = refl
both_parts n (for_loop target value condition next_target next_value body) =
    let more = setting_within (n - 1) next_target next_value && statement_stands (n - 1) body in
    ap (λ b. nat_le 1 n && b) (sym (and_assoc (setting_within (n - 1) target value) (fits_value (n - 1) condition) more))
both_parts n (wait_for condition body) = refl
both_parts n (delay amount body) = refl
both_parts n (event control body) = refl
both_parts n (task call) = ap (λ b. nat_le 1 n && b) (and-true (task_within (n - 1) call))

pub parts_stand : (n : ℕ) (tree : StatementTree) → n ≢ 0 → (own_parts_stand (n - 1) tree && inner_stands (n - 1) tree) ≡ statement_stands n tree
parts_stand n tree positive = some_level n (own_parts_stand (n - 1) tree && inner_stands (n - 1) tree) positive ∙ both_parts n tree

mutual
  pub statement_stands_is : (n : ℕ) (tree : StatementTree) → statement_stands n tree ≡ fits_body n tree
  statement_stands_is n empty = refl
  statement_stands_is n (block label list) =
      ap (λ b. nat_le 1 n && (fits_block_name label && b)) (statements_stand_is (n - 1) list)
      ∙ one_deeper n (statements_depth list) (fits_block_name label) (fits_statements list)
  statement_stands_is n (assign target amount value) =
      assigned n (target_depth target) (optional_delay_depth amount) (depth value) (fits_target target) (fits_optional_delay amount) (fits_expression value)
  statement_stands_is n (nonblocking target amount value) =
      assigned n (target_depth target) (optional_delay_depth amount) (depth value) (fits_target target) (fits_optional_delay amount) (fits_expression value)
  statement_stands_is n (trigger letters) = name_last n (is_name letters)
  statement_stands_is n (if_true condition body) =
      ap (λ b. nat_le 1 n && (fits_value (n - 1) condition && b)) (statement_stands_is (n - 1) body)
      ∙ around n (depth condition) (statement_depth body) (fits_expression condition) (fits_statement body)
  statement_stands_is n (if_else condition body other) =
      (λ i. nat_le 1 n && (fits_value (n - 1) condition && (statement_stands_is (n - 1) body i
      && (not (ends_in_if body) && statement_stands_is (n - 1) other i))))
      ∙ chosen n (depth condition) (statement_depth body) (statement_depth other) (fits_expression condition) (not (ends_in_if body))
      (fits_statement body) (fits_statement other)
  statement_stands_is n (case_of kind value branches) =
      ap (λ b. nat_le 1 n && (case_within (n - 1) value branches && b)) (branches_stand_is (n - 1) branches)
      ∙ cased n (depth value) (branches_depth branches) (fits_expression value) (is_some_branch branches) (nat_le (defaults branches) 1)
      (fits_branches branches)
  statement_stands_is n (while_true condition body) =
      ap (λ b. nat_le 1 n && (fits_value (n - 1) condition && b)) (statement_stands_is (n - 1) body)
      ∙ around n (depth condition) (statement_depth body) (fits_expression condition) (fits_statement body)
  statement_stands_is n (repeat_times count body) =
      ap (λ b. nat_le 1 n && (fits_value (n - 1) count && b)) (statement_stands_is (n - 1) body)
      ∙ around n (depth count) (statement_depth body) (fits_expression count) (fits_statement body)
  statement_stands_is n (forever body) =
      ap (λ b. nat_le 1 n && b) (statement_stands_is (n - 1) body) ∙ bare n (statement_depth body) (fits_statement body)
  statement_stands_is n (for_loop target value condition next_target next_value body) =
      ap (λ b. nat_le 1 n && (setting_within (n - 1) target value && (fits_value (n - 1) condition
      && (setting_within (n - 1) next_target next_value && b)))) (statement_stands_is (n - 1) body)
      ∙ counted n (target_depth target) (depth value) (depth condition) (target_depth next_target) (depth next_value) (statement_depth body)
      (fits_target target) (fits_expression value) (fits_expression condition) (fits_target next_target) (fits_expression next_value)
      (fits_statement body)
  statement_stands_is n (wait_for condition body) =
      ap (λ b. nat_le 1 n && (fits_value (n - 1) condition && b)) (statement_stands_is (n - 1) body)
      ∙ around n (depth condition) (statement_depth body) (fits_expression condition) (fits_statement body)
  statement_stands_is n (delay amount body) =
      ap (λ b. nat_le 1 n && ((fits_delay amount && nat_le (delay_depth amount) (n - 1)) && b)) (statement_stands_is (n - 1) body)
      ∙ around n (delay_depth amount) (statement_depth body) (fits_delay amount) (fits_statement body)
  statement_stands_is n (event control body) =
      ap (λ b. nat_le 1 n && ((fits_event control && nat_le (event_depth control) (n - 1)) && b)) (statement_stands_is (n - 1) body)
      ∙ around n (event_depth control) (statement_depth body) (fits_event control) (fits_statement body)
  statement_stands_is n (task call) = bare n (task_depth call) (fits_task call)

  statements_stand_is : (n : ℕ) (trees : StatementTrees) → statements_stand n trees ≡ (fits_statements trees && nat_le (statements_depth trees) n)
  statements_stand_is n no_statement = at_least n
  statements_stand_is n (first_statement one more) =
      (λ i. statement_stands_is n one i && statements_stand_is n more i)
      ∙ first_deeper n (statement_depth one) (statements_depth more) (fits_statement one) (fits_statements more)

  branch_stands_is : (n : ℕ) (tree : BranchTree) → branch_stands n tree ≡ (fits_branch tree && nat_le (branch_depth tree) n)
  branch_stands_is n (labelled labels body) =
      ap (λ b. is_some_part labels && ((fits_parts labels && nat_le (greatest_depth labels) n) && b)) (statement_stands_is n body)
      ∙ labels_first n (greatest_depth labels) (statement_depth body) (is_some_part labels) (fits_parts labels) (fits_statement body)
  branch_stands_is n (default colon body) = statement_stands_is n body

  branches_stand_is : (n : ℕ) (trees : BranchTrees) → branches_stand n trees ≡ (fits_branches trees && nat_le (branches_depth trees) n)
  branches_stand_is n no_branch = at_least n
  branches_stand_is n (first_branch one more) =
      (λ i. branch_stands_is n one i && branches_stand_is n more i)
      ∙ first_deeper n (branch_depth one) (branches_depth more) (fits_branch one) (fits_branches more)

not_empty : (n : ℕ) → true ≡ not (nat_eq (suc n) 0)
not_empty n = grind (arith, nat_tests)

module _ (words : List Text) where
  pub some_targets : (targets : List Target) → is_some_target (target_trees words targets) ≡ not (nat_eq (length targets) 0)
  some_targets [] = refl
  some_targets (one ∷ more) = not_empty (length more)

  pub some_branches : (branches : List Branch) → is_some_branch (branch_trees words branches) ≡ not (nat_eq (length branches) 0)
  some_branches [] = refl
  some_branches (one ∷ more) = not_empty (length more)

  pub tree_of_joined : (at : ℕ) (targets : Vec Target Global) → target_tree words (Joined at targets) ≡ joined (target_trees words targets.items)
  tree_of_joined = told_joined (token_text words)

  pub print_within : (n : ℕ) (e : Task) (kind : Printing) (arguments : Vec Argument Global) (one two : List Argument) → e ≡ Print kind arguments →
      one ≡ arguments.items → two ≡ arguments.items →
      (fits_print kind (map (argument_tree words) one) && list_all (argument_within n) (map (argument_tree words) two)) ≡ task_within n (task_tree words e)
  print_within n e kind arguments one two is same same_too =
      let trees = map (argument_tree words) arguments.items in
      (λ i. fits_print kind (map (argument_tree words) (same i)) && list_all (argument_within n) (map (argument_tree words) (same_too i)))
      ∙ ap (λ b. fits_print kind trees && b) (arguments_are n trees)
      ∙ and_assoc (fits_print kind trees) (list_all fits_argument trees) (nat_le (arguments_depth trees) n)
      ∙ sym (ap (λ (call : Task). task_within n (task_tree words call)) is)

  pub idle_within : (n : ℕ) (e : Task) (kind : Idle) (arguments : Vec Argument Global) (list : List Argument) → e ≡ tasks.Idle kind arguments →
      list ≡ arguments.items → list_all (argument_within n) (map (argument_tree words) list) ≡ task_within n (task_tree words e)
  idle_within n e kind arguments list is same =
      ap (λ (items : List Argument). list_all (argument_within n) (map (argument_tree words) items)) same
      ∙ arguments_are n (map (argument_tree words) arguments.items)
      ∙ sym (ap (λ (call : Task). task_within n (task_tree words call)) is)

  module _ (n : ℕ) (positive : n ≢ 0) where
    pub joined_stands : (e : Target) (at : ℕ) (targets : Vec Target Global) (one two : List Target) → e ≡ Joined at targets →
        one ≡ targets.items → two ≡ targets.items →
        (is_some_target (target_trees words one) && targets_stand (n - 1) (target_trees words two)) ≡ target_stands n (target_tree words e)
    joined_stands e at targets one two is same same_too =
        (λ i. is_some_target (target_trees words (same i)) && targets_stand (n - 1) (target_trees words (same_too i)))
        ∙ some_level n (is_some_target (target_trees words targets.items) && targets_stand (n - 1) (target_trees words targets.items)) positive
        ∙ sym (ap (target_stands n) (ap (target_tree words) is ∙ tree_of_joined at targets))

  pub block_name : (e : Statement) (n : ℕ) (label : Option Token) (list : Vec Statement Global) → e ≡ Block label list →
      fits_block_name (option_map (token_text words) label) ≡ own_parts_stand n (statement_tree words e)
  block_name e n label list is = sym (ap (own_parts_stand n) (ap (statement_tree words) is ∙ tree_of_whole_block words label list))

  pub block_inner : (e : Statement) (n : ℕ) (label : Option Token) (list : Vec Statement Global) (items : List Statement) → e ≡ Block label list →
      items ≡ list.items → statements_stand n (statement_trees words items) ≡ inner_stands n (statement_tree words e)
  block_inner e n label list items is same =
      ap (λ (xs : List Statement). statements_stand n (statement_trees words xs)) same
      ∙ sym (ap (inner_stands n) (ap (statement_tree words) is ∙ tree_of_whole_block words label list))

  module _ (e : Statement) (n : ℕ) (at : ℕ) (kind : CaseKind) (value : Box Expression Global) (branches : Vec Branch Global) (is : e ≡ Case at kind value branches) (items : List Branch) (same : items ≡ branches.items) where
    whole_case : statement_tree words e ≡ case_of kind (boxed_tree words value) (branch_trees words branches.items)
    whole_case = ap (statement_tree words) is ∙ tree_of_case words at kind value branches

    pub case_head : (amount : Expression) → amount ≡ value.value →
        case_within n (tree_of words amount) (branch_trees words items) ≡ own_parts_stand n (statement_tree words e)
    case_head amount valued = (λ i. case_within n (tree_of words (valued i)) (branch_trees words (same i))) ∙ sym (ap (own_parts_stand n) whole_case)

    pub case_inner : branches_stand n (branch_trees words items) ≡ inner_stands n (statement_tree words e)
    case_inner = ap (λ (xs : List Branch). branches_stand n (branch_trees words xs)) same ∙ sym (ap (inner_stands n) whole_case)
