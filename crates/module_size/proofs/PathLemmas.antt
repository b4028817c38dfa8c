-- What is left behind statements in a scope whose path is too long to be counted: the same as behind those in a scope whose path has just as many letters as
-- can be counted, since no more was left.
use Rattle.std.proofs.Common.{◌≡◌, ◌<◌, ◌≤◌, ℕ, ◌+◌, ◌-◌, ◌==◌, ◌||◌, ◌^◌, min, Bool, true, false, if◌then◌else◌, List, [], ◌∷◌, length, Option, None, Some, refl, arith}
use Rattle.vast.specs.NumberedWords.{Word}
use Rattle.vast.specs.NumberedExpressions as text
use Rattle.vast.specs.NumberedStatements.{ArgumentTree, quoted, printed, left_out, TaskTree, print, idle, dump_file, dump_vars, dump, end_run, StatementTree, StatementTrees, empty, block, assign, nonblocking, trigger, if_true, if_else, case_of, while_true, repeat_times, forever, for_loop, wait_for, delay, event, task, no_statement, first_statement, BranchTree, BranchTrees, labelled, default, no_branch, first_branch}
use Rattle.module_size.specs.Sizes.{size_of, size_if, expression_size, delay_size, event_size, letter_size, argument_size, selection_size, task_size, assignment_size, pair_size, labels_size, size_inside, statement_size, statements_size, branch_size, branches_size}

-- where no more than this is left, both leave the same
abbrev pub Alike : ℕ → ℕ → ℕ → Type 0
Alike most x y = (left : ℕ) → left ≤ most → left - x ≡ left - y

same : (most x : ℕ) → Alike most x x
same most x left within = refl

both : (most x y z w : ℕ) → Alike most x y → Alike most z w → Alike most (x + z) (y + w)
both most x y z w front rest left within =
    let less : left - x ≤ most = omega (arith, within) in
    let one = front left within in
    let other = rest (left - x) less in
    omega (arith, one, other)

behind : (most a x y : ℕ) → Alike most x y → Alike most (a + x) (a + y)
behind most a x y rest = both most a a x y (same most a) rest

-- the largest number stands for every larger one
pub saturated : (most path whole : ℕ) → most < 2 ^ 64 → path ≡ min whole (2 ^ 64 - 1) → Alike most path whole
saturated most path whole small is left within = omega (arith, small, is, within)

inside_same : (most p q : ℕ) → Alike most p q → (label : Option Word) → Alike most (size_inside p label) (size_inside q label)
inside_same most p q alike None = alike
inside_same most p q alike (Some name) = both most p q (1 + length name.letters) (1 + length name.letters) alike (same most (1 + length name.letters))

-- in one scope
module _ (most p q : ℕ) (alike : Alike most p q) where
  chosen : (b : Bool) → Alike most (if b then 1 + p else 1) (if b then 1 + q else 1)
  chosen true = behind most 1 p q alike
  chosen false = same most 1

  letters_same : (letters : List ℕ) → Alike most (size_of (letter_size p) letters) (size_of (letter_size q) letters)
  letters_same [] = same most 0
  letters_same (c ∷ cs) = both most (letter_size p c) (letter_size q c) _ _ (chosen ((c == 37) || (c == 92))) (letters_same cs)

  argument_same : (argument : ArgumentTree) → Alike most (argument_size p argument) (argument_size q argument)
  argument_same (quoted word) = behind most 1 _ _ (letters_same word.letters)
  argument_same (printed value) = same most (expression_size value)
  argument_same left_out = same most 2

  arguments_same : (arguments : List ArgumentTree) → Alike most (size_of (argument_size p) arguments) (size_of (argument_size q) arguments)
  arguments_same [] = same most 0
  arguments_same (one ∷ more) = both most (argument_size p one) (argument_size q one) _ _ (argument_same one) (arguments_same more)

  task_same : (call : TaskTree) → Alike most (task_size p call) (task_size q call)
  task_same (print kind arguments) = arguments_same arguments
  task_same (idle kind arguments) = same most 0
  task_same (dump_file letters) = same most 0
  task_same (dump_vars selection) = same most (size_if selection_size selection)
  task_same (dump kind) = same most 0
  task_same (end_run stops digits) = same most 0

labels_same : (most x y : ℕ) → Alike most x y → (items : text.ExpressionTrees) → Alike most (labels_size x items) (labels_size y items)
labels_same most x y alike text.none = same most 0
labels_same most x y alike (text.first item more) =
    both most (expression_size item + x) (expression_size item + y) _ _ (behind most (expression_size item) x y alike) (labels_same most x y alike more)

mutual
  statement_same : (most p q : ℕ) → Alike most p q → (s : StatementTree) → Alike most (statement_size p s) (statement_size q s)
  statement_same most p q alike empty = same most 1
  statement_same most p q alike (block label list) =
      behind most 1 _ _ (statements_same most (size_inside p label) (size_inside q label) (inside_same most p q alike label) list)
  statement_same most p q alike (assign target amount value) = same most (1 + assignment_size target amount value)
  statement_same most p q alike (nonblocking target amount value) = same most (1 + assignment_size target amount value)
  statement_same most p q alike (trigger letters) = same most 1
  statement_same most p q alike (if_true condition body) =
      behind most 1 _ _ (behind most (expression_size condition) _ _ (statement_same most p q alike body))
  statement_same most p q alike (if_else condition body other) =
      behind most 1 _ _ (behind most (expression_size condition) _ _
      (both most (statement_size p body) (statement_size q body) _ _ (statement_same most p q alike body) (statement_same most p q alike other)))
  statement_same most p q alike (case_of kind value branches) =
      behind most 1 _ _ (behind most (expression_size value) _ _ (branches_same most p q alike branches))
  statement_same most p q alike (while_true condition body) =
      behind most 1 _ _ (behind most (expression_size condition) _ _ (statement_same most p q alike body))
  statement_same most p q alike (repeat_times count body) =
      behind most 1 _ _ (behind most (expression_size count) _ _ (statement_same most p q alike body))
  statement_same most p q alike (forever body) = behind most 1 _ _ (statement_same most p q alike body)
  statement_same most p q alike (for_loop target value condition next_target next_value body) =
      behind most 1 _ _ (behind most (pair_size target value) _ _ (behind most (expression_size condition) _ _
      (behind most (pair_size next_target next_value) _ _ (statement_same most p q alike body))))
  statement_same most p q alike (wait_for condition body) =
      behind most 1 _ _ (behind most (expression_size condition) _ _ (statement_same most p q alike body))
  statement_same most p q alike (delay amount body) =
      behind most 1 _ _ (behind most (delay_size amount) _ _ (statement_same most p q alike body))
  statement_same most p q alike (event control body) =
      behind most 1 _ _ (behind most (event_size control) _ _ (statement_same most p q alike body))
  statement_same most p q alike (task call) = behind most 1 _ _ (task_same most p q alike call)

  pub statements_same : (most p q : ℕ) → Alike most p q → (list : StatementTrees) → Alike most (statements_size p list) (statements_size q list)
  statements_same most p q alike no_statement = same most 0
  statements_same most p q alike (first_statement one more) =
      both most (statement_size p one) (statement_size q one) _ _ (statement_same most p q alike one) (statements_same most p q alike more)

  branch_same : (most p q : ℕ) → Alike most p q → (branch : BranchTree) → Alike most (branch_size p branch) (branch_size q branch)
  branch_same most p q alike (labelled items body) =
      labels_same most (statement_size p body) (statement_size q body) (statement_same most p q alike body) items
  branch_same most p q alike (default colon body) = statement_same most p q alike body

  branches_same : (most p q : ℕ) → Alike most p q → (list : BranchTrees) → Alike most (branches_size p list) (branches_size q list)
  branches_same most p q alike no_branch = same most 0
  branches_same most p q alike (first_branch one more) =
      both most (branch_size p one) (branch_size q one) _ _ (branch_same most p q alike one) (branches_same most p q alike more)
