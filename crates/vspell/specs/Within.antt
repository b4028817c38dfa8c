-- *internal*: Whether a tree fits and has so many levels at most, as it is found out on the way down.
use Rattle.std.specs.Prelude.{ℕ, ◌-◌, nat_le, nat_lt, Bool, true, ◌&&◌, not, List, Option}
use Rattle.vwords.specs.Words.{is_name, is_number, is_time}
use Rattle.vast.specs.Expressions.{ExpressionTree, number, name, time, bit, part, parentheses, concatenation, replication, conversion, apply, combine, conditional, ExpressionTrees, none, first, rank, rank_of, unary_rank, is_some_part, fits_parts, greatest_depth}
use Rattle.vast.specs.Statements.{TargetTree, whole, joined, TargetTrees, target_depth, greatest_target_depth, fits_target, fits_targets, is_some_target, DelayTree, delay_depth, fits_delay, optional_delay_depth, fits_optional_delay, EventTree, event_depth, fits_event, ArgumentTree, argument_depth, arguments_depth, fits_argument, TaskTree, task_depth, fits_task, StatementTree, empty, block, assign, nonblocking, trigger, if_true, if_else, case_of, while_true, repeat_times, forever, for_loop, wait_for, delay, event, task, StatementTrees, no_statement, first_statement, BranchTree, labelled, default, BranchTrees, no_branch, first_branch, ends_in_if, is_some_branch, defaults, fits_block_name}
use Rattle.vast.specs.Statements as statements
use Rattle.std.specs.List.{list_all}
use Rattle.vast.specs.Modules.{fits_value}

-- expressions

abbrev mutual
  pub stands : ℕ → ExpressionTree → Bool
  stands levels (number digits) = nat_le 1 levels && is_number digits
  stands levels (name letters) = nat_le 1 levels && is_name letters
  stands levels (time word) = nat_le 1 levels && is_time word
  stands levels (bit letters index) = nat_le 1 levels && (is_name letters && stands (levels - 1) index)
  stands levels (part letters left right) =
      nat_le 1 levels && (is_name letters && (stands (levels - 1) left && stands (levels - 1) right))
  stands levels (parentheses inner) = nat_le 1 levels && stands (levels - 1) inner
  stands levels (concatenation parts) = nat_le 1 levels && (is_some_part parts && all_stand (levels - 1) parts)
  stands levels (replication count parts) =
      nat_le 1 levels && (stands (levels - 1) count && (is_some_part parts && all_stand (levels - 1) parts))
  stands levels (conversion signed operand) = nat_le 1 levels && stands (levels - 1) operand
  stands levels (apply operator operand) = nat_le 1 levels && (nat_le unary_rank (rank_of operand) && stands (levels - 1) operand)
  stands levels (combine operator left right) =
      nat_le 1 levels && (nat_le (rank operator) (rank_of left) && nat_lt (rank operator) (rank_of right)
      && (stands (levels - 1) left && stands (levels - 1) right))
  stands levels (conditional condition when_true when_false) =
      nat_le 1 levels && (nat_lt 0 (rank_of condition) && stands (levels - 1) condition
      && (stands (levels - 1) when_true && stands (levels - 1) when_false))

  pub all_stand : ℕ → ExpressionTrees → Bool
  all_stand levels none = true
  all_stand levels (first one more) = stands levels one && all_stand levels more

abbrev pub parts_within : ℕ → ExpressionTrees → Bool
parts_within levels parts = fits_parts parts && nat_le (greatest_depth parts) levels

-- what an assignment writes to

abbrev mutual
  pub target_stands : ℕ → TargetTree → Bool
  target_stands levels (whole letters) = nat_le 1 levels && is_name letters
  target_stands levels (statements.bit letters index) = nat_le 1 levels && (is_name letters && fits_value (levels - 1) index)
  target_stands levels (statements.part letters left right) =
      nat_le 1 levels && (is_name letters && (fits_value (levels - 1) left && fits_value (levels - 1) right))
  target_stands levels (joined targets) = nat_le 1 levels && (is_some_target targets && targets_stand (levels - 1) targets)

  pub targets_stand : ℕ → TargetTrees → Bool
  targets_stand levels statements.none = true
  targets_stand levels (statements.first one more) = target_stands levels one && targets_stand levels more

abbrev pub target_within : ℕ → TargetTree → Bool
target_within levels target = fits_target target && nat_le (target_depth target) levels

-- what stands in statements beside expressions

abbrev pub delay_within : ℕ → DelayTree → Bool
delay_within levels amount = fits_delay amount && nat_le (delay_depth amount) levels

abbrev pub optional_delay_within : ℕ → Option DelayTree → Bool
optional_delay_within levels amount = fits_optional_delay amount && nat_le (optional_delay_depth amount) levels

abbrev pub event_within : ℕ → EventTree → Bool
event_within levels control = fits_event control && nat_le (event_depth control) levels

abbrev pub argument_within : ℕ → ArgumentTree → Bool
argument_within levels argument = fits_argument argument && nat_le (argument_depth argument) levels

abbrev pub arguments_within : ℕ → List ArgumentTree → Bool
arguments_within levels arguments = list_all fits_argument arguments && nat_le (arguments_depth arguments) levels

abbrev pub task_within : ℕ → TaskTree → Bool
task_within levels call = fits_task call && nat_le (task_depth call) levels

abbrev pub setting_within : ℕ → TargetTree → ExpressionTree → Bool
setting_within levels target value = target_within levels target && fits_value levels value

abbrev pub assignment_within : ℕ → TargetTree → Option DelayTree → ExpressionTree → Bool
assignment_within levels target amount value =
    target_within levels target && optional_delay_within levels amount && fits_value levels value

-- a case, but for its branches
abbrev pub case_within : ℕ → ExpressionTree → BranchTrees → Bool
case_within levels value branches = fits_value levels value && (is_some_branch branches && nat_le (defaults branches) 1)

-- statements

abbrev mutual
  pub statement_stands : ℕ → StatementTree → Bool
  statement_stands levels empty = nat_le 1 levels
  statement_stands levels (block label list) = nat_le 1 levels && (fits_block_name label && statements_stand (levels - 1) list)
  statement_stands levels (assign target amount value) = nat_le 1 levels && assignment_within (levels - 1) target amount value
  statement_stands levels (nonblocking target amount value) = nat_le 1 levels && assignment_within (levels - 1) target amount value
  statement_stands levels (trigger letters) = nat_le 2 levels && is_name letters
  statement_stands levels (if_true condition body) =
      nat_le 1 levels && (fits_value (levels - 1) condition && statement_stands (levels - 1) body)
  statement_stands levels (if_else condition body other) =
      nat_le 1 levels && (fits_value (levels - 1) condition && (statement_stands (levels - 1) body
      && (not (ends_in_if body) && statement_stands (levels - 1) other)))
  statement_stands levels (case_of kind value branches) =
      nat_le 1 levels && (case_within (levels - 1) value branches && branches_stand (levels - 1) branches)
  statement_stands levels (while_true condition body) =
      nat_le 1 levels && (fits_value (levels - 1) condition && statement_stands (levels - 1) body)
  statement_stands levels (repeat_times count body) =
      nat_le 1 levels && (fits_value (levels - 1) count && statement_stands (levels - 1) body)
  statement_stands levels (forever body) = nat_le 1 levels && statement_stands (levels - 1) body
  statement_stands levels (for_loop target value condition next_target next_value body) =
      nat_le 1 levels && (setting_within (levels - 1) target value && (fits_value (levels - 1) condition
      && (setting_within (levels - 1) next_target next_value && statement_stands (levels - 1) body)))
  statement_stands levels (wait_for condition body) =
      nat_le 1 levels && (fits_value (levels - 1) condition && statement_stands (levels - 1) body)
  statement_stands levels (delay amount body) =
      nat_le 1 levels && (delay_within (levels - 1) amount && statement_stands (levels - 1) body)
  statement_stands levels (event control body) =
      nat_le 1 levels && (event_within (levels - 1) control && statement_stands (levels - 1) body)
  statement_stands levels (task call) = nat_le 1 levels && task_within (levels - 1) call

  pub statements_stand : ℕ → StatementTrees → Bool
  statements_stand levels no_statement = true
  statements_stand levels (first_statement one more) = statement_stands levels one && statements_stand levels more

  pub branch_stands : ℕ → BranchTree → Bool
  branch_stands levels (labelled labels body) =
      is_some_part labels && (parts_within levels labels && statement_stands levels body)
  branch_stands levels (default colon body) = statement_stands levels body

  pub branches_stand : ℕ → BranchTrees → Bool
  branches_stand levels no_branch = true
  branches_stand levels (first_branch one more) = branch_stands levels one && branches_stand levels more

-- a statement in two parts, with so many levels below it

-- what stands in it, but for the statements in it, the labels of a case's branches, and what a `for` assigns after its body
abbrev pub own_parts_stand : ℕ → StatementTree → Bool
own_parts_stand levels empty = true
own_parts_stand levels (block label list) = fits_block_name label
own_parts_stand levels (assign target amount value) = assignment_within levels target amount value
own_parts_stand levels (nonblocking target amount value) = assignment_within levels target amount value
own_parts_stand levels (trigger letters) = nat_le 1 levels && is_name letters
own_parts_stand levels (if_true condition body) = fits_value levels condition
own_parts_stand levels (if_else condition body other) = fits_value levels condition
own_parts_stand levels (case_of kind value branches) = case_within levels value branches
own_parts_stand levels (while_true condition body) = fits_value levels condition
own_parts_stand levels (repeat_times count body) = fits_value levels count
own_parts_stand levels (forever body) = true
own_parts_stand levels (for_loop target value condition next_target next_value body) =
    setting_within levels target value && fits_value levels condition
own_parts_stand levels (wait_for condition body) = fits_value levels condition
own_parts_stand levels (delay amount body) = delay_within levels amount
own_parts_stand levels (event control body) = event_within levels control
own_parts_stand levels (task call) = task_within levels call

-- the statements in it, with the labels of a case's branches, and with what a `for` assigns after its body; before an `else` none ends
-- in an `if` without one
abbrev pub inner_stands : ℕ → StatementTree → Bool
inner_stands levels empty = true
inner_stands levels (block label list) = statements_stand levels list
inner_stands levels (assign target amount value) = true
inner_stands levels (nonblocking target amount value) = true
inner_stands levels (trigger letters) = true
inner_stands levels (if_true condition body) = statement_stands levels body
inner_stands levels (if_else condition body other) =
    statement_stands levels body && (not (ends_in_if body) && statement_stands levels other)
inner_stands levels (case_of kind value branches) = branches_stand levels branches
inner_stands levels (while_true condition body) = statement_stands levels body
inner_stands levels (repeat_times count body) = statement_stands levels body
inner_stands levels (forever body) = statement_stands levels body
inner_stands levels (for_loop target value condition next_target next_value body) =
    setting_within levels next_target next_value && statement_stands levels body
inner_stands levels (wait_for condition body) = statement_stands levels body
inner_stands levels (delay amount body) = statement_stands levels body
inner_stands levels (event control body) = statement_stands levels body
inner_stands levels (task call) = true
