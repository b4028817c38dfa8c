-- *internal*: The size of a statement in two parts.
use Rattle.std.specs.Prelude.{ℕ, ◌+◌}
use Rattle.vast.specs.NumberedStatements.{StatementTree, empty, block, assign, nonblocking, trigger, if_true, if_else, case_of, while_true, repeat_times, forever, for_loop, wait_for, delay, event, task}
use Rattle.module_size.specs.Sizes.{expression_size, delay_size, event_size, task_size, assignment_size, pair_size, size_inside, statement_size, statements_size, branches_size}

-- what stands outside of the statements that stand in it
abbrev pub own_size : ℕ → StatementTree → ℕ
own_size path empty = 0
own_size path (block label list) = 0
own_size path (assign target amount value) = assignment_size target amount value
own_size path (nonblocking target amount value) = assignment_size target amount value
own_size path (trigger letters) = 0
own_size path (if_true condition body) = expression_size condition
own_size path (if_else condition body other) = expression_size condition
own_size path (case_of kind value branches) = expression_size value
own_size path (while_true condition body) = expression_size condition
own_size path (repeat_times count body) = expression_size count
own_size path (forever body) = 0
own_size path (for_loop target value condition next_target next_value body) =
    pair_size target value + (expression_size condition + pair_size next_target next_value)
own_size path (wait_for condition body) = expression_size condition
own_size path (delay amount body) = delay_size amount
own_size path (event control body) = event_size control
own_size path (task call) = task_size path call

-- the statements that stand in it
abbrev pub inner_size : ℕ → StatementTree → ℕ
inner_size path empty = 0
inner_size path (block label list) = statements_size (size_inside path label) list
inner_size path (assign target amount value) = 0
inner_size path (nonblocking target amount value) = 0
inner_size path (trigger letters) = 0
inner_size path (if_true condition body) = statement_size path body
inner_size path (if_else condition body other) = statement_size path body + statement_size path other
inner_size path (case_of kind value branches) = branches_size path branches
inner_size path (while_true condition body) = statement_size path body
inner_size path (repeat_times count body) = statement_size path body
inner_size path (forever body) = statement_size path body
inner_size path (for_loop target value condition next_target next_value body) = statement_size path body
inner_size path (wait_for condition body) = statement_size path body
inner_size path (delay amount body) = statement_size path body
inner_size path (event control body) = statement_size path body
inner_size path (task call) = 0
