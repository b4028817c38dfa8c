-- Statements are told by their words and by what they are without them.
use Rattle.std.proofs.Common.{◌≡◌, map}
use Rattle.vast.specs.Expressions.{ExpressionOf}
use Rattle.vast.specs.Statements.{TargetOf, TargetsOf, whole, bit, part, joined, none, first, DelayOf, by_number, by_name, by_value, TermOf, FurtherOf, EventOf, by_event, by_any, by_any_enclosed, by_terms, ArgumentOf, quoted, printed, left_out, SelectionOf, TaskOf, print, idle, dump_file, dump_vars, dump, end_run, StatementOf, StatementsOf, empty, block, assign, nonblocking, trigger, if_true, if_else, case_of, while_true, repeat_times, forever, for_loop, wait_for, delay, event, task, no_statement, first_statement, BranchOf, BranchesOf, labelled, default, no_branch, first_branch}
use Rattle.vast.specs.TreeWords.{target_with, targets_with, target_words, targets_words, delay_with, delay_words, term_with, term_words, further_with, further_words, event_with, event_words, argument_with, argument_words, selection_with, path_words, selection_words, digits_words, task_with, task_words, statement_with, statements_with, statement_words, statements_words, branch_with, branches_with, branch_words, branches_words, name_words}
use Rattle.vast.proofs.Refilling.{Filling, pure, word, both, made_to, fill_list, fill_option, Both, two, three, four, Fills, pure_fills, word_fills, both_fills, made_fills, list_fills, words_fill, option_fills, filled_once}
use Rattle.vast.proofs.RefilledExpressions.{fill_expression, fill_expressions, expression_fills, expressions_fills}

-- of what it sets at first, while what, and what it sets each time
abbrev for_pairs : {V : Type 0} →
    Both (TargetOf V) (ExpressionOf V) → ExpressionOf V → Both (TargetOf V) (ExpressionOf V) → StatementOf V → StatementOf V
for_pairs at_first condition each body = for_loop at_first.one at_first.other condition each.one each.other body

-- a statement of this form, with the words of a list
module _ {V W : Type 0} (spare : V) where
  abbrev mutual
    pub fill_target : TargetOf W → Filling V (TargetOf V)
    fill_target (whole letters) = made_to whole (word spare)
    fill_target (bit letters index) = made_to (two bit) (both (word spare) (fill_expression spare index))
    fill_target (part letters left right) = made_to (three part) (both (word spare) (both (fill_expression spare left) (fill_expression spare right)))
    fill_target (joined targets) = made_to joined (fill_targets targets)

    pub fill_targets : TargetsOf W → Filling V (TargetsOf V)
    fill_targets none = pure none
    fill_targets (first one more) = made_to (two first) (both (fill_target one) (fill_targets more))

  abbrev pub fill_delay : DelayOf W → Filling V (DelayOf V)
  fill_delay (by_number digits) = made_to by_number (word spare)
  fill_delay (by_name letters) = made_to by_name (word spare)
  fill_delay (by_value amount) = made_to by_value (fill_expression spare amount)

  abbrev pub fill_term : TermOf W → Filling V (TermOf V)
  fill_term term = made_to (λ a. record { edge = term.edge; name = a }) (word spare)

  abbrev pub fill_further : FurtherOf W → Filling V (FurtherOf V)
  fill_further further = made_to (λ a. record { by_comma = further.by_comma; term = a }) (fill_term further.term)

  abbrev pub fill_event : EventOf W → Filling V (EventOf V)
  fill_event (by_event letters) = made_to by_event (word spare)
  fill_event by_any = pure by_any
  fill_event by_any_enclosed = pure by_any_enclosed
  fill_event (by_terms term further) = made_to (two by_terms) (both (fill_term term) (fill_list fill_further further))

  abbrev pub fill_argument : ArgumentOf W → Filling V (ArgumentOf V)
  fill_argument (quoted letters) = made_to quoted (word spare)
  fill_argument (printed value) = made_to printed (fill_expression spare value)
  fill_argument left_out = pure left_out

  abbrev pub fill_selection : SelectionOf W → Filling V (SelectionOf V)
  fill_selection selection =
      made_to (two (λ a b. record { levels = a; paths = b })) (both (word spare) (fill_list (fill_list (λ x. word spare)) selection.paths))

  abbrev pub fill_task : TaskOf W → Filling V (TaskOf V)
  fill_task (print kind arguments) = made_to (print kind) (fill_list fill_argument arguments)
  fill_task (idle kind arguments) = made_to (idle kind) (fill_list fill_argument arguments)
  fill_task (dump_file letters) = made_to dump_file (word spare)
  fill_task (dump_vars selection) = made_to dump_vars (fill_option fill_selection selection)
  fill_task (dump kind) = pure (dump kind)
  fill_task (end_run stops digits) = made_to (end_run stops) (fill_option (λ x. word spare) digits)

  abbrev mutual
    pub fill_statement : StatementOf W → Filling V (StatementOf V)
    fill_statement empty = pure empty
    fill_statement (block label list) = made_to (two block) (both (fill_option (λ x. word spare) label) (fill_statements list))
    fill_statement (assign target amount value) =
        made_to (three assign) (both (fill_target target) (both (fill_option fill_delay amount) (fill_expression spare value)))
    fill_statement (nonblocking target amount value) =
        made_to (three nonblocking) (both (fill_target target) (both (fill_option fill_delay amount) (fill_expression spare value)))
    fill_statement (trigger letters) = made_to trigger (word spare)
    fill_statement (if_true condition body) = made_to (two if_true) (both (fill_expression spare condition) (fill_statement body))
    fill_statement (if_else condition body other) =
        made_to (three if_else) (both (fill_expression spare condition) (both (fill_statement body) (fill_statement other)))
    fill_statement (case_of kind value branches) = made_to (two (case_of kind)) (both (fill_expression spare value) (fill_branches branches))
    fill_statement (while_true condition body) = made_to (two while_true) (both (fill_expression spare condition) (fill_statement body))
    fill_statement (repeat_times count body) = made_to (two repeat_times) (both (fill_expression spare count) (fill_statement body))
    fill_statement (forever body) = made_to forever (fill_statement body)
    fill_statement (for_loop target value condition next_target next_value body) =
        made_to (four for_pairs) (both (both (fill_target target) (fill_expression spare value)) (both (fill_expression spare condition)
        (both (both (fill_target next_target) (fill_expression spare next_value)) (fill_statement body))))
    fill_statement (wait_for condition body) = made_to (two wait_for) (both (fill_expression spare condition) (fill_statement body))
    fill_statement (delay amount body) = made_to (two delay) (both (fill_delay amount) (fill_statement body))
    fill_statement (event control body) = made_to (two event) (both (fill_event control) (fill_statement body))
    fill_statement (task call) = made_to task (fill_task call)

    pub fill_statements : StatementsOf W → Filling V (StatementsOf V)
    fill_statements no_statement = pure no_statement
    fill_statements (first_statement one more) = made_to (two first_statement) (both (fill_statement one) (fill_statements more))

    pub fill_branch : BranchOf W → Filling V (BranchOf V)
    fill_branch (labelled labels body) = made_to (two labelled) (both (fill_expressions spare labels) (fill_statement body))
    fill_branch (default colon body) = made_to (default colon) (fill_statement body)

    pub fill_branches : BranchesOf W → Filling V (BranchesOf V)
    fill_branches no_branch = pure no_branch
    fill_branches (first_branch one more) = made_to (two first_branch) (both (fill_branch one) (fill_branches more))

-- with its own words it is filled to itself
module _ {V W : Type 0} (f : V → W) (spare : V) where
  mutual
    pub target_fills : (m : TargetOf V) → Fills (fill_target spare (target_with f m)) (target_words m) m
    target_fills (whole letters) = made_fills whole (word_fills spare letters)
    target_fills (bit letters index) = made_fills (two bit) (both_fills (word_fills spare letters) (expression_fills f spare index))
    target_fills (part letters left right) =
        made_fills (three part) (both_fills (word_fills spare letters) (both_fills (expression_fills f spare left)
        (expression_fills f spare right)))
    target_fills (joined targets) = made_fills joined (targets_fills targets)

    pub targets_fills : (m : TargetsOf V) → Fills (fill_targets spare (targets_with f m)) (targets_words m) m
    targets_fills none = pure_fills none
    targets_fills (first one more) = made_fills (two first) (both_fills (target_fills one) (targets_fills more))

  -- amounts of delay
  pub delay_fills : (m : DelayOf V) → Fills (fill_delay spare (delay_with f m)) (delay_words m) m
  delay_fills (by_number digits) = made_fills by_number (word_fills spare digits)
  delay_fills (by_name letters) = made_fills by_name (word_fills spare letters)
  delay_fills (by_value amount) = made_fills by_value (expression_fills f spare amount)

  -- terms of event controls
  pub term_fills : (m : TermOf V) → Fills (fill_term spare (term_with f m)) (term_words m) m
  term_fills term = made_fills (λ a. record { edge = term.edge; name = a }) (word_fills spare term.name)

  -- further terms
  pub further_fills : (m : FurtherOf V) → Fills (fill_further spare (further_with f m)) (further_words m) m
  further_fills further = made_fills (λ a. record { by_comma = further.by_comma; term = a }) (term_fills further.term)

  -- event controls
  pub event_fills : (m : EventOf V) → Fills (fill_event spare (event_with f m)) (event_words m) m
  event_fills (by_event letters) = made_fills by_event (word_fills spare letters)
  event_fills by_any = pure_fills by_any
  event_fills by_any_enclosed = pure_fills by_any_enclosed
  event_fills (by_terms term further) =
      made_fills (two by_terms) (both_fills (term_fills term)
      (list_fills (fill_further spare) (further_with f) further_words further_fills further))

  -- what a printing task is given
  pub argument_fills : (m : ArgumentOf V) → Fills (fill_argument spare (argument_with f m)) (argument_words m) m
  argument_fills (quoted letters) = made_fills quoted (word_fills spare letters)
  argument_fills (printed value) = made_fills printed (expression_fills f spare value)
  argument_fills left_out = pure_fills left_out

  -- what is dumped
  pub selection_fills : (m : SelectionOf V) → Fills (fill_selection spare (selection_with f m)) (selection_words m) m
  selection_fills selection =
      made_fills (two (λ a b. record { levels = a; paths = b })) (both_fills (word_fills spare selection.levels)
      (list_fills (fill_list (λ x. word spare)) (map f) path_words (words_fill spare f) selection.paths))

  -- calls of system tasks
  pub task_fills : (m : TaskOf V) → Fills (fill_task spare (task_with f m)) (task_words m) m
  task_fills (print kind arguments) =
      made_fills (print kind) (list_fills (fill_argument spare) (argument_with f) argument_words argument_fills arguments)
  task_fills (idle kind arguments) =
      made_fills (idle kind) (list_fills (fill_argument spare) (argument_with f) argument_words argument_fills arguments)
  task_fills (dump_file letters) = made_fills dump_file (word_fills spare letters)
  task_fills (dump_vars selection) =
      made_fills dump_vars (option_fills (fill_selection spare) (selection_with f) selection_words selection_fills selection)
  task_fills (dump kind) = pure_fills (dump kind)
  task_fills (end_run stops digits) = made_fills (end_run stops) (option_fills (λ x. word spare) f digits_words (word_fills spare) digits)

  mutual
    pub statement_fills : (m : StatementOf V) → Fills (fill_statement spare (statement_with f m)) (statement_words m) m
    statement_fills empty = pure_fills empty
    statement_fills (block label list) =
        made_fills (two block) (both_fills (option_fills (λ x. word spare) f name_words (word_fills spare) label) (statements_fills list))
    statement_fills (assign target amount value) =
        made_fills (three assign) (both_fills (target_fills target) (both_fills
        (option_fills (fill_delay spare) (delay_with f) delay_words delay_fills amount) (expression_fills f spare value)))
    statement_fills (nonblocking target amount value) =
        made_fills (three nonblocking) (both_fills (target_fills target) (both_fills
        (option_fills (fill_delay spare) (delay_with f) delay_words delay_fills amount) (expression_fills f spare value)))
    statement_fills (trigger letters) = made_fills trigger (word_fills spare letters)
    statement_fills (if_true condition body) = made_fills (two if_true) (both_fills (expression_fills f spare condition) (statement_fills body))
    statement_fills (if_else condition body other) =
        made_fills (three if_else) (both_fills (expression_fills f spare condition) (both_fills (statement_fills body)
        (statement_fills other)))
    statement_fills (case_of kind value branches) =
        made_fills (two (case_of kind)) (both_fills (expression_fills f spare value) (branches_fills branches))
    statement_fills (while_true condition body) = made_fills (two while_true) (both_fills (expression_fills f spare condition) (statement_fills body))
    statement_fills (repeat_times count body) = made_fills (two repeat_times) (both_fills (expression_fills f spare count) (statement_fills body))
    statement_fills (forever body) = made_fills forever (statement_fills body)
    statement_fills (for_loop target value condition next_target next_value body) =
        made_fills (four for_pairs) (both_fills (both_fills (target_fills target) (expression_fills f spare value))
        (both_fills (expression_fills f spare condition)
        (both_fills (both_fills (target_fills next_target) (expression_fills f spare next_value)) (statement_fills body))))
    statement_fills (wait_for condition body) = made_fills (two wait_for) (both_fills (expression_fills f spare condition) (statement_fills body))
    statement_fills (delay amount body) = made_fills (two delay) (both_fills (delay_fills amount) (statement_fills body))
    statement_fills (event control body) = made_fills (two event) (both_fills (event_fills control) (statement_fills body))
    statement_fills (task call) = made_fills task (task_fills call)

    pub statements_fills : (m : StatementsOf V) → Fills (fill_statements spare (statements_with f m)) (statements_words m) m
    statements_fills no_statement = pure_fills no_statement
    statements_fills (first_statement one more) = made_fills (two first_statement) (both_fills (statement_fills one) (statements_fills more))

    pub branch_fills : (m : BranchOf V) → Fills (fill_branch spare (branch_with f m)) (branch_words m) m
    branch_fills (labelled labels body) = made_fills (two labelled) (both_fills (expressions_fills f spare labels) (statement_fills body))
    branch_fills (default colon body) = made_fills (default colon) (statement_fills body)

    pub branches_fills : (m : BranchesOf V) → Fills (fill_branches spare (branches_with f m)) (branches_words m) m
    branches_fills no_branch = pure_fills no_branch
    branches_fills (first_branch one more) = made_fills (two first_branch) (both_fills (branch_fills one) (branches_fills more))

  -- told by its words and by what it is without them
  pub target_once : (m n : TargetOf V) → target_with f m ≡ target_with f n → target_words m ≡ target_words n → m ≡ n
  target_once m n same_form same_words = filled_once (fill_target spare) (target_with f) target_words target_fills m n same_form same_words

  -- told by its words and by what it is without them
  pub statement_once : (m n : StatementOf V) → statement_with f m ≡ statement_with f n → statement_words m ≡ statement_words n → m ≡ n
  statement_once m n same_form same_words = filled_once (fill_statement spare) (statement_with f) statement_words statement_fills m n same_form same_words
